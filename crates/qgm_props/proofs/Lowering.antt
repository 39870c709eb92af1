-- Firings of class magic lower the measure.
use Rattle.std.proofs.Common.{ℕ, ◌≡◌, ◌≤◌, ◌+◌, cond, not, Bool, true, false, List, ◌∷◌, ◌++◌, refl, ap, subst, ◌∙◌, arith}
use Rattle.list_laws.specs.Lists.{In}
use Rattle.qgm_core.specs.declared.node.Node.{Node}
use Rattle.qgm_props.specs.Calm.{is_closed}
use Rattle.qgm_props.specs.Lowering.{AbsorbLowers, Absorbs, FeedLowers, SingleLowers, Singles, Stays}
use Rattle.qgm_props.specs.Measure.{Lowers, fed_in, is_fed_box, is_loose_scalar, is_open, many, summed}
use Rattle.qgm_props.proofs.Many.{many-append, many-fewer, many-none, one-less, summed-append, summed-less}
use Rattle.list_laws.proofs.Membership.{in-left, in-right}

not-closed : (a b : Bool) → (a ≡ true → b ≡ true) → not b ≡ true → not a ≡ true
not-closed true b h k = absurd (let e = h refl in let f : not true ≡ true = subst (λ z. not z ≡ true) e k in let z : ⊥ = cc in z)
not-closed false b h k = refl

scalars_in : List Node → Node → ℕ
scalars_in boxes n = many (is_loose_scalar boxes) n.quants

module _ (xs hs ns : List Node) (stays : (n : Node) → In n ns → Stays xs hs n) where
  opens : many (is_open hs) ns ≤ many (is_open xs) ns
  opens = many-fewer (is_open hs) (is_open xs) ns (λ n i. not-closed (is_closed xs n.id) (is_closed hs n.id) (stays n i).closed)

  scalars : summed (λ n. many (is_loose_scalar hs) n.quants) ns ≤ summed (λ n. many (is_loose_scalar xs) n.quants) ns
  scalars = summed-less (λ n. many (is_loose_scalar hs) n.quants) (λ n. many (is_loose_scalar xs) n.quants) ns (λ n i. many-fewer (is_loose_scalar hs) (is_loose_scalar xs) n.quants (λ r j. (stays n i).scalars r j))

module _ (up l1 l2 rs : List Node) (d c : Node) (xs hs : List Node) (a : Absorbs up l1 l2 rs d c xs hs) where
  abbrev sx : Node → ℕ
  sx n = many (is_loose_scalar xs) n.quants

  abbrev sh : Node → ℕ
  sh n = many (is_loose_scalar hs) n.quants

  lowers : Lowers xs hs
  lowers =
      let ox : many (is_open xs) xs ≡ many (is_open xs) up + (cond (is_open xs d) 1 0 + (many (is_open xs) l1 + (cond (is_open xs c) 1 0 + many (is_open xs) l2))) =
      ap (many (is_open xs)) a.before ∙ many-append (is_open xs) up (d ∷ (l1 ++ c ∷ l2)) ∙ ap (λ k. many (is_open xs) up + (cond (is_open xs d) 1 0 + k)) (many-append (is_open xs) l1 (c ∷ l2)) in
      let oh : many (is_open hs) hs ≡ many (is_open hs) up + (many (is_open hs) rs + (many (is_open hs) l1 + many (is_open hs) l2)) =
      ap (many (is_open hs)) a.after ∙ many-append (is_open hs) up (rs ++ (l1 ++ l2)) ∙ ap (λ k. many (is_open hs) up + k) (many-append (is_open hs) rs (l1 ++ l2) ∙ ap (λ k. many (is_open hs) rs + k) (many-append (is_open hs) l1 l2)) in
      let tx : summed sx xs ≡ summed sx up + (sx d + (summed sx l1 + (sx c + summed sx l2))) =
      ap (summed sx) a.before ∙ summed-append sx up (d ∷ (l1 ++ c ∷ l2)) ∙ ap (λ k. summed sx up + (sx d + k)) (summed-append sx l1 (c ∷ l2)) in
      let th : summed sh hs ≡ summed sh up + (summed sh rs + (summed sh l1 + summed sh l2)) =
      ap (summed sh) a.after ∙ summed-append sh up (rs ++ (l1 ++ l2)) ∙ ap (λ k. summed sh up + k) (summed-append sh rs (l1 ++ l2) ∙ ap (λ k. summed sh rs + k) (summed-append sh l1 l2)) in
      let fx : fed_in xs ≡ many is_fed_box up + (cond (is_fed_box d) 1 0 + (many is_fed_box l1 + (cond (is_fed_box c) 1 0 + many is_fed_box l2))) =
      ap (many is_fed_box) a.before ∙ many-append is_fed_box up (d ∷ (l1 ++ c ∷ l2)) ∙ ap (λ k. many is_fed_box up + (cond (is_fed_box d) 1 0 + k)) (many-append is_fed_box l1 (c ∷ l2)) in
      let fh : fed_in hs ≡ many is_fed_box up + (many is_fed_box rs + (many is_fed_box l1 + many is_fed_box l2)) =
      ap (many is_fed_box) a.after ∙ many-append is_fed_box up (rs ++ (l1 ++ l2)) ∙ ap (λ k. many is_fed_box up + k) (many-append is_fed_box rs (l1 ++ l2) ∙ ap (λ k. many is_fed_box rs + k) (many-append is_fed_box l1 l2)) in
      let o1 = opens xs hs up a.stays_up in let o2 = opens xs hs l1 a.stays_left in let o3 = opens xs hs l2 a.stays_right in
      let t1 = scalars xs hs up a.stays_up in let t2 = scalars xs hs l1 a.stays_left in let t3 = scalars xs hs l2 a.stays_right in
      let t4 : summed sh rs ≤ sx c = a.scalars in
      let closed : many (is_open hs) rs ≡ 0 = many-none (is_open hs) rs (λ n i. ap not (a.closed n i)) in
      let c1 : cond (is_open xs c) 1 0 ≡ ◌+◌ 1 0 = ap (λ b. cond (not b) 1 0) a.opened ∙ omega arith in
      let d1 : cond (is_fed_box d) 1 0 ≡ ◌+◌ 1 0 = ap (λ b. cond b 1 0) a.fed ∙ omega arith in
      let c2 : cond (is_fed_box c) 1 0 ≡ ◌+◌ 0 0 = ap (λ b. cond b 1 0) a.not_fed ∙ omega arith in
      omega (arith, ox, oh, tx, th, fx, fh, o1, o2, o3, t1, t2, t3, t4, closed, c1, d1, c2)

pub absorb-lowers : AbsorbLowers
absorb-lowers = λ up l1 l2 rs d c xs hs a. lowers up l1 l2 rs d c xs hs a

module _ (up mid low : List Node) (o o' s : Node) (xs hs : List Node) (a : Singles up mid low o o' s xs hs) where
  abbrev zx : Node → ℕ
  zx n = many (is_loose_scalar xs) n.quants

  abbrev zh : Node → ℕ
  zh n = many (is_loose_scalar hs) n.quants

  single : Lowers xs hs
  single =
      let ox : many (is_open xs) xs ≡ many (is_open xs) up + (cond (is_open xs o) 1 0 + (many (is_open xs) mid + many (is_open xs) low)) =
      ap (many (is_open xs)) a.before ∙ many-append (is_open xs) up (o ∷ (mid ++ low)) ∙ ap (λ k. many (is_open xs) up + (cond (is_open xs o) 1 0 + k)) (many-append (is_open xs) mid low) in
      let oh : many (is_open hs) hs ≡ many (is_open hs) up + (cond (is_open hs o') 1 0 + (many (is_open hs) mid + (cond (is_open hs s) 1 0 + many (is_open hs) low))) =
      ap (many (is_open hs)) a.after ∙ many-append (is_open hs) up (o' ∷ (mid ++ s ∷ low)) ∙ ap (λ k. many (is_open hs) up + (cond (is_open hs o') 1 0 + k)) (many-append (is_open hs) mid (s ∷ low)) in
      let tx : summed zx xs ≡ summed zx up + (zx o + (summed zx mid + summed zx low)) =
      ap (summed zx) a.before ∙ summed-append zx up (o ∷ (mid ++ low)) ∙ ap (λ k. summed zx up + (zx o + k)) (summed-append zx mid low) in
      let th : summed zh hs ≡ summed zh up + (zh o' + (summed zh mid + (zh s + summed zh low))) =
      ap (summed zh) a.after ∙ summed-append zh up (o' ∷ (mid ++ s ∷ low)) ∙ ap (λ k. summed zh up + (zh o' + k)) (summed-append zh mid (s ∷ low)) in
      let fx : fed_in xs ≡ many is_fed_box up + (cond (is_fed_box o) 1 0 + (many is_fed_box mid + many is_fed_box low)) =
      ap (many is_fed_box) a.before ∙ many-append is_fed_box up (o ∷ (mid ++ low)) ∙ ap (λ k. many is_fed_box up + (cond (is_fed_box o) 1 0 + k)) (many-append is_fed_box mid low) in
      let fh : fed_in hs ≡ many is_fed_box up + (cond (is_fed_box o') 1 0 + (many is_fed_box mid + (cond (is_fed_box s) 1 0 + many is_fed_box low))) =
      ap (many is_fed_box) a.after ∙ many-append is_fed_box up (o' ∷ (mid ++ s ∷ low)) ∙ ap (λ k. many is_fed_box up + (cond (is_fed_box o') 1 0 + k)) (many-append is_fed_box mid (s ∷ low)) in
      let su : (n : Node) → In n up → Stays xs hs n = λ n i. a.stays n (in-left n up (mid ++ low) i) in
      let sm : (n : Node) → In n mid → Stays xs hs n = λ n i. a.stays n (in-right n up (mid ++ low) (in-left n mid low i)) in
      let sl : (n : Node) → In n low → Stays xs hs n = λ n i. a.stays n (in-right n up (mid ++ low) (in-right n mid low i)) in
      let o1 = opens xs hs up su in let o2 = opens xs hs mid sm in let o3 = opens xs hs low sl in
      let t1 = scalars xs hs up su in let t2 = scalars xs hs mid sm in let t3 = scalars xs hs low sl in
      let t4 : zh o' + 1 ≤ zx o = a.one_less in
      let t5 : zh s ≡ 0 = a.none in
      let o4 : cond (is_open hs o') 1 0 ≤ cond (is_open xs o) 1 0 = one-less (is_open hs o') (is_open xs o) (not-closed (is_closed xs o.id) (is_closed hs o'.id) a.same.0) in
      let o5 : cond (is_open hs s) 1 0 ≤ 1 = at-most (is_open hs s) in
      let f1 : ◌≡◌ {A = ℕ} (cond (is_fed_box o) 1 0) (cond (is_fed_box o') 1 0) = ap (λ b. cond b 1 0) a.same.1 in
      let f2 : cond (is_fed_box s) 1 0 ≡ ◌+◌ 0 0 = ap (λ b. cond b 1 0) a.new ∙ omega arith in
      omega (arith, ox, oh, tx, th, fx, fh, o1, o2, o3, o4, o5, t1, t2, t3, t4, t5, f1, f2)
    where
      at-most : (b : Bool) → cond b 1 0 ≤ 1
      at-most true = omega arith
      at-most false = omega arith

pub single-lowers : SingleLowers
single-lowers = λ up mid low o o' s xs hs a. single up mid low o o' s xs hs a

pub feed-lowers : FeedLowers
feed-lowers = λ xs hs a. (let o = a.opened in let t = a.scalars in let f = a.fed in omega (arith, o, t, f))
