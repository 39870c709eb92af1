-- G4 with an open right operand lowers the measure.
use Rattle.std.proofs.Common.{ℕ, ◌==◌, ◌≡◌, ◌≤◌, ◌+◌, cond, not, true, false, List, [], ◌∷◌, ◌++◌, map, Some, refl, sym, ap, ap₂, subst, ◌∙◌, eqb-true, inl, inr, arith}
use Rattle.std.proofs.lemmas.Bool.{cases_Bool}
use Rattle.sql_value.specs.declared.order_key.SqlType.{SqlType}
use Rattle.qgm_core.specs.Boxes.{QueryGraph, is_box, width}
use Rattle.qgm_core.specs.Kinds.{is_fed}
use Rattle.list_laws.specs.Lists.{In, first}
use Rattle.qgm_core.specs.declared.kinds.Role.{Role}
use Rattle.qgm_core.specs.declared.kinds.SetOperator.{SetOperator}
use Rattle.qgm_core.specs.declared.node.Node.{Node}
use Rattle.qgm_core.specs.declared.owned.OwnedQuant.{OwnedQuant}
use Rattle.qgm_edit_laws.specs.Graph.{Sound}
use Rattle.qgm_edit_laws.proofs.FreeLoose.{free-looks}
use Rattle.qgm_edit_laws.proofs.Ranks.{has-in}
use Rattle.qgm_edit_laws.proofs.Scope.{in-first}
use Rattle.qgm_meaning.specs.Scope.{loose, put_node}
use Rattle.qgm_meaning.specs.Tags.{columns_from}
use Rattle.qgm_props.specs.Calm.{is_closed}
use Rattle.qgm_props.specs.Inferred.{Facts}
use Rattle.qgm_props.specs.Lowering.{Stays}
use Rattle.qgm_props.specs.Measure.{Lowers, fed_in, is_fed_box, is_keyless, is_loose_scalar, is_open, keyless_found, many, summed}
use Rattle.qgm_props.proofs.Many.{many-append, many-fewer, many-none, one-less, summed-append}
use Rattle.rule_magic.specs.AbsorbSetOperation.{SetAt, SetOpenLowers, renamed_set}
use Rattle.rule_magic.specs.Boxes.{pair_box, set_box}
use Rattle.rule_magic.specs.Places.{MayAbsorb}
use Rattle.rule_magic.specs.Region.{is_below}
use Rattle.rule_magic.proofs.AbsorbFacts as fed
use Rattle.rule_magic.proofs.AbsorbOpenSet as after
use Rattle.rule_magic.proofs.AbsorbSelectFormed as one
use Rattle.rule_magic.proofs.AbsorbSelectFormed.{map-append}
use Rattle.rule_magic.proofs.AbsorbSetFormed as made
use Rattle.rule_magic.proofs.AbsorbShared.{closed-looks, loose-scalar, looks-closed}
use Rattle.rule_magic.proofs.CalmFires.{closed-is}
use Rattle.qgm_core.proofs.Reaching.{in-has, overs-held}

-- boxes of which others of the same numbers, quantifiers and roles stand in the graph after it
module _ (xs hs : List Node) (f : Node → Node) (ids : (n : Node) → (f n).id ≡ n.id) (quants : (n : Node) → (f n).quants ≡ n.quants) (roles : (n : Node) → is_fed_box (f n) ≡ is_fed_box n) where
  opens : (ns : List Node) → ((n : Node) → In n ns → Stays xs hs n) → many (is_open hs) (map f ns) ≤ many (is_open xs) ns
  opens [] k = omega arith
  opens (n ∷ ns) k =
      let rest = opens ns (λ v j. k v (inr j)) in
      let this = one-less (is_open hs (f n)) (is_open xs n) (λ h. elim (cases_Bool (is_closed xs n.id)) [
        | inr e ↦ ap not e
        | inl e ↦ absurd (let z : not true ≡ true = subst (λ b. not b ≡ true) (ap (is_closed hs) (ids n) ∙ (k n (inl refl)).closed e) h in let o : ⊥ = cc in o)
      ]) in
      omega (arith, rest, this)

  scalars : (ns : List Node) → ((n : Node) → In n ns → Stays xs hs n) → summed (λ (n : Node). many (is_loose_scalar hs) n.quants) (map f ns) ≤ summed (λ (n : Node). many (is_loose_scalar xs) n.quants) ns
  scalars [] k = omega arith
  scalars (n ∷ ns) k =
      let rest = scalars ns (λ v j. k v (inr j)) in
      let same = ap (many (is_loose_scalar hs)) (quants n) in
      let this = many-fewer (is_loose_scalar hs) (is_loose_scalar xs) n.quants (λ r j. (k n (inl refl)).scalars r j) in
      omega (arith, rest, same, this)

  feds : (ns : List Node) → many is_fed_box (map f ns) ≡ many is_fed_box ns
  feds [] = refl
  feds (n ∷ ns) = ap₂ (λ b k. cond b 1 0 + k) (roles n) (feds ns)

  module _ (up l1 l2 rs : List Node) (d c : Node) (before : xs ≡ up ++ d ∷ (l1 ++ c ∷ l2)) (after : hs ≡ map f (up ++ (rs ++ (l1 ++ l2)))) (fed : is_fed_box d ≡ true) (opened : is_closed xs c.id ≡ false) (not_fed : is_fed_box c ≡ false)
      (new_open : many (is_open hs) (map f rs) ≡ 0) (new_scalars : summed (λ (n : Node). many (is_loose_scalar hs) n.quants) (map f rs) ≡ 0)
      (su : (n : Node) → In n up → Stays xs hs n) (s1 : (n : Node) → In n l1 → Stays xs hs n) (s2 : (n : Node) → In n l2 → Stays xs hs n) where
    abbrev sx : Node → ℕ
    sx n = many (is_loose_scalar xs) n.quants

    abbrev sh : Node → ℕ
    sh n = many (is_loose_scalar hs) n.quants

    parts : hs ≡ map f up ++ (map f rs ++ (map f l1 ++ map f l2))
    parts = after ∙ map-append f up (rs ++ (l1 ++ l2)) ∙ ap (λ (k : List Node). map f up ++ k) (map-append f rs (l1 ++ l2) ∙ ap (λ (k : List Node). map f rs ++ k) (map-append f l1 l2))

    pub lowers-mapped : Lowers xs hs
    lowers-mapped =
        let ox : many (is_open xs) xs ≡ many (is_open xs) up + (cond (is_open xs d) 1 0 + (many (is_open xs) l1 + (cond (is_open xs c) 1 0 + many (is_open xs) l2))) =
        ap (many (is_open xs)) before ∙ many-append (is_open xs) up (d ∷ (l1 ++ c ∷ l2)) ∙ ap (λ k. many (is_open xs) up + (cond (is_open xs d) 1 0 + k)) (many-append (is_open xs) l1 (c ∷ l2)) in
        let oh : many (is_open hs) hs ≡ many (is_open hs) (map f up) + (many (is_open hs) (map f rs) + (many (is_open hs) (map f l1) + many (is_open hs) (map f l2))) =
        ap (many (is_open hs)) parts ∙ many-append (is_open hs) (map f up) (map f rs ++ (map f l1 ++ map f l2)) ∙ ap (λ k. many (is_open hs) (map f up) + k) (many-append (is_open hs) (map f rs) (map f l1 ++ map f l2) ∙ ap (λ k. many (is_open hs) (map f rs) + k) (many-append (is_open hs) (map f l1) (map f l2))) in
        let tx : summed sx xs ≡ summed sx up + (sx d + (summed sx l1 + (sx c + summed sx l2))) =
        ap (summed sx) before ∙ summed-append sx up (d ∷ (l1 ++ c ∷ l2)) ∙ ap (λ k. summed sx up + (sx d + k)) (summed-append sx l1 (c ∷ l2)) in
        let th : summed sh hs ≡ summed sh (map f up) + (summed sh (map f rs) + (summed sh (map f l1) + summed sh (map f l2))) =
        ap (summed sh) parts ∙ summed-append sh (map f up) (map f rs ++ (map f l1 ++ map f l2)) ∙ ap (λ k. summed sh (map f up) + k) (summed-append sh (map f rs) (map f l1 ++ map f l2) ∙ ap (λ k. summed sh (map f rs) + k) (summed-append sh (map f l1) (map f l2))) in
        let fx : fed_in xs ≡ many is_fed_box up + (cond (is_fed_box d) 1 0 + (many is_fed_box l1 + (cond (is_fed_box c) 1 0 + many is_fed_box l2))) =
        ap (many is_fed_box) before ∙ many-append is_fed_box up (d ∷ (l1 ++ c ∷ l2)) ∙ ap (λ k. many is_fed_box up + (cond (is_fed_box d) 1 0 + k)) (many-append is_fed_box l1 (c ∷ l2)) in
        let fh : fed_in hs ≡ many is_fed_box (map f up) + (many is_fed_box (map f rs) + (many is_fed_box (map f l1) + many is_fed_box (map f l2))) =
        ap (many is_fed_box) parts ∙ many-append is_fed_box (map f up) (map f rs ++ (map f l1 ++ map f l2)) ∙ ap (λ k. many is_fed_box (map f up) + k) (many-append is_fed_box (map f rs) (map f l1 ++ map f l2) ∙ ap (λ k. many is_fed_box (map f rs) + k) (many-append is_fed_box (map f l1) (map f l2))) in
        let o1 = opens up su in let o2 = opens l1 s1 in let o3 = opens l2 s2 in
        let t1 = scalars up su in let t2 = scalars l1 s1 in let t3 = scalars l2 s2 in
        let f1 = feds up in let f2 = feds l1 in let f3 = feds l2 in
        let c1 : cond (is_open xs c) 1 0 ≡ ◌+◌ 1 0 = ap (λ b. cond (not b) 1 0) opened ∙ omega arith in
        let d1 : cond (is_fed_box d) 1 0 ≡ ◌+◌ 1 0 = ap (λ b. cond b 1 0) fed ∙ omega arith in
        let c2 : cond (is_fed_box c) 1 0 ≡ ◌+◌ 0 0 = ap (λ b. cond b 1 0) not_fed ∙ omega arith in
        omega (arith, ox, oh, tx, th, fx, fh, o1, o2, o3, t1, t2, t3, f1, f2, f3, new_open, new_scalars, c1, d1, c2)

module _ (g : QueryGraph) (known : Facts) (d : Node) (may : MayAbsorb g.boxes known d) (form : SetOperator) (ts mt : List SqlType) (l r1 : OwnedQuant) (x y : Node) (s u p : ℕ) (lr rr : Role) (up l1 l2 : List Node) (at : SetAt g known d may form ts mt l r1 x y s u p up l1 l2) (opened : loose g.boxes y.id may.a.id ≡ true) where
  abbrev c : Node
  c = may.c

  abbrev hs : List Node
  hs = (renamed_set g known d may form mt l r1 x y s u p lr rr up l1 l2).boxes

  abbrev ren : Node → Node
  ren n = cond (is_below g.boxes r1.over n.id) (put_node may.a.id (columns_from p 1 (width may.m)) n) n

  abbrev d' : Node
  d' = set_box d.id form mt may.r.id may.c.id u s

  abbrev s' : Node
  s' = pair_box s rr p may.m.id (width may.m) r1.id y.id (width y)

  abbrev c' : Node
  c' = pair_box may.c.id lr may.a.id may.m.id (width may.m) l.id x.id (width x)

  w : Sound g.boxes g.root
  w = made.w g known d may form ts mt l r1 x y s u p lr rr up l1 l2 at

  v : Sound hs g.root
  v = after.sound-after g known d may form ts mt l r1 x y s u p lr rr up l1 l2 at opened

  closed-by : (n : Node) → In n hs → ((q : ℕ) → after.looks_of g.boxes may.c.id r1.over may.a.id p n.id q ≡ false) → is_closed hs n.id ≡ true
  closed-by n j f = looks-closed hs g.root v n.id (λ q. after.looks-after g known d may form ts mt l r1 x y s u p lr rr up l1 l2 at opened n.id q (in-has n hs j) ∙ f q)

  whole-same : (z : OwnedQuant) (n : Node) → In n g.boxes → n.id ≡ z.over → (z.over == c.id) ≡ false → keyless_found (first (is_box z.over) hs) ≡ keyless_found (first (is_box z.over) g.boxes)
  whole-same z n i e f = elim (cases_Bool (n.id == d.id)) [
    | inl t ↦ (
        let over : d.id ≡ z.over = sym (eqb-true n.id d.id t) ∙ e in
        ap keyless_found (subst (λ b. first (is_box b) hs ≡ Some d') over (in-first d' hs v.ordered (after.in-d' g known d may form ts mt l r1 x y s u p lr rr up l1 l2 at opened)))
        ∙ sym (ap keyless_found (subst (λ b. first (is_box b) g.boxes ≡ Some d) over (in-first d g.boxes w.ordered may.in_d)) ∙ ap is_keyless (fed.kind_d g at.once at.formed known at.tells d may)))
    | inr k ↦ (
        let j = after.in-ren g known d may form ts mt l r1 x y s u p lr rr up l1 l2 at opened n (made.to-hs g known d may form ts mt l r1 x y s u p lr rr up l1 l2 at n i k (subst (λ b. (b == c.id) ≡ false) (sym e) f)) in
        ap keyless_found (subst (λ b. first (is_box b) hs ≡ Some (ren n)) (after.ren-id g known d may form ts mt l r1 x y s u p lr rr up l1 l2 at opened n ∙ e) (in-first (ren n) hs v.ordered j)) ∙ after.ren-by g known d may form ts mt l r1 x y s u p lr rr up l1 l2 at opened (λ (n : Node). is_keyless n.parts.kind) (λ n. refl) n
        ∙ sym (ap keyless_found (subst (λ b. first (is_box b) g.boxes ≡ Some n) e (in-first n g.boxes w.ordered i))))
  ]

  stays : (n : Node) → In n g.boxes → (n.id == d.id) ≡ false → (n.id == c.id) ≡ false → Stays g.boxes hs n
  stays n i nd nc = record {
    closed = λ t. subst (λ b. is_closed hs b ≡ true) (after.ren-id g known d may form ts mt l r1 x y s u p lr rr up l1 l2 at opened n)
        (closed-by (ren n) (after.in-ren g known d may form ts mt l r1 x y s u p lr rr up l1 l2 at opened n (made.to-hs g known d may form ts mt l r1 x y s u p lr rr up l1 l2 at n i nd nc)) (λ q. ap (λ b. after.looks_of g.boxes may.c.id r1.over may.a.id p b q) (after.ren-id g known d may form ts mt l r1 x y s u p lr rr up l1 l2 at opened n) ∙ after.look-closed g known d may form ts mt l r1 x y s u p lr rr up l1 l2 at opened n.id (closed-looks g.boxes g.root w n.id t) q));
    scalars = λ z k t. (
        let f = made.elsewhere g known d may form ts mt l r1 x y s u p lr rr up l1 l2 at n z i nd k in
        let b = has-in z.over g.boxes (overs-held g.boxes n z w.ordered i k) in
        loose-scalar g.boxes hs z (whole-same z b.0 b.1.0 b.1.1 f) t);
  }

  new-same : map (λ (n : Node). cond (is_below g.boxes r1.over n.id) (put_node may.a.id (columns_from p 1 (width may.m)) n) n) (d' ∷ (s' ∷ (c' ∷ []))) ≡ d' ∷ (s' ∷ (c' ∷ []))
  new-same = ap₂ (λ (a : Node) (k : List Node). a ∷ k) (after.ren-beside g known d may form ts mt l r1 x y s u p lr rr up l1 l2 at opened d' (after.not-below-d g known d may form ts mt l r1 x y s u p lr rr up l1 l2 at opened)) (ap₂ (λ (a : Node) (k : List Node). a ∷ k) (after.ren-beside g known d may form ts mt l r1 x y s u p lr rr up l1 l2 at opened s' (after.not-below-s g known d may form ts mt l r1 x y s u p lr rr up l1 l2 at opened)) (ap (λ (a : Node). a ∷ []) (after.ren-beside g known d may form ts mt l r1 x y s u p lr rr up l1 l2 at opened c' (after.not-below-c g known d may form ts mt l r1 x y s u p lr rr up l1 l2 at opened))))

  new-closed : (n : Node) → In n (d' ∷ (s' ∷ (c' ∷ []))) → is_closed hs n.id ≡ true
  new-closed n i = elim i [
    | inl e ↦ subst (λ (z : Node). is_closed hs z.id ≡ true) e (closed-by d' (after.in-d' g known d may form ts mt l r1 x y s u p lr rr up l1 l2 at opened) (after.looks-d g known d may form ts mt l r1 x y s u p lr rr up l1 l2 at opened))
    | inr i ↦ elim i [
      | inl e ↦ subst (λ (z : Node). is_closed hs z.id ≡ true) e (closed-by s' (after.in-s' g known d may form ts mt l r1 x y s u p lr rr up l1 l2 at opened) (after.looks-s g known d may form ts mt l r1 x y s u p lr rr up l1 l2 at opened))
      | inr i ↦ elim i [ inl e ↦ subst (λ (z : Node). is_closed hs z.id ≡ true) e (closed-by c' (after.in-c' g known d may form ts mt l r1 x y s u p lr rr up l1 l2 at opened) (after.looks-c g known d may form ts mt l r1 x y s u p lr rr up l1 l2 at opened)) | inr z ↦ elim z [ ] ]
    ]
  ]

  lowers : Lowers g.boxes hs
  lowers = lowers-mapped g.boxes hs ren (after.ren-id g known d may form ts mt l r1 x y s u p lr rr up l1 l2 at opened) (after.ren-quants g known d may form ts mt l r1 x y s u p lr rr up l1 l2 at opened) (after.ren-by g known d may form ts mt l r1 x y s u p lr rr up l1 l2 at opened is_fed_box (λ n. refl)) up l1 l2 (d' ∷ (s' ∷ (c' ∷ []))) d c at.before refl (ap is_fed may.is_fed)
      (elim (cases_Bool (is_closed g.boxes c.id)) [ inr f ↦ f | inl t ↦ absurd (let k = may.opened in closed-is g.boxes w.ordered c.id t k.0 k.1) ])
      (made.c-not-fed g known d may form ts mt l r1 x y s u p lr rr up l1 l2 at)
      (ap (many (is_open hs)) new-same ∙ many-none (is_open hs) (d' ∷ (s' ∷ (c' ∷ []))) (λ n i. ap not (new-closed n i)))
      (ap (summed (λ (n : Node). many (is_loose_scalar hs) n.quants)) new-same)
      (λ n i. (let z = one.other-up g at.once at.formed known at.tells d may up l1 l2 at.before n i in stays n z.0 z.1.0 z.1.1))
      (λ n i. (let z = one.other-left g at.once at.formed known at.tells d may up l1 l2 at.before n i in stays n z.0 z.1.0 z.1.1))
      (λ n i. (let z = one.other-right g at.once at.formed known at.tells d may up l1 l2 at.before n i in stays n z.0 z.1.0 z.1.1))

pub set-open-lowers : SetOpenLowers
set-open-lowers = λ g known d may form ts mt l r1 x y s u p lr rr up l1 l2 at h. lowers g known d may form ts mt l r1 x y s u p lr rr up l1 l2 at (free-looks g.boxes g.root (made.w g known d may form ts mt l r1 x y s u p lr rr up l1 l2 at) y.id may.a.id h)
