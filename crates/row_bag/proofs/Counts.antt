-- Agreement by counts is agreement by sums, over any commutative monoid.
use Rattle.std.proofs.Common.{◌≡◌, ◌≢◌, ℕ, ◌+◌, ◌<◌, Bool, true, false, cond, ◌&&◌, List, [], ◌∷◌, refl, ap, ap₂, sym, ◌∙◌, Decides, ⊎_elim, arith}
use Rattle.std.proofs.lemmas.Bool.{and_parts, and_from, cases_Bool, eq-eqb}
use mathlib.Core.Path.{fun_ext}
use Rattle.sql_value.specs.declared.level.Level.{Level}
use Rattle.sql_value.specs.declared.level.Level.TheVariants.{No, Cardinality, Division, Overflow, Yes}
use Rattle.sql_value.specs.Level.{rank}
use Rattle.row_bag.specs.Bags.{row, fold_map, if_there, total, same_level, count, Agree, Alike, IsCommutativeMonoid}
use Rattle.row_bag.specs.declared.row.Row.{Row}
use Rattle.row_bag.proofs.Levels.{level_is_no, no-other, same_level-true}
use Rattle.row_bag.proofs.Folds.{swap_in}
use Rattle.row_bag.proofs.Agreement.{sum-monoid}

-- whether a row is the tuple c at the level l
abbrev pub hit : {T : Type 0} → (T → T → Bool) → T → Level → Row T → Bool
hit same c l r = same r.cells c && same_level r.level l

-- the list without the first such row
abbrev pub take_out : {T : Type 0} → (T → T → Bool) → T → Level → List (Row T) → List (Row T)
take_out same c l [] = []
take_out same c l (r ∷ rs) = cond (hit same c l r) rs (r ∷ take_out same c l rs)

and_false : (a b : Bool) → b ≡ false → (a && b) ≡ false
and_false a b h = elim a as (λ v. (v && b) ≡ false) [ true ↦ h | false ↦ refl ]

-- a count as a total
abbrev pub hits : {T : Type 0} → (T → T → Bool) → T → Level → T → Level → ℕ
hits same c l k m = cond (same k c && same_level m l) 1 0

pub hits_each : {T : Type 0} (same : T → T → Bool) (c : T) (l : Level) → l ≢ No → (k : T) (m : Level) → hits same c l k m ≡ if_there 0 (hits same c l) k m
hits_each same c l n k No = ap (λ b. cond b 1 0) (and_false (same k c) (same_level No l) (no-other l n))
hits_each same c l n k Cardinality = refl
hits_each same c l n k Division = refl
hits_each same c l n k Overflow = refl
hits_each same c l n k Yes = refl

pub count-total : {T : Type 0} (same : T → T → Bool) (c : T) (l : Level) → l ≢ No → (rs : List (Row T)) → count same c l rs ≡ total ◌+◌ 0 (hits same c l) rs
count-total same c l n rs = ap (λ w. fold_map ◌+◌ 0 w rs) (fun_ext (λ r. hits_each same c l n r.cells r.level))

-- sums that agree give counts that agree
pub agree-from_alike : {T : Type 0} (same : T → T → Bool) {xs ys : List (Row T)} → Alike xs ys → Agree same xs ys
agree-from_alike same {xs = xs} {ys = ys} h = record { counts = λ c l n. count-total same c l n xs ∙ h.sums (hits same c l) ∙ sym (count-total same c l n ys) }

module _ {T : Type 0} (same : T → T → Bool) (dec : (a b : T) → Decides (same a b) (a ≡ b)) where
  hit-true : (c : T) (l : Level) (r : Row T) → hit same c l r ≡ true → r ≡ row c l
  hit-true c l r h =
      let p = and_parts (same r.cells c) (same_level r.level l) h in
      ap₂ row ((dec r.cells c).0 p.0) (same_level-true r.level l p.1)

  hit-self : (r : Row T) → hit same r.cells r.level r ≡ true
  hit-self r = and_from (same r.cells r.cells) (same_level r.level r.level) ((dec r.cells r.cells).1 refl) (eq-eqb (rank r.level) (rank r.level) refl)

  -- a row that stands in a list may be summed first
  pub total-take_out : {M : Type 0} {op : M → M → M} {e : M} (m : IsCommutativeMonoid M op e) (f : T → Level → M) (c : T) (l : Level) (rs : List (Row T)) → 0 < count same c l rs → total op e f rs ≡ op (if_there e f c l) (total op e f (take_out same c l rs))
  total-take_out m f c l [] h = absurd (omega arith)
  total-take_out {op = op} {e = e} m f c l (r ∷ rs) h =
      ⊎_elim
      (λ (t : hit same c l r ≡ true). rw t (ap (λ r. op (if_there e f r.cells r.level) (total op e f rs)) (hit-true c l r t)))
      (λ (t : hit same c l r ≡ false).
      let k : 0 < 0 + count same c l rs = rw t at h in
      rw t (ap (op (if_there e f r.cells r.level)) (total-take_out m f c l rs (omega (arith, k))) ∙ swap_in m (if_there e f r.cells r.level) (if_there e f c l) (total op e f (take_out same c l rs))))
      (cases_Bool (hit same c l r))

  -- and so its counts
  pub count-take_out : (k : T) (n : Level) → n ≢ No → (c : T) (l : Level) (rs : List (Row T)) → 0 < count same c l rs → count same k n rs ≡ if_there 0 (hits same k n) c l + count same k n (take_out same c l rs)
  count-take_out k n q c l rs h =
      count-total same k n q rs
      ∙ total-take_out sum-monoid (hits same k n) c l rs h
      ∙ ap (λ x. if_there 0 (hits same k n) c l + x) (sym (count-total same k n q (take_out same c l rs)))

  -- a list of which nothing is there adds up to nothing
  pub total-all_no : {M : Type 0} {op : M → M → M} {e : M} (m : IsCommutativeMonoid M op e) (f : T → Level → M) (rs : List (Row T)) → ((c : T) (l : Level) → l ≢ No → count same c l rs ≡ 0) → total op e f rs ≡ e
  total-all_no m f [] h = refl
  total-all_no {op = op} {e = e} m f (r ∷ rs) h =
      ⊎_elim
      (λ (t : r.level ≡ No).
      ap (λ l. op (if_there e f r.cells l) (total op e f rs)) t
      ∙ m.unit (total op e f rs)
      ∙ total-all_no m f rs (λ c l n. let k : count same c l (r ∷ rs) ≡ 0 = h c l n in omega (arith, k)))
      (λ (n : r.level ≢ No).
      let k : cond (hit same r.cells r.level r) 1 0 + count same r.cells r.level rs ≡ 0 = h r.cells r.level n in
      let k2 : 1 + count same r.cells r.level rs ≡ 0 = rw (hit-self r) at k in
      absurd (omega (arith, k2)))
      (level_is_no r.level)

  -- counts that agree give sums that agree, over any commutative monoid
  pub total-agree : {M : Type 0} {op : M → M → M} {e : M} (m : IsCommutativeMonoid M op e) (f : T → Level → M) (xs ys : List (Row T)) → Agree same xs ys → total op e f xs ≡ total op e f ys
  total-agree m f [] ys h = sym (total-all_no m f ys (λ c l n. sym (h.counts c l n)))
  total-agree {op = op} {e = e} m f (r ∷ rs) ys h =
      ⊎_elim
      (λ (t : r.level ≡ No).
      ap (λ l. op (if_there e f r.cells l) (total op e f rs)) t
      ∙ m.unit (total op e f rs)
      ∙ total-agree m f rs ys (record {
        counts = λ c l n.
            let k : count same c l (r ∷ rs) ≡ if_there 0 (hits same c l) r.cells r.level + count same c l rs = ap (λ x. x + count same c l rs) (hits_each same c l n r.cells r.level) in
            let k1 : if_there 0 (hits same c l) r.cells r.level ≡ 0 = ap (if_there 0 (hits same c l) r.cells) t in
            let k2 : count same c l (r ∷ rs) ≡ count same c l ys = h.counts c l n in
            omega (arith, k, k1, k2);
      }))
      (λ (n : r.level ≢ No).
      let k : cond (hit same r.cells r.level r) 1 0 + count same r.cells r.level rs ≡ count same r.cells r.level ys = h.counts r.cells r.level n in
      let k2 : 1 + count same r.cells r.level rs ≡ count same r.cells r.level ys = rw (hit-self r) at k in
      let stands : 0 < count same r.cells r.level ys = omega (arith, k2) in
      ap (op (if_there e f r.cells r.level)) (total-agree m f rs (take_out same r.cells r.level ys) (record {
        counts = λ c l q.
            let a : count same c l (r ∷ rs) ≡ if_there 0 (hits same c l) r.cells r.level + count same c l rs = ap (λ x. x + count same c l rs) (hits_each same c l q r.cells r.level) in
            let b : count same c l ys ≡ if_there 0 (hits same c l) r.cells r.level + count same c l (take_out same r.cells r.level ys) = count-take_out c l q r.cells r.level ys stands in
            let d : count same c l (r ∷ rs) ≡ count same c l ys = h.counts c l q in
            omega (arith, a, b, d);
      }))
      ∙ sym (total-take_out m f r.cells r.level ys stands))
      (level_is_no r.level)

  pub alike-from_agree : {xs ys : List (Row T)} → Agree same xs ys → Alike xs ys
  alike-from_agree {xs = xs} {ys = ys} h = record { sums = λ f. total-agree sum-monoid f xs ys h }

  -- sums over any commutative monoid are the same in bags that agree
  pub total-alike : {M : Type 0} {op : M → M → M} {e : M} (m : IsCommutativeMonoid M op e) (f : T → Level → M) {xs ys : List (Row T)} → Alike xs ys → total op e f xs ≡ total op e f ys
  total-alike m f {xs = xs} {ys = ys} h = total-agree m f xs ys (agree-from_alike same h)
