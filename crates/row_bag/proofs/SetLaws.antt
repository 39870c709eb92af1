-- Operations that go by how often a tuple occurs keep agreement.
use Rattle.std.proofs.Common.{◌≡◌, ◌≢◌, ℕ, ◌+◌, ◌-◌, min, Bool, true, false, cond, nat_eq, ◌&&◌, List, [], ◌∷◌, refl, ap, ap₂, sym, ◌∙◌, Decides, ⊎_elim, arith, eqb-true, Option, Some, None}
use Rattle.std.proofs.lemmas.Bool.{eqb-false}
use Rattle.sql_value.specs.declared.level.Level.{Level}
use Rattle.sql_value.specs.declared.level.Level.TheVariants.{No, Cardinality, Division, Overflow, Yes}
use Rattle.sql_value.specs.Cells.{worst_of}
use Rattle.sql_value.specs.Level.{level_of}
use Rattle.sql_value.specs.declared.cell.Kind.{Kind}
use Rattle.row_bag.specs.Errors.{error_among, error_at}
use Rattle.row_bag.proofs.Worst.{worst-monoid}
use Rattle.row_bag.specs.Bags.{row, unit, bind, if_there, same_level, count, Alike}
use Rattle.row_bag.specs.declared.row.Row.{Row}
use Rattle.row_bag.specs.Sets.{multiplicity, level_in, once, distinct, union, copies, intersect_all, intersect, except_all, except, of_group, grouped, collapsed, error_or_bag}
use Rattle.row_bag.proofs.Levels.{greatest-monoid, level_is_no}
use Rattle.row_bag.proofs.Folds.{fold_map-append}
use Rattle.row_bag.proofs.Agreement.{sum-monoid, alike-refl, alike-same, alike-bind, alike-append}
use Rattle.row_bag.proofs.Counts.{hit, alike-from_agree, total-alike}

pub if_there-at : {T M : Type 0} (e : M) (f : T → Level → M) (c : T) (l : Level) → l ≢ No → if_there e f c l ≡ f c l
if_there-at e f c No h = absurd (h refl)
if_there-at e f c Cardinality h = refl
if_there-at e f c Division h = refl
if_there-at e f c Overflow h = refl
if_there-at e f c Yes h = refl

once_arith : (s z p : Bool) (n : ℕ) → (s ≡ true → z ≡ nat_eq n 0) → cond z (cond (s && p) 1 0 + 0) 0 + cond p (min 1 n) 0 ≡ cond p (min 1 (cond s 1 0 + n)) 0
once_arith false true true n h = omega arith
once_arith false true false n h = refl
once_arith false false true n h = omega arith
once_arith false false false n h = refl
once_arith true z false n h = elim z as (λ z. cond z (0 + 0) 0 + 0 ≡ 0) [ true ↦ refl | false ↦ refl ]
once_arith true true true n h = let e : n ≡ 0 = eqb-true n 0 (sym (h refl)) in omega (arith, e)
once_arith true false true n h = let e : n ≡ 0 → ⊥ = eqb-false n 0 (sym (h refl)) in omega (arith, e)

one-or-rows : {U : Type 0} (tuple : Kind → U) (o : Option Kind) {us vs : List (Row U)} → Alike us vs → Alike (error_or_bag tuple o us) (error_or_bag tuple o vs)
one-or-rows tuple None k = k
one-or-rows tuple (Some j) k = alike-refl (row (tuple j) (level_of j) ∷ [])

module _ {T : Type 0} (same : T → T → Bool) (dec : (a b : T) → Decides (same a b) (a ≡ b)) where
  count_first : (c : T) (l : Level) (k : T) (z : Bool) → count same c l (cond z (unit k) []) ≡ cond z (cond (same k c && same_level Yes l) 1 0 + 0) 0
  count_first c l k z = elim z as (λ z. count same c l (cond z (unit k) []) ≡ cond z (cond (same k c && same_level Yes l) 1 0 + 0) 0) [ true ↦ refl | false ↦ refl ]

  once_step : (c : T) (l : Level) (rs : List (Row T)) (k : T) (m : Level) →
      count same c l (if_there [] (λ d m. cond (nat_eq (multiplicity same d rs) 0) (unit d) []) k m) + cond (same_level Yes l) (min 1 (multiplicity same c rs)) 0 ≡ cond (same_level Yes l) (min 1 (if_there 0 (λ d m. cond (same d c) 1 0) k m + multiplicity same c rs)) 0
  once_step c l rs k m =
      ⊎_elim
      (λ (t : m ≡ No). rw t (elim (same_level Yes l) as (λ p. 0 + cond p (min 1 (multiplicity same c rs)) 0 ≡ cond p (min 1 (0 + multiplicity same c rs)) 0) [ true ↦ omega arith | false ↦ refl ]))
      (λ (n : m ≢ No).
      rw (if_there-at [] (λ d m. cond (nat_eq (multiplicity same d rs) 0) (unit d) []) k m n)
      (rw (if_there-at {M = ℕ} 0 (λ d m. cond (same d c) 1 0) k m n)
      (rw (count_first c l k (nat_eq (multiplicity same k rs) 0))
      (once_arith (same k c) (nat_eq (multiplicity same k rs) 0) (same_level Yes l) (multiplicity same c rs) (λ e. ap (λ d. nat_eq (multiplicity same d rs) 0) ((dec k c).0 e))))))
      (level_is_no m)

  -- each tuple that is there stands in `once` exactly once, at yes
  pub count-once : (c : T) (l : Level) (rs : List (Row T)) → count same c l (once same rs) ≡ cond (same_level Yes l) (min 1 (multiplicity same c rs)) 0
  count-once c l [] = elim (same_level Yes l) as (λ b. ◌≡◌ {A = ℕ} 0 (cond b 0 0)) [ true ↦ refl | false ↦ refl ]
  count-once c l (r ∷ rs) =
      fold_map-append sum-monoid (λ r. cond (hit same c l r) 1 0) (if_there [] (λ d m. cond (nat_eq (multiplicity same d rs) 0) (unit d) []) r.cells r.level) (once same rs)
      ∙ ap (λ x. count same c l (if_there [] (λ d m. cond (nat_eq (multiplicity same d rs) 0) (unit d) []) r.cells r.level) + x) (count-once c l rs)
      ∙ once_step c l rs r.cells r.level

  pub multiplicity-alike : (c : T) {xs ys : List (Row T)} → Alike xs ys → multiplicity same c xs ≡ multiplicity same c ys
  multiplicity-alike c h = h.sums (λ k m. cond (same k c) 1 0)

  pub level_in-alike : (c : T) {xs ys : List (Row T)} → Alike xs ys → level_in same c xs ≡ level_in same c ys
  level_in-alike c h = total-alike same dec greatest-monoid (λ k m. cond (same k c) m No) h

  pub once-alike : {xs ys : List (Row T)} → Alike xs ys → Alike (once same xs) (once same ys)
  once-alike {xs = xs} {ys = ys} h = alike-from_agree same dec (record {
    counts = λ c l n.
        count-once c l xs ∙ ap (λ x. cond (same_level Yes l) (min 1 x) 0) (multiplicity-alike c h) ∙ sym (count-once c l ys);
  })

  -- every operation that goes over the tuples of a bag keeps agreement
  pub alike-over_once : {U : Type 0} {xs ys : List (Row T)} {f g : T → List (Row U)} → Alike xs ys → ((c : T) → f c ≡ g c) → Alike (bind (once same xs) f) (bind (once same ys) g)
  alike-over_once h k = alike-bind (once-alike h) (λ c. alike-same (k c))

  pub distinct-alike : {xs ys : List (Row T)} → Alike xs ys → Alike (distinct same xs) (distinct same ys)
  distinct-alike h = alike-over_once h (λ c. ap (λ l. row c l ∷ []) (level_in-alike c h))

  pub union-alike : {xs ys us vs : List (Row T)} → Alike xs us → Alike ys vs → Alike (union same xs ys) (union same us vs)
  union-alike h k = distinct-alike (alike-append h k)

  pub intersect_all-alike : {xs ys us vs : List (Row T)} → Alike xs us → Alike ys vs → Alike (intersect_all same xs ys) (intersect_all same us vs)
  intersect_all-alike h k = alike-over_once h (λ c. ap₂ (λ a b. copies (min a b) c) (multiplicity-alike c h) (multiplicity-alike c k))

  pub intersect-alike : {xs ys us vs : List (Row T)} → Alike xs us → Alike ys vs → Alike (intersect same xs ys) (intersect same us vs)
  intersect-alike h k = alike-over_once h (λ c. ap (λ b. copies (min 1 b) c) (multiplicity-alike c k))

  pub except_all-alike : {xs ys us vs : List (Row T)} → Alike xs us → Alike ys vs → Alike (except_all same xs ys) (except_all same us vs)
  except_all-alike h k = alike-over_once h (λ c. ap₂ (λ a b. copies (a - b) c) (multiplicity-alike c h) (multiplicity-alike c k))

  pub except-alike : {xs ys us vs : List (Row T)} → Alike xs us → Alike ys vs → Alike (except same xs ys) (except same us vs)
  except-alike h k = alike-over_once h (λ c. ap (λ b. copies (1 - b) c) (multiplicity-alike c k))

  pub error_among-alike : (held : T → Option Kind) {xs ys : List (Row T)} → Alike xs ys → error_among held xs ≡ error_among held ys
  error_among-alike held h = total-alike same dec worst-monoid (λ c l. worst_of (error_at l) (held c)) h

  pub collapsed-alike : {U : Type 0} (held : T → Option Kind) (tuple : Kind → U) {xs ys : List (Row T)} {us vs : List (Row U)} → Alike xs ys → Alike us vs
      → Alike (collapsed held tuple xs us) (collapsed held tuple ys vs)
  collapsed-alike held tuple {ys = ys} h k = rw (error_among-alike held h) (one-or-rows tuple (error_among held ys) k)

pub of_group-alike : {T K : Type 0} (same : K → K → Bool) (key : T → K) (k : K) {xs ys : List (Row T)} → Alike xs ys → Alike (of_group same key k xs) (of_group same key k ys)
of_group-alike same key k h = alike-bind h (λ c. alike-refl (cond (same (key c) k) (unit c) []))

pub grouped-alike : {T K U : Type 0} (same : K → K → Bool) (dec : (a b : K) → Decides (same a b) (a ≡ b)) (key : T → K) (agg : K → List (Row T) → U) →
    ((k : K) (xs ys : List (Row T)) → Alike xs ys → agg k xs ≡ agg k ys) → {xs ys : List (Row T)} → Alike xs ys → Alike (grouped same key agg xs) (grouped same key agg ys)
grouped-alike same dec key agg agg_alike h =
    alike-over_once same dec (alike-bind h (λ c. alike-refl (unit (key c)))) (λ k. ap unit (agg_alike k _ _ (of_group-alike same key k h)))
