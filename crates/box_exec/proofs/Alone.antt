-- Expressions that name no E, A or S quantifier, and those that read one quantifier alone.
use Rattle.std.proofs.Common.{ℕ, ◌==◌, ◌≡◌, ◌||◌, ◌&&◌, ◌++◌, not, Bool, true, false, cond, List, [], refl, sym, ap, ap₂, ◌∙◌, inl, inr, eqb-true}
use Rattle.std.specs.List.{list_all, list_any}
use Rattle.std.proofs.lemmas.Bool.{cases_Bool, or_left, or_right}
use Rattle.std.proofs.lemmas.List.Folds.{list_any-append}
use Rattle.sql_value.specs.Arithmetic as a
use Rattle.sql_value.specs.Comparison as c
use Rattle.sql_value.specs.Truths as t
use Rattle.sql_value.specs.declared.cell.Cell.{Cell}
use Rattle.sql_value.specs.declared.truth.Truth.{Truth}
use Rattle.qgm_terms.specs.Named.{columns, columns_in, columns_in_cond}
use Rattle.qgm_terms.specs.Gathered.{listed_arms}
use Rattle.qgm_terms.specs.Terms.{Term, int, text, null_int, null_text, col, both, minus_of, choose, count_all, fold, scalar, Arms, no_arm, arm, Cond, always, compare, is_null, and, or, not as negation, some, every}
use Rattle.qgm_terms.specs.Wanted.{any_in, any_in_arms, any_in_cond, node_free, reads, reads_cond, wanted}
use Rattle.qgm_terms.specs.declared.named.Column.{Column}
use Rattle.qgm_terms.specs.declared.sought.Sought.TheVariants.{Node}
use Rattle.qgm_meaning.specs.Searches.{reads_arms}
use Rattle.qgm_meaning.specs.Values.{Bag, Environment, bound, chosen_at, compared, first_true, operate, row_of, truth, value}
use Rattle.qgm_meaning.proofs.Frames.{value-framed}
use Rattle.list_laws.proofs.Booleans.{clash, neither-left, neither-right}
use Rattle.list_laws.proofs.Membership.{all-in, any-in, eq-itself}
use Rattle.box_exec.specs.Equalities.{IsOther, IsOwn}
use Rattle.box_exec.specs.Sources.{held_by}

-- ---- what E, A and S quantifiers give doesn't matter

module _ (r s : ℕ → Bag) where
  mutual
    free-value : (x : Term) (d : Environment) → any_in (wanted Node) x ≡ false → value r x d ≡ value s x d
    free-value (int n) d h = refl
    free-value (text w) d h = refl
    free-value null_int d h = refl
    free-value null_text d h = refl
    free-value (col q k) d h = refl
    free-value (both o x y) d h = ap₂ (operate o) (free-value x d (neither-left (any_in (wanted Node) x) (any_in (wanted Node) y) h)) (free-value y d (neither-right (any_in (wanted Node) x) (any_in (wanted Node) y) h))
    free-value (minus_of x) d h = ap a.neg (free-value x d h)
    free-value (choose w x) d h = free-first w _ _ d (neither-left (any_in_arms (wanted Node) w) (any_in (wanted Node) x) h) (free-value x d (neither-right (any_in_arms (wanted Node) w) (any_in (wanted Node) x) h))
    free-value count_all d h = refl
    free-value (fold f t x) d h = refl
    free-value (scalar q) d h = absurd (let z : ⊥ = cc in z)

    free-first : (w : Arms) (x y : Cell) (d : Environment) → any_in_arms (wanted Node) w ≡ false → x ≡ y → first_true r w x d ≡ first_true s w y d
    free-first no_arm x y d h k = k
    free-first (arm p z w) x y d h k =
        let rest = neither-right (any_in_cond (wanted Node) p) (any_in (wanted Node) z || any_in_arms (wanted Node) w) h in
        ap (λ (l : Truth). chosen_at l.t (value r z d) (first_true r w x d)) (free-truth p d (neither-left (any_in_cond (wanted Node) p) (any_in (wanted Node) z || any_in_arms (wanted Node) w) h))
        ∙ ap₂ (chosen_at (truth s p d).t) (free-value z d (neither-left (any_in (wanted Node) z) (any_in_arms (wanted Node) w) rest)) (free-first w x y d (neither-right (any_in (wanted Node) z) (any_in_arms (wanted Node) w) rest) k)

    free-truth : (p : Cond) (d : Environment) → any_in_cond (wanted Node) p ≡ false → truth r p d ≡ truth s p d
    free-truth always d h = refl
    free-truth (compare sign x y) d h = ap₂ (compared sign) (free-value x d (neither-left (any_in (wanted Node) x) (any_in (wanted Node) y) h)) (free-value y d (neither-right (any_in (wanted Node) x) (any_in (wanted Node) y) h))
    free-truth (is_null x) d h = ap c.is_null (free-value x d h)
    free-truth (and p q) d h = ap₂ t.and (free-truth p d (neither-left (any_in_cond (wanted Node) p) (any_in_cond (wanted Node) q) h)) (free-truth q d (neither-right (any_in_cond (wanted Node) p) (any_in_cond (wanted Node) q) h))
    free-truth (or p q) d h = ap₂ t.or (free-truth p d (neither-left (any_in_cond (wanted Node) p) (any_in_cond (wanted Node) q) h)) (free-truth q d (neither-right (any_in_cond (wanted Node) p) (any_in_cond (wanted Node) q) h))
    free-truth (negation p) d h = ap t.negated (free-truth p d h)
    free-truth (some q p) d h = absurd (let z : ⊥ = cc in z)
    free-truth (every q p) d h = absurd (let z : ⊥ = cc in z)

-- ---- what is read stands among the columns

module _ (q : ℕ) where
  abbrev of_it : Column → Bool
  of_it k = k.quant == q

  joined : (x y : Bool) (xs ys : List Column) → (x ≡ true → list_any of_it xs ≡ true) → (y ≡ true → list_any of_it ys ≡ true) → (x || y) ≡ true → list_any of_it (xs ++ ys) ≡ true
  joined true y xs ys f g h = list_any-append of_it xs ys ∙ ap (λ (b : Bool). b || list_any of_it ys) (f refl)
  joined false y xs ys f g h = list_any-append of_it xs ys ∙ or_right (list_any of_it xs) (list_any of_it ys) (g h)

  entered : (b x : Bool) (xs : List Column) → (x ≡ true → list_any of_it xs ≡ true) → (b && x) ≡ true → list_any of_it xs ≡ true
  entered true x xs f h = f h
  entered false x xs f h = absurd (let z : ⊥ = cc in z)

  mutual
    read-listed : (x : Term) → reads q x ≡ true → list_any of_it (columns_in x) ≡ true
    read-listed (int n) h = absurd (let z : ⊥ = cc in z)
    read-listed (text w) h = absurd (let z : ⊥ = cc in z)
    read-listed null_int h = absurd (let z : ⊥ = cc in z)
    read-listed null_text h = absurd (let z : ⊥ = cc in z)
    read-listed (col r k) h = or_left (r == q) false h
    read-listed (both o x y) h = joined (reads q x) (reads q y) (columns_in x) (columns_in y) (read-listed x) (read-listed y) h
    read-listed (minus_of x) h = read-listed x h
    read-listed (choose w x) h = joined (reads_arms q w) (reads q x) (listed_arms columns w) (columns_in x) (read-arms w) (read-listed x) h
    read-listed count_all h = absurd (let z : ⊥ = cc in z)
    read-listed (fold f t x) h = read-listed x h
    read-listed (scalar r) h = absurd (let z : ⊥ = cc in z)

    read-arms : (w : Arms) → reads_arms q w ≡ true → list_any of_it (listed_arms columns w) ≡ true
    read-arms no_arm h = absurd (let z : ⊥ = cc in z)
    read-arms (arm p x w) h =
        joined (reads_cond q p) (reads q x || reads_arms q w) (columns_in_cond p) (columns_in x ++ listed_arms columns w) (read-cond p)
        (joined (reads q x) (reads_arms q w) (columns_in x) (listed_arms columns w) (read-listed x) (read-arms w)) h

    read-cond : (p : Cond) → reads_cond q p ≡ true → list_any of_it (columns_in_cond p) ≡ true
    read-cond always h = absurd (let z : ⊥ = cc in z)
    read-cond (compare sign x y) h = joined (reads q x) (reads q y) (columns_in x) (columns_in y) (read-listed x) (read-listed y) h
    read-cond (is_null x) h = read-listed x h
    read-cond (and p r) h = joined (reads_cond q p) (reads_cond q r) (columns_in_cond p) (columns_in_cond r) (read-cond p) (read-cond r) h
    read-cond (or p r) h = joined (reads_cond q p) (reads_cond q r) (columns_in_cond p) (columns_in_cond r) (read-cond p) (read-cond r) h
    read-cond (negation p) h = read-cond p h
    read-cond (some r p) h = entered (not (r == q)) (reads_cond q p) (columns_in_cond p) (read-cond p) h
    read-cond (every r p) h = entered (not (r == q)) (reads_cond q p) (columns_in_cond p) (read-cond p) h

-- ---- the sides of keys

-- nothing is read but q
read-alone : (q r : ℕ) (x : Term) → list_all (λ (k : Column). k.quant == q) (columns_in x) ≡ true → reads r x ≡ true → q ≡ r
read-alone q r x own h =
    let found = any-in (λ (k : Column). k.quant == r) (columns_in x) (read-listed r x h) in
    let k = found.0 in
    sym (eqb-true k.quant q (all-in (λ (k : Column). k.quant == q) k (columns_in x) own found.1.0)) ∙ eqb-true k.quant r found.1.1

bare : (x : Term) → node_free x ≡ true → any_in (wanted Node) x ≡ false
bare x h = elim (cases_Bool (any_in (wanted Node) x)) [
  | inl e ↦ absurd (let k : not true ≡ true = ap not (sym e) ∙ h in let z : ⊥ = cc in z)
  | inr e ↦ e
]

pub own-is : (q : ℕ) (x : Term) → node_free x ≡ true → list_all (λ (k : Column). k.quant == q) (columns_in x) ≡ true → IsOwn q x
own-is q x free own rows cells env =
    free-value rows (held_by []) x (bound q cells env) (bare x free)
    ∙ value-framed (held_by []) x (bound q cells env) (bound q cells []) (record {
      rows = λ r h. let e : (q == r) ≡ true = ap (λ (z : ℕ). q == z) (sym (read-alone q r x own h)) ∙ eq-itself q in ap (λ (b : Bool). cond b cells (row_of r env)) e ∙ sym (ap (λ (b : Bool). cond b cells []) e);
    })

pub other-is : (q : ℕ) (x : Term) → node_free x ≡ true → reads q x ≡ false → IsOther q x
other-is q x free away rows cells env =
    free-value rows (held_by []) x (bound q cells env) (bare x free)
    ∙ value-framed (held_by []) x (bound q cells env) env (record {
      rows = λ r h. elim (cases_Bool (q == r)) [
        | inl e ↦ absurd (clash (reads r x) h (ap (λ (z : ℕ). reads z x) (sym (eqb-true q r e)) ∙ away))
        | inr e ↦ ap (λ (b : Bool). cond b cells (row_of r env)) e
      ];
    })
