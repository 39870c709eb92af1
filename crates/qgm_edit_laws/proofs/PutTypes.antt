-- Types where cells stand in the place of a quantifier's columns.
use Rattle.std.proofs.Common.{ℕ, ◌==◌, ◌≡◌, ◌&&◌, ◌||◌, cond, not, Bool, true, false, List, [], ◌∷◌, map, Option, refl, sym, ap, ap₂, ◌∙◌, inl, inr}
use Rattle.std.specs.List.{list_all}
use Rattle.std.proofs.lemmas.Bool.{and_from, or_left, or_parts, or_right}
use Rattle.sql_value.specs.declared.order_key.SqlType.{SqlType}
use Rattle.list_laws.specs.Lists.{In}
use Rattle.qgm_core.specs.declared.kinds.BoxKind.{BoxKind}
use Rattle.qgm_core.specs.declared.kinds.BoxKind.TheVariants.{Base, Group, OuterJoin, Select, SetOp}
use Rattle.qgm_terms.specs.Substitution.{cell_at, substituted, substituted_arms, substituted_cond}
use Rattle.qgm_terms.specs.Terms as t
use Rattle.qgm_terms.specs.Terms.{Arms, Cond, Term}
use Rattle.qgm_terms.specs.Wanted.{reads_at, reads_at_cond}
use Rattle.qgm_meaning.specs.Scope as scope
use Rattle.qgm_meaning.specs.Searches.{names, names_arms, names_cond, reads_at_arms}
use Rattle.qgm_wellformed.specs.Types.{Lookup, agree, aggregate_type, arms_fit, cond_fits, integer_if, is_integer, is_known, op_type, sign_fits, term_type, type_if, types_by}
use Rattle.qgm_edit_laws.specs.Shaped as shaped
use Rattle.qgm_edit_laws.proofs.Levels as levels
use Rattle.list_laws.proofs.Membership.{eq-itself}

-- ---- cells in place of a quantifier's columns, where the types of others are looked up anew

module _ (at now : Lookup) (q : ℕ) (cells : List Term) where
  -- the columns of q have their types as before, and others as now
  abbrev pub mixed : Lookup
  mixed r k = cond (r == q) (at q k) (now r k)

  abbrev Good : ℕ → Type 0
  Good k = term_type now (cell_at k cells) ≡ at q k

  mutual
    pub term-mixed : (x : Term) → names q x ≡ false → ((k : ℕ) → reads_at q k x ≡ true → Good k) → term_type now (substituted q cells x) ≡ term_type mixed x
    term-mixed (t.int n) h f = refl
    term-mixed (t.text s) h f = refl
    term-mixed t.null_int h f = refl
    term-mixed t.null_text h f = refl
    term-mixed (t.col r k) h f = elim (r == q) as (λ b. (r == q) ≡ b → ◌≡◌ {A = Option SqlType} (term_type now (cond b (cell_at k cells) (t.col r k))) (cond b (at q k) (now r k))) [
      | true ↦ λ e. f k (and_from (r == q) (k == k) e (eq-itself k))
      | false ↦ λ e. refl
    ] refl
    term-mixed (t.scalar r) h f = sym (ap (λ b. cond b (at q 1) (now r 1)) h)
    term-mixed (t.both op x y) h f =
        let n = or_parts (names q x) (names q y) h in
        ap₂ (op_type op) (term-mixed x n.0 (λ k i. f k (or_left (reads_at q k x) (reads_at q k y) i))) (term-mixed y n.1 (λ k i. f k (or_right (reads_at q k x) (reads_at q k y) i)))
    term-mixed (t.minus_of x) h f = ap (λ z. integer_if (is_integer z)) (term-mixed x h f)
    term-mixed (t.choose s x) h f =
        let n = or_parts (names_arms q s) (names q x) h in
        let e = term-mixed x n.1 (λ k i. f k (or_right (reads_at_arms q k s) (reads_at q k x) i)) in
        ap₂ type_if (arms-mixed s n.0 (λ k i. f k (or_left (reads_at_arms q k s) (reads_at q k x) i)) (term_type now (substituted q cells x)) (term_type mixed x) e) e
    term-mixed t.count_all h f = refl
    term-mixed (t.fold a e x) h f = ap (aggregate_type a) (term-mixed x h f)

    arms-mixed : (s : Arms) → names_arms q s ≡ false → ((k : ℕ) → reads_at_arms q k s ≡ true → Good k) → (a b : Option SqlType) → a ≡ b → arms_fit now a (substituted_arms q cells s) ≡ arms_fit mixed b s
    arms-mixed t.no_arm h f a b e = refl
    arms-mixed (t.arm c x s) h f a b e =
        let n = or_parts (names_cond q c) (names q x || names_arms q s) h in
        let m = or_parts (names q x) (names_arms q s) n.1 in
        ap₂ ◌&&◌ (cond-mixed c n.0 (λ k i. f k (or_left (reads_at_cond q k c) (reads_at q k x || reads_at_arms q k s) i)))
        (ap₂ ◌&&◌ (ap₂ agree (term-mixed x m.0 (λ k i. f k (or_right (reads_at_cond q k c) (reads_at q k x || reads_at_arms q k s) (or_left (reads_at q k x) (reads_at_arms q k s) i)))) e)
        (arms-mixed s m.1 (λ k i. f k (or_right (reads_at_cond q k c) (reads_at q k x || reads_at_arms q k s) (or_right (reads_at q k x) (reads_at_arms q k s) i))) a b e))

    pub cond-mixed : (c : Cond) → names_cond q c ≡ false → ((k : ℕ) → reads_at_cond q k c ≡ true → Good k) → cond_fits now (substituted_cond q cells c) ≡ cond_fits mixed c
    cond-mixed t.always h f = refl
    cond-mixed (t.compare sign x y) h f =
        let n = or_parts (names q x) (names q y) h in
        ap₂ (sign_fits sign) (term-mixed x n.0 (λ k i. f k (or_left (reads_at q k x) (reads_at q k y) i))) (term-mixed y n.1 (λ k i. f k (or_right (reads_at q k x) (reads_at q k y) i)))
    cond-mixed (t.is_null x) h f = ap is_known (term-mixed x h f)
    cond-mixed (t.and c d) h f =
        let n = or_parts (names_cond q c) (names_cond q d) h in
        ap₂ ◌&&◌ (cond-mixed c n.0 (λ k i. f k (or_left (reads_at_cond q k c) (reads_at_cond q k d) i))) (cond-mixed d n.1 (λ k i. f k (or_right (reads_at_cond q k c) (reads_at_cond q k d) i)))
    cond-mixed (t.or c d) h f =
        let n = or_parts (names_cond q c) (names_cond q d) h in
        ap₂ ◌&&◌ (cond-mixed c n.0 (λ k i. f k (or_left (reads_at_cond q k c) (reads_at_cond q k d) i))) (cond-mixed d n.1 (λ k i. f k (or_right (reads_at_cond q k c) (reads_at_cond q k d) i)))
    cond-mixed (t.not c) h f = cond-mixed c h f
    cond-mixed (t.some r c) h f =
        let n = or_parts (r == q) (names_cond q c) h in
        ap (λ b. cond_fits now (cond b c (substituted_cond q cells c))) n.0 ∙ cond-mixed c n.1 (λ k i. f k (ap (λ b. not b && reads_at_cond q k c) n.0 ∙ i))
    cond-mixed (t.every r c) h f =
        let n = or_parts (r == q) (names_cond q c) h in
        ap (λ b. cond_fits now (cond b c (substituted_cond q cells c))) n.0 ∙ cond-mixed c n.1 (λ k i. f k (ap (λ b. not b && reads_at_cond q k c) n.0 ∙ i))

-- heads with cells put in have the types of the heads before
pub types-put : (at now : Lookup) (q : ℕ) (cells : List Term) (k : BoxKind) (head : List Term) → ((x : Term) → In x head → term_type now (substituted q cells x) ≡ term_type at x) → types_by now k (map (substituted q cells) head) ≡ types_by at k head
types-put at now q cells k head h = by k
  where
    heads : (xs : List Term) → ((x : Term) → In x xs → In x head) → map (term_type now) (map (substituted q cells) xs) ≡ map (term_type at) xs
    heads [] sub = refl
    heads (x ∷ xs) sub = ap₂ (λ (y : Option SqlType) (ys : List (Option SqlType)). y ∷ ys) (h x (sub x (inl refl))) (heads xs (λ y i. sub y (inr i)))

    by : (k : BoxKind) → types_by now k (map (substituted q cells) head) ≡ types_by at k head
    by (Base table) = refl
    by Select = heads head (λ x i. i)
    by (Group keys) = heads head (λ x i. i)
    by (SetOp operator types) = refl
    by OuterJoin = heads head (λ x i. i)

pub all-put : {X : Type 0} (p r : X → Bool) (f : X → X) (xs : List X) → ((x : X) → In x xs → p (f x) ≡ r x) → list_all p (map f xs) ≡ list_all r xs
all-put p r f [] h = refl
all-put p r f (x ∷ xs) h = ap₂ ◌&&◌ (h x (inl refl)) (all-put p r f xs (λ y i. h y (inr i)))
