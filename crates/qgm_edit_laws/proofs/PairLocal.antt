-- The types of expressions, by the columns that they name, and column 1 of the scalars.
use Rattle.std.proofs.Common.{ℕ, ◌==◌, ◌≡◌, ◌&&◌, ◌||◌, true, List, [], ◌∷◌, map, Option, refl, ap, ap₂}
use Rattle.std.specs.List.{list_any}
use Rattle.std.proofs.lemmas.Bool.{and_from, or_left, or_right}
use Rattle.sql_value.specs.declared.order_key.SqlType.{SqlType}
use Rattle.qgm_core.specs.declared.kinds.BoxKind.{BoxKind}
use Rattle.qgm_core.specs.declared.kinds.BoxKind.TheVariants.{Base, Select, Group, SetOp, OuterJoin}
use Rattle.qgm_core.specs.declared.node.Node.{Node}
use Rattle.qgm_terms.specs.Terms as t
use Rattle.qgm_terms.specs.Terms.{Arms, Cond, Term}
use Rattle.qgm_terms.specs.Wanted.{any_in, any_in_arms, any_in_cond}
use Rattle.qgm_wellformed.specs.Types.{Lookup, agree, aggregate_type, arms_fit, cond_fits, integer_if, is_integer, is_known, op_type, sign_fits, term_type, type_if, types_by}
use Rattle.qgm_edit_laws.specs.FormedAdds.{of_column, types_asked}
use Rattle.qgm_edit_laws.proofs.Follow.{all-alike}
use Rattle.qgm_edit_laws.proofs.TypesBy.{Types, agrees_by, arms_by}
use Rattle.list_laws.proofs.Membership.{any-from, eq-itself}

module _ (at other : Lookup) where
  mutual
    pub term-pair : (x : Term) → ((q k : ℕ) → any_in (of_column q k) x ≡ true → at q k ≡ other q k) → term_type at x ≡ term_type other x
    term-pair (t.int n) f = refl
    term-pair (t.text s) f = refl
    term-pair t.null_int f = refl
    term-pair t.null_text f = refl
    term-pair (t.col r k) f = f r k (and_from (r == r) (k == k) (eq-itself r) (eq-itself k))
    term-pair (t.scalar r) f = f r 1 (and_from (r == r) (1 == 1) (eq-itself r) refl)
    term-pair (t.both op x y) f =
        ap₂ (op_type op) (term-pair x (λ q k i. f q k (or_left (any_in (of_column q k) x) (any_in (of_column q k) y) i))) (term-pair y (λ q k i. f q k (or_right (any_in (of_column q k) x) (any_in (of_column q k) y) i)))
    term-pair (t.minus_of x) f = ap (λ z. integer_if (is_integer z)) (term-pair x f)
    term-pair (t.choose s x) f =
        let e = term-pair x (λ q k i. f q k (or_right (any_in_arms (of_column q k) s) (any_in (of_column q k) x) i)) in
        ap₂ type_if (arms-pair s (λ q k i. f q k (or_left (any_in_arms (of_column q k) s) (any_in (of_column q k) x) i)) (term_type at x) (term_type other x) e) e
    term-pair t.count_all f = refl
    term-pair (t.fold a e x) f = ap (aggregate_type a) (term-pair x f)

    arms-pair : (s : Arms) → ((q k : ℕ) → any_in_arms (of_column q k) s ≡ true → at q k ≡ other q k) → (a b : Option SqlType) → a ≡ b → arms_fit at a s ≡ arms_fit other b s
    arms-pair t.no_arm f a b e = refl
    arms-pair (t.arm c x s) f a b e =
        ap₂ ◌&&◌ (cond-pair c (λ q k i. f q k (or_left (any_in_cond (of_column q k) c) (any_in (of_column q k) x || any_in_arms (of_column q k) s) i)))
        (ap₂ ◌&&◌ (ap₂ agree (term-pair x (λ q k i. f q k (or_right (any_in_cond (of_column q k) c) (any_in (of_column q k) x || any_in_arms (of_column q k) s) (or_left (any_in (of_column q k) x) (any_in_arms (of_column q k) s) i)))) e)
        (arms-pair s (λ q k i. f q k (or_right (any_in_cond (of_column q k) c) (any_in (of_column q k) x || any_in_arms (of_column q k) s) (or_right (any_in (of_column q k) x) (any_in_arms (of_column q k) s) i))) a b e))

    pub cond-pair : (c : Cond) → ((q k : ℕ) → any_in_cond (of_column q k) c ≡ true → at q k ≡ other q k) → cond_fits at c ≡ cond_fits other c
    cond-pair t.always f = refl
    cond-pair (t.compare sign x y) f =
        ap₂ (sign_fits sign) (term-pair x (λ q k i. f q k (or_left (any_in (of_column q k) x) (any_in (of_column q k) y) i))) (term-pair y (λ q k i. f q k (or_right (any_in (of_column q k) x) (any_in (of_column q k) y) i)))
    cond-pair (t.is_null x) f = ap is_known (term-pair x f)
    cond-pair (t.and c d) f =
        ap₂ ◌&&◌ (cond-pair c (λ q k i. f q k (or_left (any_in_cond (of_column q k) c) (any_in_cond (of_column q k) d) i))) (cond-pair d (λ q k i. f q k (or_right (any_in_cond (of_column q k) c) (any_in_cond (of_column q k) d) i)))
    cond-pair (t.or c d) f =
        ap₂ ◌&&◌ (cond-pair c (λ q k i. f q k (or_left (any_in_cond (of_column q k) c) (any_in_cond (of_column q k) d) i))) (cond-pair d (λ q k i. f q k (or_right (any_in_cond (of_column q k) c) (any_in_cond (of_column q k) d) i)))
    cond-pair (t.not c) f = cond-pair c f
    cond-pair (t.some r c) f = cond-pair c f
    cond-pair (t.every r c) f = cond-pair c f

  heads-pair : (xs : List Term) → ((q k : ℕ) → list_any (any_in (of_column q k)) xs ≡ true → at q k ≡ other q k) → map (term_type at) xs ≡ map (term_type other) xs
  heads-pair [] f = refl
  heads-pair (x ∷ xs) f =
      ap₂ (λ (y : Option SqlType) (ys : List (Option SqlType)). y ∷ ys) (term-pair x (λ q k i. f q k (or_left (any_in (of_column q k) x) (list_any (any_in (of_column q k)) xs) i)))
      (heads-pair xs (λ q k i. f q k (or_right (any_in (of_column q k) x) (list_any (any_in (of_column q k)) xs) i)))

  -- a lookup that gives the same for the columns that a box asks for
  module _ (n : Node) (alike : (q k : ℕ) → types_asked q k n ≡ true → at q k ≡ other q k) where
    in-head : (q k : ℕ) → list_any (any_in (of_column q k)) n.parts.head ≡ true → at q k ≡ other q k
    in-head q k i = alike q k (or_left (list_any (any_in (of_column q k)) n.parts.head) (list_any (any_in_cond (of_column q k)) n.parts.conds.items) i)

    pub head-pair : types_by at n.parts.kind n.parts.head ≡ types_by other n.parts.kind n.parts.head
    head-pair = by n.parts.kind
      where
        by : (k : BoxKind) → types_by at k n.parts.head ≡ types_by other k n.parts.head
        by (Base table) = refl
        by Select = heads-pair n.parts.head in-head
        by (Group keys) = heads-pair n.parts.head in-head
        by (SetOp form types) = refl
        by OuterJoin = heads-pair n.parts.head in-head

    pub agrees-pair : (T : Types) → agrees_by at T n ≡ agrees_by other T n
    agrees-pair T =
        ap₂ (λ a b. a && b) (all-alike (λ x. is_known (term_type at x)) (λ x. is_known (term_type other x)) n.parts.head (λ x i. ap is_known (term-pair x (λ q k j. in-head q k (any-from (any_in (of_column q k)) x n.parts.head i j)))))
        (ap (λ z. z && arms_by T n.parts.kind n.quants) (all-alike (cond_fits at) (cond_fits other) n.parts.conds.items (λ x i. cond-pair x (λ q k j. alike q k (or_right (list_any (any_in (of_column q k)) n.parts.head) (list_any (any_in_cond (of_column q k)) n.parts.conds.items) (any-from (any_in_cond (of_column q k)) x n.parts.conds.items i j))))))
