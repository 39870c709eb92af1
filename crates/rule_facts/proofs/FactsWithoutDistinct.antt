-- No fact hangs on the distinctness of a box.
use Rattle.std.proofs.Common.{ℕ, ◌==◌, ◌≡◌, ◌&&◌, ◌||◌, nat_lt, nat_le, if◌then◌else◌, cond, Bool, true, false, List, [], ◌∷◌, None, Option, Some, refl, sym, ap, ap₂, ◌∙◌, inl, inr}
use Rattle.std.specs.Prelude.{take}
use Rattle.std.specs.List.{list_all, list_any}
use Rattle.std.proofs.lemmas.Bool.{cases_Bool}
use mathlib.Core.Path.{fun_ext}
use Rattle.qgm_terms.specs.Terms.{Term, int, text, null_int, null_text, col, scalar, both, minus_of, choose, count_all, fold, Arms, no_arm, arm, Cond, always, compare, is_null, and, or, not, some, every}
use Rattle.qgm_core.specs.Boxes.{is_box, is_quant, owns, range_in, width}
use Rattle.qgm_core.specs.Edits.{with_distinct}
use Rattle.list_laws.specs.Lists.{change, first}
use Rattle.qgm_core.specs.declared.kinds.BoxKind.{BoxKind}
use Rattle.qgm_core.specs.declared.kinds.BoxKind.TheVariants.{Base, Select, Group, SetOp, OuterJoin}
use Rattle.qgm_core.specs.declared.kinds.SetOperator.TheVariants.{UnionAll, Union, IntersectAll, Intersect, ExceptAll, Except}
use Rattle.qgm_core.specs.declared.kinds.Distinct.{Distinct}
use Rattle.qgm_core.specs.declared.kinds.Distinct.TheVariants.{Preserve}
use Rattle.qgm_core.specs.declared.node.Node.{Node}
use Rattle.qgm_core.specs.declared.owned.OwnedQuant.{OwnedQuant}
use Rattle.qgm_props.specs.Inferred.{Fact, Facts, at_most_one, clean, error_free, exactly_one, inferred_once, not_null, says}
use Rattle.qgm_props.specs.Under.{all_under_F, at_place, of_box, of_over, of_quant, under_first, under_two}
use Rattle.qgm_props.specs.Inferred as facts
use Rattle.rule_facts.specs.Told.{not-told, told, untold, infers}
use Rattle.rule_facts.specs.FactsWithoutDistinct.{FactsWithoutDistinct}

-- as of a PRESERVE box
abbrev plain : Option Node → Option Node
plain None = None
plain (Some n) = Some (with_distinct Preserve n)

first-plain : (p : Node → Bool) → ((d : Distinct) (n : Node) → p (with_distinct d n) ≡ p n) → (b : ℕ) (d : Distinct) (bs : List Node) → plain (first p (change (is_box b) (with_distinct d) bs)) ≡ plain (first p bs)
first-plain p h b d [] = refl
first-plain p h b d (n ∷ ns) =
    elim (n.id == b) as (λ t. plain (first p (cond t (with_distinct d n ∷ ns) (n ∷ change (is_box b) (with_distinct d) ns))) ≡ plain (first p (n ∷ ns))) [
      | true ↦ ap (λ t. plain (cond t (Some (with_distinct d n)) (first p ns))) (h d n) ∙ elim (p n) as (λ t. plain (cond t (Some (with_distinct d n)) (first p ns)) ≡ plain (cond t (Some n) (first p ns))) [ true ↦ refl | false ↦ refl ]
      | false ↦ elim (p n) as (λ t. plain (cond t (Some n) (first p (change (is_box b) (with_distinct d) ns))) ≡ plain (cond t (Some n) (first p ns))) [ true ↦ refl | false ↦ first-plain p h b d ns ]
    ]

of-box-same : (f g : Node → Bool) → ((n : Node) → f n ≡ g n) → ((n : Node) → g (with_distinct Preserve n) ≡ g n) → (o u : Option Node) → plain o ≡ plain u → of_box false f o ≡ of_box false g u
of-box-same f g e s o u h = eq o ∙ sym (back o) ∙ ap (of_box false g) h ∙ back u
  where
    eq : (o : Option Node) → of_box false f o ≡ of_box false g o
    eq None = refl
    eq (Some n) = e n

    back : (o : Option Node) → of_box false g (plain o) ≡ of_box false g o
    back None = refl
    back (Some n) = s n

abbrev quants_over : (ℕ → Bool) → ℕ → Option Node → Bool
quants_over k q o = of_over false k (range_in q o)

abbrev facts_or : Bool → Bool → Bool
facts_or a b = a || b

module _ (bs : List Node) (b : ℕ) (d : Distinct) (known : Facts) where
  abbrev cs : List Node
  cs = change (is_box b) (with_distinct d) bs

  found : (y : ℕ) → plain (first (is_box y) cs) ≡ plain (first (is_box y) bs)
  found y = first-plain (is_box y) (λ d n. refl) b d bs

  quant-same : (k : ℕ → Bool) (q : ℕ) → of_quant cs k q ≡ of_quant bs k q
  quant-same k q = sym (back (first (owns q) cs)) ∙ ap (λ o. quants_over k q o) (first-plain (owns q) (λ d n. refl) b d bs) ∙ back (first (owns q) bs)
    where
      back : (o : Option Node) → quants_over k q (plain o) ≡ quants_over k q o
      back None = refl
      back (Some n) = refl

  mutual
    free-same : (one : Bool) (x : Term) → facts.is_free cs known one x ≡ facts.is_free bs known one x
    free-same one (int n) = refl
    free-same one (text s) = refl
    free-same one null_int = refl
    free-same one null_text = refl
    free-same one (col q k) = quant-same (λ b. known.error_free b k) q
    free-same one (scalar q) = ap₂ (λ a b. a && b) (quant-same known.clean q) (ap₂ (λ a b. a && b) (quant-same known.at_most_one q) (quant-same (λ b. known.error_free b 1) q))
    free-same one (both o x y) = ap₂ (λ a b. facts.keeps_free o y && (a && b)) (free-same one x) (free-same one y)
    free-same one (minus_of x) = refl
    free-same one (choose s x) = ap₂ (λ a b. a && b) (arms-same one s) (free-same one x)
    free-same one count_all = refl
    free-same one (fold f t x) = ap (λ a. facts.fold_free one f && a) (free-same one x)

    arms-same : (one : Bool) (s : Arms) → facts.arms_free cs known one s ≡ facts.arms_free bs known one s
    arms-same one no_arm = refl
    arms-same one (arm p x s) = ap₂ (λ a b. a && b) (cond-same one p) (ap₂ (λ a b. a && b) (free-same one x) (arms-same one s))

    cond-same : (one : Bool) (p : Cond) → facts.cond_free cs known one p ≡ facts.cond_free bs known one p
    cond-same one always = refl
    cond-same one (compare sign x y) = ap₂ (λ a b. a && b) (free-same one x) (free-same one y)
    cond-same one (is_null x) = free-same one x
    cond-same one (and p q) = ap₂ (λ a b. a && b) (cond-same one p) (cond-same one q)
    cond-same one (or p q) = ap₂ (λ a b. a && b) (cond-same one p) (cond-same one q)
    cond-same one (not p) = cond-same one p
    cond-same one (some q p) = ap₂ (λ a b. a && b) (quant-same known.clean q) (cond-same one p)
    cond-same one (every q p) = ap₂ (λ a b. a && b) (quant-same known.clean q) (cond-same one p)

  frees : (one : Bool) → facts.is_free cs known one ≡ facts.is_free bs known one
  frees one = fun_ext (free-same one)

  conds : (one : Bool) → facts.cond_free cs known one ≡ facts.cond_free bs known one
  conds one = fun_ext (cond-same one)

  values : facts.holds_value cs known ≡ facts.holds_value bs known
  values = fun_ext by
    where
      by : (x : Term) → facts.holds_value cs known x ≡ facts.holds_value bs known x
      by (int n) = refl
      by (text s) = refl
      by null_int = refl
      by null_text = refl
      by (col q k) = quant-same (λ b. known.not_null b k) q
      by (scalar q) = refl
      by (both o x y) = refl
      by (minus_of x) = refl
      by (choose s x) = refl
      by count_all = refl
      by (fold f t x) = refl

  lefts : (rs : List OwnedQuant) → facts.holds_left cs known rs ≡ facts.holds_left bs known rs
  lefts rs = fun_ext by
    where
      by : (x : Term) → facts.holds_left cs known rs x ≡ facts.holds_left bs known rs x
      by (int n) = refl
      by (text s) = refl
      by null_int = refl
      by null_text = refl
      by (col q k) = ap (λ a. list_any (is_quant q) (take 1 rs) && a) (quant-same (λ b. known.not_null b k) q)
      by (scalar q) = refl
      by (both o x y) = refl
      by (minus_of x) = refl
      by (choose s x) = refl
      by count_all = refl
      by (fold f t x) = refl

  clean-same : (k : BoxKind) (n : Node) → facts.clean_by cs known k n ≡ facts.clean_by bs known k n
  clean-same (Base table) n = refl
  clean-same Select n = ap (λ f. all_under_F known.clean n.quants && list_all f n.parts.conds.items) (conds false)
  clean-same (Group k) n = ap (λ f. under_first known.clean n.quants && list_all f (take k n.parts.head)) (frees false)
  clean-same (SetOp UnionAll types) n = refl
  clean-same (SetOp Union types) n = refl
  clean-same (SetOp IntersectAll types) n = refl
  clean-same (SetOp Intersect types) n = refl
  clean-same (SetOp ExceptAll types) n = refl
  clean-same (SetOp Except types) n = refl
  clean-same OuterJoin n = ap (λ f. under_two known.clean n.quants && list_all f n.parts.conds.items) (conds false)

  cells-same : (k : BoxKind) (n : Node) (c : ℕ) → facts.free_by cs known k n c ≡ facts.free_by bs known k n c
  cells-same (Base table) n c = refl
  cells-same Select n c = ap (λ f. at_place f n.parts.head c) (frees false)
  cells-same (Group keys) n c = ap (λ f. known.clean n.id && at_place f n.parts.head c) (frees (under_first known.at_most_one n.quants))
  cells-same (SetOp UnionAll types) n c = refl
  cells-same (SetOp Union types) n c = refl
  cells-same (SetOp IntersectAll types) n c = refl
  cells-same (SetOp Intersect types) n c = refl
  cells-same (SetOp ExceptAll types) n c = refl
  cells-same (SetOp Except types) n c = refl
  cells-same OuterJoin n c = ap (λ f. at_place f n.parts.head c) (frees false)

  nulls-same : (k : BoxKind) (n : Node) (c : ℕ) → facts.not_null_by cs known k n c ≡ facts.not_null_by bs known k n c
  nulls-same (Base table) n c = refl
  nulls-same Select n c = ap (λ f. at_place f n.parts.head c) values
  nulls-same (Group keys) n c = ap (λ f. if nat_le c keys then at_place f n.parts.head c else at_place facts.is_count n.parts.head c) values
  nulls-same (SetOp form types) n c = refl
  nulls-same OuterJoin n c = ap (λ f. at_place f n.parts.head c) (lefts n.quants)

  one-same : (k : BoxKind) (n : Node) → facts.exactly_one_by cs known k n ≡ facts.exactly_one_by bs known k n
  one-same (Base table) n = refl
  one-same Select n = refl
  one-same (Group k) n = refl
  one-same (SetOp form types) n = refl
  one-same OuterJoin n = refl

  most-same : (k : BoxKind) (n : Node) → facts.at_most_one_by cs known k n ≡ facts.at_most_one_by bs known k n
  most-same (Base table) n = refl
  most-same Select n = refl
  most-same (Group k) n = refl
  most-same (SetOp form types) n = refl
  most-same OuterJoin n = refl

  once-same : (f : Fact) → says (inferred_once cs known) f ≡ says (inferred_once bs known) f
  once-same (clean y) = of-box-same (λ n. facts.clean_by cs known n.parts.kind n) (λ n. facts.clean_by bs known n.parts.kind n) (λ n. clean-same n.parts.kind n) (λ n. by n.parts.kind n) (first (is_box y) cs) (first (is_box y) bs) (found y)
    where
      by : (k : BoxKind) (n : Node) → facts.clean_by bs known k (with_distinct Preserve n) ≡ facts.clean_by bs known k n
      by (Base table) n = refl
      by Select n = refl
      by (Group k) n = refl
      by (SetOp form types) n = refl
      by OuterJoin n = refl
  once-same (error_free y c) = of-box-same (λ n. (nat_lt 0 c && nat_le c (width n)) && facts.free_by cs known n.parts.kind n c) (λ n. (nat_lt 0 c && nat_le c (width n)) && facts.free_by bs known n.parts.kind n c)
      (λ n. ap (λ a. (nat_lt 0 c && nat_le c (width n)) && a) (cells-same n.parts.kind n c)) (λ n. ap (λ a. (nat_lt 0 c && nat_le c (width n)) && a) (by n.parts.kind n)) (first (is_box y) cs) (first (is_box y) bs) (found y)
    where
      by : (k : BoxKind) (n : Node) → facts.free_by bs known k (with_distinct Preserve n) c ≡ facts.free_by bs known k n c
      by (Base table) n = refl
      by Select n = refl
      by (Group k) n = refl
      by (SetOp form types) n = refl
      by OuterJoin n = refl
  once-same (not_null y c) = of-box-same (λ n. (nat_lt 0 c && nat_le c (width n)) && facts.not_null_by cs known n.parts.kind n c) (λ n. (nat_lt 0 c && nat_le c (width n)) && facts.not_null_by bs known n.parts.kind n c)
      (λ n. ap (λ a. (nat_lt 0 c && nat_le c (width n)) && a) (nulls-same n.parts.kind n c)) (λ n. ap (λ a. (nat_lt 0 c && nat_le c (width n)) && a) (by n.parts.kind n)) (first (is_box y) cs) (first (is_box y) bs) (found y)
    where
      by : (k : BoxKind) (n : Node) → facts.not_null_by bs known k (with_distinct Preserve n) c ≡ facts.not_null_by bs known k n c
      by (Base table) n = refl
      by Select n = refl
      by (Group k) n = refl
      by (SetOp form types) n = refl
      by OuterJoin n = refl
  once-same (at_most_one y) = of-box-same (λ n. facts_or (known.exactly_one y) (facts.at_most_one_by cs known n.parts.kind n)) (λ n. facts_or (known.exactly_one y) (facts.at_most_one_by bs known n.parts.kind n))
      (λ n. ap (facts_or (known.exactly_one y)) (most-same n.parts.kind n)) (λ n. ap (facts_or (known.exactly_one y)) (by n.parts.kind n)) (first (is_box y) cs) (first (is_box y) bs) (found y)
    where
      by : (k : BoxKind) (n : Node) → facts.at_most_one_by bs known k (with_distinct Preserve n) ≡ facts.at_most_one_by bs known k n
      by (Base table) n = refl
      by Select n = refl
      by (Group k) n = refl
      by (SetOp form types) n = refl
      by OuterJoin n = refl
  once-same (exactly_one y) = of-box-same (λ n. facts.exactly_one_by cs known n.parts.kind n) (λ n. facts.exactly_one_by bs known n.parts.kind n) (λ n. one-same n.parts.kind n) (λ n. by n.parts.kind n) (first (is_box y) cs) (first (is_box y) bs) (found y)
    where
      by : (k : BoxKind) (n : Node) → facts.exactly_one_by bs known k (with_distinct Preserve n) ≡ facts.exactly_one_by bs known k n
      by (Base table) n = refl
      by Select n = refl
      by (Group k) n = refl
      by (SetOp form types) n = refl
      by OuterJoin n = refl

pub facts-without-distinct : FactsWithoutDistinct
facts-without-distinct bs b d f = (
  λ h known c. h known (λ fact s. c fact (sym (once-same bs b d known fact) ∙ s)),
  λ h known c. h known (λ fact s. c fact (once-same bs b d known fact ∙ s)),
)

-- so that a test of a fact on a copy with another distinctness is one of the graph itself
pub infers-same : (bs : List Node) (b : ℕ) (d : Distinct) (f : Fact) → infers (change (is_box b) (with_distinct d) bs) f ≡ infers bs f
infers-same bs b d f = elim (cases_Bool (infers bs f)) [
  | inl t ↦ (told (change (is_box b) (with_distinct d) bs) f).1 ((facts-without-distinct bs b d f).1 ((told bs f).0 t)) ∙ sym t
  | inr n ↦ not-told (change (is_box b) (with_distinct d) bs) f (λ i. untold bs f n ((facts-without-distinct bs b d f).0 i)) ∙ sym n
]
