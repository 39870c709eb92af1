-- The nodes of a cell and of a condition are those that are counted as its own.
use Rattle.std.proofs.Common.{◌≡◌, ◌+◌, ℕ, suc, refl, false, Option, Some, None, ap, ◌∙◌, arith}
use Rattle.sql_ast.specs.declared.word.Quantifier.{Quantifier}
use Rattle.sql_ast.specs.declared.word.Quantifier.TheVariants as quantifier
use Rattle.sql_value.specs.declared.order_key.SqlType.{SqlType}
use Rattle.sql_value.specs.declared.order_key.SqlType.TheVariants.{Integer, Varchar}
use Rattle.sql_meaning.specs.ResolvedTrees.{Value, Addends, Multipliers, Values, Arms, Choices, Test, Tests}
use Rattle.sql_meaning.specs.ResolvedTrees as q
use Rattle.qgm_box_size.specs.Nodes.{cells_size}
use Rattle.qgm_build_size.specs.Sizes as n
use Rattle.qgm_build_size.specs.declared.sizes.Size.{Size}
use Rattle.qgm_term_size.specs.Size.{arms_size, cell_size, cond_size}
use Rattle.qgm_terms.specs.Terms.{Term, Cond}
use Rattle.qgm_terms.specs.Terms as t
use Rattle.qgm_translation.specs.Leaves.{Slots, after, first_cell, first_quant, leaves, arm_leaves, choice_leaves, test_leaves}
use Rattle.qgm_translation.specs.Maps.{Frame, Map, Ref, nothing, none_counted, column, ref_term}
use Rattle.qgm_translation.specs.Sources.{Sources}
use Rattle.qgm_translation.specs.Terms as w

in-turn : (a b c : ℕ) → (a + b) + c ≡ a + (b + c)
in-turn a b c = omega arith

pub ref-own : (r : Ref) → cell_size (ref_term r) ≡ 1
ref-own nothing = refl
ref-own none_counted = refl
ref-own (column q k) = refl

null-as : (type : SqlType) → cell_size (w.null_as type) ≡ 1
null-as Integer = refl
null-as Varchar = refl

null-of : (type : Option SqlType) → cell_size (w.null_of type) ≡ 1
null-of None = refl
null-of (Some type) = null-as type

-- a NULL without a type of its own has one node, as that of any type
result-own : (type : SqlType) (x : Value) (y : Term) → cell_size y ≡ (n.value_size x).own → cell_size (w.result_as type x y) ≡ (n.value_size x).own
result-own type (q.null None) y h = null-as type
result-own type (q.null (Some other)) y h = h
result-own type (q.number z) y h = h
result-own type (q.text z) y h = h
result-own type (q.column scope place) y h = h
result-own type (q.sum x xs) y h = h
result-own type (q.product x xs) y h = h
result-own type (q.negative x) y h = h
result-own type (q.searched xs last) y h = h
result-own type (q.simple x xs last) y h = h
result-own type (q.coalesce x xs) y h = h
result-own type (q.null_if x z) y h = h
result-own type (q.scalar query) y h = h
result-own type q.count_all y h = h
result-own type (q.aggregate f distinct x) y h = h

case-own : (p : Cond) (x y : Term) → cell_size (w.case p x y) ≡ 1 + (cond_size p + cell_size x) + cell_size y
case-own p x y = omega arith

quantified-own : (each : Quantifier) (r : ℕ) (p : Cond) → cond_size (w.quantified each r p) ≡ 1 + cond_size p
quantified-own quantifier.Any r p = refl
quantified-own quantifier.Some r p = refl
quantified-own quantifier.All r p = refl

module _ (sources : Sources) (fr : Frame) (m : Map) where
  abbrev term : Slots → Value → Term
  term = w.term sources fr m

  abbrev cond : Slots → Test → Cond
  cond = w.cond sources fr m

  mutual
    pub cell-own : (s : Slots) (x : Value) → cell_size (w.term sources fr m s x) ≡ (n.value_size x).own
    cell-own s (q.number z) = refl
    cell-own s (q.text z) = refl
    cell-own s (q.null type) = null-of type
    cell-own s (q.column scope place) = ref-own _
    cell-own s (q.sum x xs) = summed-own (after (leaves fr x) s) (term s x) (n.value_size x).own xs (cell-own s x)
    cell-own s (q.product x xs) = multiplied-own (after (leaves fr x) s) (term s x) (n.value_size x).own xs (cell-own s x)
    cell-own s (q.negative x) = ap (λ z. 1 + z) (cell-own s x)
    cell-own s (q.searched xs last) =
        let end = term (after (arm_leaves fr xs) s) last in
        let type = w.arms_type sources fr m s xs (sources.typed end) in
        let a = arms-own type s xs in
        let b = result-own type last end (cell-own (after (arm_leaves fr xs) s) last) in
        omega (arith, a, b)
    cell-own s (q.simple x xs last) =
        let mid = after (leaves fr x) s in
        let end = term (after (choice_leaves fr xs) mid) last in
        let type = w.choices_type sources fr m mid xs (sources.typed end) in
        let a = choices-own type mid (term s x) (n.value_size x).own xs (cell-own s x) in
        let b = result-own type last end (cell-own (after (choice_leaves fr xs) mid) last) in
        omega (arith, a, b)
    cell-own s (q.coalesce x xs) = coalesced-own (after (leaves fr x) s) (term s x) (n.value_size x) xs (cell-own s x)
    cell-own s (q.null_if x y) =
        let a = cell-own s x in
        let b = cell-own (after (leaves fr x) s) y in
        let c = null-as (sources.typed (term s x)) in
        omega (arith, a, b, c)
    cell-own s (q.scalar query) = refl
    cell-own s q.count_all = ref-own (first_cell s.cells)
    cell-own s (q.aggregate f distinct x) = ref-own (first_cell s.cells)

    summed-own : (s : Slots) (x : Term) (k : ℕ) (xs : Addends) → cell_size x ≡ k → cell_size (w.summed sources fr m s x xs) ≡ k + (n.addends_size xs).own
    summed-own s x k q.no_addend h = omega (arith, h)
    summed-own s x k (q.one_addend op y ys) h =
        let a = cell-own s y in
        let e : cell_size (t.both (w.additive op) x (term s y)) ≡ k + (1 + (n.value_size y).own) = omega (arith, h, a) in
        let b = summed-own (after (leaves fr y) s) (t.both (w.additive op) x (term s y)) (k + (1 + (n.value_size y).own)) ys e in
        b ∙ in-turn k (1 + (n.value_size y).own) (n.addends_size ys).own

    multiplied-own : (s : Slots) (x : Term) (k : ℕ) (xs : Multipliers) → cell_size x ≡ k → cell_size (w.multiplied sources fr m s x xs) ≡ k + (n.multipliers_size xs).own
    multiplied-own s x k q.no_multiplier h = omega (arith, h)
    multiplied-own s x k (q.one_multiplier op y ys) h =
        let a = cell-own s y in
        let e : cell_size (t.both (w.multiplicative op) x (term s y)) ≡ k + (1 + (n.value_size y).own) = omega (arith, h, a) in
        let b = multiplied-own (after (leaves fr y) s) (t.both (w.multiplicative op) x (term s y)) (k + (1 + (n.value_size y).own)) ys e in
        b ∙ in-turn k (1 + (n.value_size y).own) (n.multipliers_size ys).own

    arms-own : (type : SqlType) (s : Slots) (xs : Arms) → arms_size (w.arms sources fr m type s xs) ≡ (n.arms_size xs).own
    arms-own type s q.no_arm = refl
    arms-own type s (q.one_arm p x xs) =
        let mid = after (test_leaves fr p) s in
        let a = cond-own s p in
        let b = result-own type x (term mid x) (cell-own mid x) in
        let c = arms-own type (after (leaves fr x) mid) xs in
        omega (arith, a, b, c)

    choices-own : (type : SqlType) (s : Slots) (x : Term) (k : ℕ) (xs : Choices) → cell_size x ≡ k → arms_size (w.choices sources fr m type s x xs) ≡ (n.choices_size k xs).own
    choices-own type s x k q.no_choice h = refl
    choices-own type s x k (q.one_choice y z xs) h =
        let mid = after (leaves fr y) s in
        let a = cell-own s y in
        let b = result-own type z (term mid z) (cell-own mid z) in
        let c = choices-own type (after (leaves fr z) mid) x k xs h in
        omega (arith, h, a, b, c)

    coalesced-own : (s : Slots) (x : Term) (a : Size) (xs : Values) → cell_size x ≡ a.own → cell_size (w.coalesced sources fr m s x xs) ≡ (n.coalesced_size a xs).own
    coalesced-own s x a q.no_value h = h
    coalesced-own s x a (q.one_value y ys) h =
        let c = coalesced-own (after (leaves fr y) s) (term s y) (n.value_size y) ys (cell-own s y) in
        omega (arith, h, c)

    pub cond-own : (s : Slots) (p : Test) → cond_size (w.cond sources fr m s p) ≡ (n.test_size p).own
    cond-own s (q.all q.no_test) = refl
    cond-own s (q.all (q.one_test p ps)) = and-own (after (test_leaves fr p) s) (cond s p) (n.test_size p) ps (cond-own s p)
    cond-own s (q.any q.no_test) = refl
    cond-own s (q.any (q.one_test p ps)) = or-own (after (test_leaves fr p) s) (cond s p) (n.test_size p) ps (cond-own s p)
    cond-own s (q.negated p) = ap (λ z. 1 + z) (cond-own s p)
    cond-own s (q.compare x op y) = let a = cell-own s x in let b = cell-own (after (leaves fr x) s) y in omega (arith, a, b)
    cond-own s (q.quantified x op each query) =
        let a = cell-own s x in
        let r = first_quant (after (leaves fr x) s).quants in
        let b = quantified-own each r (t.compare (w.sign op) (term s x) (t.col r 1)) in
        omega (arith, a, b)
    cond-own s (q.between x y z) =
        let a = cell-own s x in
        let b = cell-own (after (leaves fr x) s) y in
        let c = cell-own (after (leaves fr y) (after (leaves fr x) s)) z in
        omega (arith, a, b, c)
    cond-own s (q.among x q.no_value) = refl
    cond-own s (q.among x (q.one_value y ys)) =
        let mid = after (leaves fr x) s in
        let a = cell-own s x in
        let b = cell-own mid y in
        let c = or-equals-own (after (leaves fr y) mid) (term s x) (n.value_size x).own (t.compare t.equal (term s x) (term mid y)) (n.more (suc (n.value_size x).own) (n.value_size y)) ys a (omega (arith, a, b)) in
        omega (arith, c)
    cond-own s (q.among_rows x query) = let a = cell-own s x in omega (arith, a)
    cond-own s (q.like x y) = let a = cell-own s x in let b = cell-own (after (leaves fr x) s) y in omega (arith, a, b)
    cond-own s (q.is_null x) = ap (λ z. 1 + z) (cell-own s x)
    cond-own s (q.exists query) = refl

    and-own : (s : Slots) (c : Cond) (a : Size) (ps : Tests) → cond_size c ≡ a.own → cond_size (w.and_every sources fr m s c ps) ≡ (n.tests_size false a ps).own
    and-own s c a q.no_test h = h
    and-own s c a (q.one_test p ps) h =
        let b = cond-own s p in
        and-own (after (test_leaves fr p) s) (t.and c (cond s p)) (n.joined false a (n.test_size p)) ps (omega (arith, h, b))

    or-own : (s : Slots) (c : Cond) (a : Size) (ps : Tests) → cond_size c ≡ a.own → cond_size (w.or_some sources fr m s c ps) ≡ (n.tests_size false a ps).own
    or-own s c a q.no_test h = h
    or-own s c a (q.one_test p ps) h =
        let b = cond-own s p in
        or-own (after (test_leaves fr p) s) (t.or c (cond s p)) (n.joined false a (n.test_size p)) ps (omega (arith, h, b))

    or-equals-own : (s : Slots) (x : Term) (k : ℕ) (c : Cond) (a : Size) (ys : Values) → cell_size x ≡ k → cond_size c ≡ a.own → cond_size (w.or_equals sources fr m s x c ys) ≡ (n.among_size k false a ys).own
    or-equals-own s x k c a q.no_value h i = i
    or-equals-own s x k c a (q.one_value y ys) h i =
        let b = cell-own s y in
        or-equals-own (after (leaves fr y) s) x k (t.or c (t.compare t.equal x (term s y))) (n.joined false a (n.more (suc k) (n.value_size y))) ys h (omega (arith, h, i, b))

  -- of a list
  pub cells-own : (s : Slots) (xs : Values) → cells_size (w.terms sources fr m s xs) ≡ (n.values_size xs).own
  cells-own s q.no_value = refl
  cells-own s (q.one_value x xs) =
      let a = cell-own s x in
      let b = cells-own (after (leaves fr x) s) xs in
      omega (arith, a, b)
