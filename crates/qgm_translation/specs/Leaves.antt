-- The subqueries and the aggregates of a block, in the order of the text, and what stands for them in a box.
use Rattle.std.specs.Prelude.{ℕ, Bool, List, [], ◌∷◌, ◌++◌}
use Rattle.sql_ast.specs.declared.word.Quantifier.{Quantifier}
use Rattle.sql_ast.specs.declared.word.Quantifier.TheVariants as quantifier
use Rattle.sql_ast.specs.declared.word.SetFunction.{SetFunction}
use Rattle.sql_meaning.specs.ResolvedTrees.{Value, Addends, Multipliers, Values, Arms, Choices, Test, Tests, Query}
use Rattle.sql_meaning.specs.ResolvedTrees as q
use Rattle.qgm_core.specs.declared.kinds.QuantKind.{QuantKind}
use Rattle.qgm_core.specs.declared.kinds.QuantKind.TheVariants.{E, A, S}
use Rattle.qgm_translation.specs.Maps.{Frame, Ref, nothing}

pub data Leaf : Type 0 where
  -- a subquery: the innermost frame that it sees, and whether it is asked for some row, for every row or for its value
  sub : Frame → QuantKind → Query → Leaf
  -- an aggregate of an argument, with DISTINCT where true stands
  fold : SetFunction → Bool → Value → Leaf
  -- COUNT(*)
  count : Leaf

-- ANY and SOME ask for some row, ALL for every row
abbrev pub every_or_some : Quantifier → QuantKind
every_or_some quantifier.Any = E
every_or_some quantifier.Some = E
every_or_some quantifier.All = A

-- of expressions and conditions that see this frame first; what stands in a subquery or an argument is not the block's
module _ (fr : Frame) where
  abbrev mutual
    pub leaves : Value → List Leaf
    leaves (q.number n) = []
    leaves (q.text x) = []
    leaves (q.null type) = []
    leaves (q.column scope place) = []
    leaves (q.sum x xs) = leaves x ++ addend_leaves xs
    leaves (q.product x xs) = leaves x ++ multiplier_leaves xs
    leaves (q.negative x) = leaves x
    leaves (q.searched xs last) = arm_leaves xs ++ leaves last
    leaves (q.simple x xs last) = leaves x ++ (choice_leaves xs ++ leaves last)
    leaves (q.coalesce x xs) = leaves x ++ list_leaves xs
    leaves (q.null_if x y) = leaves x ++ leaves y
    leaves (q.scalar query) = sub fr S query ∷ []
    leaves q.count_all = count ∷ []
    leaves (q.aggregate f distinct x) = fold f distinct x ∷ []

    pub addend_leaves : Addends → List Leaf
    addend_leaves q.no_addend = []
    addend_leaves (q.one_addend op x xs) = leaves x ++ addend_leaves xs

    pub multiplier_leaves : Multipliers → List Leaf
    multiplier_leaves q.no_multiplier = []
    multiplier_leaves (q.one_multiplier op x xs) = leaves x ++ multiplier_leaves xs

    pub list_leaves : Values → List Leaf
    list_leaves q.no_value = []
    list_leaves (q.one_value x xs) = leaves x ++ list_leaves xs

    pub arm_leaves : Arms → List Leaf
    arm_leaves q.no_arm = []
    arm_leaves (q.one_arm p x xs) = test_leaves p ++ (leaves x ++ arm_leaves xs)

    pub choice_leaves : Choices → List Leaf
    choice_leaves q.no_choice = []
    choice_leaves (q.one_choice x y xs) = leaves x ++ (leaves y ++ choice_leaves xs)

    pub test_leaves : Test → List Leaf
    test_leaves (q.all ps) = tests_leaves ps
    test_leaves (q.any ps) = tests_leaves ps
    test_leaves (q.negated p) = test_leaves p
    test_leaves (q.compare x op y) = leaves x ++ leaves y
    test_leaves (q.quantified x op each query) = leaves x ++ (sub fr (every_or_some each) query ∷ [])
    test_leaves (q.between x y z) = leaves x ++ (leaves y ++ leaves z)
    test_leaves (q.among x xs) = leaves x ++ list_leaves xs
    test_leaves (q.among_rows x query) = leaves x ++ (sub fr E query ∷ [])
    test_leaves (q.like x y) = leaves x ++ leaves y
    test_leaves (q.is_null x) = leaves x
    test_leaves (q.exists query) = sub fr E query ∷ []

    pub tests_leaves : Tests → List Leaf
    tests_leaves q.no_test = []
    tests_leaves (q.one_test p ps) = test_leaves p ++ tests_leaves ps

-- ---- what stands for leaves

-- the quantifiers of subqueries and the columns of aggregates, in the order of the leaves
pub record Slots : Type 0 where
  pub quants : List ℕ
  pub cells : List Ref

abbrev pub first_quant : List ℕ → ℕ
first_quant [] = 0
first_quant (q ∷ qs) = q

abbrev pub first_cell : List Ref → Ref
first_cell [] = nothing
first_cell (r ∷ rs) = r

abbrev pub rest_of : {X : Type 0} → List X → List X
rest_of [] = []
rest_of (x ∷ xs) = xs

-- what is left after some leaves
abbrev pub after : List Leaf → Slots → Slots
after [] s = s
after (sub fr kind query ∷ ls) s = after ls (record s { quants = rest_of s.quants })
after (fold f distinct x ∷ ls) s = after ls (record s { cells = rest_of s.cells })
after (count ∷ ls) s = after ls (record s { cells = rest_of s.cells })
