-- The expressions and the conditions of a block as those of a box: abbreviations are written out, and what one writes twice is asked for once.
use Rattle.std.specs.Prelude.{ℕ, Bool, true, false, List, [], ◌∷◌, get_or, if◌then◌else◌, Option, Some, None}
use Rattle.shared_types.specs.declared.compare.CmpOp.{CmpOp}
use Rattle.shared_types.specs.declared.compare.CmpOp.TheVariants.{Eq, Ne, Lt, Le, Gt, Ge}
use Rattle.sql_ast.specs.declared.word.AdditiveOp.{AdditiveOp}
use Rattle.sql_ast.specs.declared.word.AdditiveOp.TheVariants.{Plus, Minus, Concat}
use Rattle.sql_ast.specs.declared.word.MultiplicativeOp.{MultiplicativeOp}
use Rattle.sql_ast.specs.declared.word.MultiplicativeOp.TheVariants.{Times, Divide}
use Rattle.sql_ast.specs.declared.word.Quantifier.{Quantifier}
use Rattle.sql_ast.specs.declared.word.Quantifier.TheVariants as quantifier
use Rattle.sql_value.specs.declared.order_key.SqlType.{SqlType}
use Rattle.sql_value.specs.declared.order_key.SqlType.TheVariants.{Integer, Varchar}
use Rattle.sql_meaning.specs.ResolvedTrees.{Value, Addends, Multipliers, Values, Arms, Choices, Test, Tests}
use Rattle.sql_meaning.specs.ResolvedTrees as q
pub use Rattle.qgm_terms.specs.Split.{split}
use Rattle.qgm_terms.specs.Terms.{Term, Cond}
use Rattle.qgm_terms.specs.Terms as t
use Rattle.qgm_terms.specs.declared.tree.Op.{Op}
use Rattle.qgm_terms.specs.declared.tree.Op.TheVariants.{Add, Sub, Mul, Div, Cat}
use Rattle.qgm_translation.specs.Leaves.{Slots, after, first_cell, first_quant, leaves, arm_leaves, choice_leaves, test_leaves}
use Rattle.qgm_translation.specs.Maps.{Frame, Map, nothing, ref_term}
use Rattle.qgm_translation.specs.Sources.{Sources}

abbrev pub additive : AdditiveOp → Op
additive Plus = Add
additive Minus = Sub
additive Concat = Cat

abbrev pub multiplicative : MultiplicativeOp → Op
multiplicative Times = Mul
multiplicative Divide = Div

abbrev pub sign : CmpOp → t.Sign
sign Eq = t.equal
sign Ne = t.unequal
sign Lt = t.below
sign Le = t.at_most
sign Gt = t.above
sign Ge = t.at_least

-- NULL of a type
abbrev pub null_as : SqlType → Term
null_as Integer = t.null_int
null_as Varchar = t.null_text

-- NULL of the type of a CAST; without one it stands as a result of a CASE alone
abbrev pub null_of : Option SqlType → Term
null_of (Some type) = null_as type
null_of None = t.null_int

-- a NULL that has no type of its own
abbrev pub is_untyped : Value → Bool
is_untyped (q.null None) = true
is_untyped (q.null (Some type)) = false
is_untyped (q.number n) = false
is_untyped (q.text x) = false
is_untyped (q.column scope place) = false
is_untyped (q.sum x xs) = false
is_untyped (q.product x xs) = false
is_untyped (q.negative x) = false
is_untyped (q.searched xs last) = false
is_untyped (q.simple x xs last) = false
is_untyped (q.coalesce x xs) = false
is_untyped (q.null_if x y) = false
is_untyped (q.scalar query) = false
is_untyped q.count_all = false
is_untyped (q.aggregate f distinct x) = false

-- a result of a CASE of this type
abbrev pub result_as : SqlType → Value → Term → Term
result_as type x y = if is_untyped x then null_as type else y

-- CASE WHEN p THEN x ELSE y END
abbrev pub case : Cond → Term → Term → Term
case p x y = t.choose (t.arm p x t.no_arm) y

abbrev pub quantified : Quantifier → ℕ → Cond → Cond
quantified quantifier.Any q p = t.some q p
quantified quantifier.Some q p = t.some q p
quantified quantifier.All q p = t.every q p

-- in a block whose own columns are seen through a frame, and those of the blocks round it through a map
module _ (sources : Sources) (fr : Frame) (m : Map) where
  abbrev mutual
    pub term : Slots → Value → Term
    term s (q.number n) = t.int n
    term s (q.text x) = t.text x
    term s (q.null type) = null_of type
    term s (q.column scope place) = ref_term (get_or (get_or (fr ∷ m) scope []) place nothing)
    term s (q.sum x xs) = summed (after (leaves fr x) s) (term s x) xs
    term s (q.product x xs) = multiplied (after (leaves fr x) s) (term s x) xs
    term s (q.negative x) = t.minus_of (term s x)
    term s (q.searched xs last) =
        let end = term (after (arm_leaves fr xs) s) last in
        let type = arms_type s xs (sources.typed end) in
        t.choose (arms type s xs) (result_as type last end)
    -- CASE x WHEN y tests x = y
    term s (q.simple x xs last) =
        let mid = after (leaves fr x) s in
        let end = term (after (choice_leaves fr xs) mid) last in
        let type = choices_type mid xs (sources.typed end) in
        t.choose (choices type mid (term s x) xs) (result_as type last end)
    term s (q.coalesce x xs) = coalesced (after (leaves fr x) s) (term s x) xs
    -- CASE WHEN x = y THEN NULL ELSE x END
    term s (q.null_if x y) = case (t.compare t.equal (term s x) (term (after (leaves fr x) s) y)) (null_as (sources.typed (term s x))) (term s x)
    term s (q.scalar query) = t.scalar (first_quant s.quants)
    term s q.count_all = ref_term (first_cell s.cells)
    term s (q.aggregate f distinct x) = ref_term (first_cell s.cells)

    pub summed : Slots → Term → Addends → Term
    summed s x q.no_addend = x
    summed s x (q.one_addend op y ys) = summed (after (leaves fr y) s) (t.both (additive op) x (term s y)) ys

    pub multiplied : Slots → Term → Multipliers → Term
    multiplied s x q.no_multiplier = x
    multiplied s x (q.one_multiplier op y ys) = multiplied (after (leaves fr y) s) (t.both (multiplicative op) x (term s y)) ys

    -- the type of the first result that has one of its own, or else this one
    pub arms_type : Slots → Arms → SqlType → SqlType
    arms_type s q.no_arm type = type
    arms_type s (q.one_arm p x xs) type =
        if is_untyped x then arms_type (after (leaves fr x) (after (test_leaves fr p) s)) xs type else sources.typed (term (after (test_leaves fr p) s) x)

    pub choices_type : Slots → Choices → SqlType → SqlType
    choices_type s q.no_choice type = type
    choices_type s (q.one_choice y z xs) type =
        if is_untyped z then choices_type (after (leaves fr z) (after (leaves fr y) s)) xs type else sources.typed (term (after (leaves fr y) s) z)

    -- the conditions, each with its result, which is of this type
    pub arms : SqlType → Slots → Arms → t.Arms
    arms type s q.no_arm = t.no_arm
    arms type s (q.one_arm p x xs) = t.arm (cond s p) (result_as type x (term (after (test_leaves fr p) s) x)) (arms type (after (leaves fr x) (after (test_leaves fr p) s)) xs)

    pub choices : SqlType → Slots → Term → Choices → t.Arms
    choices type s x q.no_choice = t.no_arm
    choices type s x (q.one_choice y z xs) =
        t.arm (t.compare t.equal x (term s y)) (result_as type z (term (after (leaves fr y) s) z)) (choices type (after (leaves fr z) (after (leaves fr y) s)) x xs)

    -- CASE WHEN x IS NOT NULL THEN x ELSE COALESCE(..) END
    pub coalesced : Slots → Term → Values → Term
    coalesced s x q.no_value = x
    coalesced s x (q.one_value y ys) = case (t.not (t.is_null x)) x (coalesced (after (leaves fr y) s) (term s y) ys)

    pub cond : Slots → Test → Cond
    cond s (q.all ps) = every s ps
    cond s (q.any ps) = some s ps
    cond s (q.negated p) = t.not (cond s p)
    cond s (q.compare x op y) = t.compare (sign op) (term s x) (term (after (leaves fr x) s) y)
    cond s (q.quantified x op each query) = quantified each (first_quant (after (leaves fr x) s).quants) (t.compare (sign op) (term s x) (t.col (first_quant (after (leaves fr x) s).quants) 1))
    cond s (q.between x y z) = t.and (t.compare t.at_least (term s x) (term (after (leaves fr x) s) y)) (t.compare t.at_most (term s x) (term (after (leaves fr y) (after (leaves fr x) s)) z))
    cond s (q.among x xs) = equals_one (after (leaves fr x) s) (term s x) xs
    cond s (q.among_rows x query) = t.some (first_quant (after (leaves fr x) s).quants) (t.compare t.equal (term s x) (t.col (first_quant (after (leaves fr x) s).quants) 1))
    cond s (q.like x y) = t.compare t.like (term s x) (term (after (leaves fr x) s) y)
    cond s (q.is_null x) = t.is_null (term s x)
    cond s (q.exists query) = t.some (first_quant s.quants) t.always

    -- p AND .., from the left
    pub every : Slots → Tests → Cond
    every s q.no_test = t.always
    every s (q.one_test p ps) = and_every (after (test_leaves fr p) s) (cond s p) ps

    pub and_every : Slots → Cond → Tests → Cond
    and_every s c q.no_test = c
    and_every s c (q.one_test p ps) = and_every (after (test_leaves fr p) s) (t.and c (cond s p)) ps

    pub some : Slots → Tests → Cond
    some s q.no_test = t.not t.always
    some s (q.one_test p ps) = or_some (after (test_leaves fr p) s) (cond s p) ps

    pub or_some : Slots → Cond → Tests → Cond
    or_some s c q.no_test = c
    or_some s c (q.one_test p ps) = or_some (after (test_leaves fr p) s) (t.or c (cond s p)) ps

    -- x = y OR .., from the left
    pub equals_one : Slots → Term → Values → Cond
    equals_one s x q.no_value = t.not t.always
    equals_one s x (q.one_value y ys) = or_equals (after (leaves fr y) s) x (t.compare t.equal x (term s y)) ys

    pub or_equals : Slots → Term → Cond → Values → Cond
    or_equals s x c q.no_value = c
    or_equals s x c (q.one_value y ys) = or_equals (after (leaves fr y) s) x (t.or c (t.compare t.equal x (term s y))) ys

  -- the expressions of a list
  abbrev pub terms : Slots → Values → List Term
  terms s q.no_value = []
  terms s (q.one_value x xs) = term s x ∷ terms (after (leaves fr x) s) xs
