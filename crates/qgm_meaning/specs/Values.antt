-- What expressions and conditions of boxes are, where quantifiers are bound to rows.
use Rattle.std.specs.Prelude.{ℕ, ◌==◌, if◌then◌else◌, true, List, [], ◌∷◌, map}
use Rattle.shared_types.specs.declared.compare.CmpOp.TheVariants as op
use Rattle.qgm_terms.specs.declared.tree.Op.{Op}
use Rattle.qgm_terms.specs.declared.tree.Op.TheVariants.{Add, Sub, Mul, Div, Cat}
use Rattle.qgm_terms.specs.Terms.{Sign, equal, unequal, below, at_most, above, at_least, same, like}
use Rattle.qgm_terms.specs.Terms.{scalar, some, every, Term, int, text, null_int, null_text, col, both, minus_of, choose, count_all, fold, Arms, no_arm, arm, Cond, always, compare, is_null, and, or, not}
use Rattle.row_bag.specs.Order.{cell_of}
use Rattle.row_bag.specs.declared.row.Row.{Row}
use Rattle.row_bag.specs.Subqueries as subquery
use Rattle.sql_value.specs.Arithmetic as a
use Rattle.sql_value.specs.Comparison as c
use Rattle.sql_value.specs.Like as l
use Rattle.sql_value.specs.Truths as t
use Rattle.sql_value.specs.declared.cell.Cell.{Cell}
use Rattle.sql_value.specs.declared.cell.Cell.TheVariants.{Int, Text, Null, Err}
use Rattle.sql_value.specs.declared.cell.Kind.TheVariants as kind
use Rattle.sql_value.specs.declared.level.Level.{Level}
use Rattle.sql_value.specs.declared.level.Level.TheVariants.{No, Cardinality, Division, Overflow, Yes}
use Rattle.sql_value.specs.declared.truth.Truth.{Truth}

-- the rows that quantifiers are bound to, the last bound first
abbrev pub Environment : Type 0
Environment = List (ℕ × List Cell)

-- a quantifier bound to a row, before those that are bound
abbrev pub bound : ℕ → List Cell → Environment → Environment
bound q cells env = (q, cells) ∷ env

-- the row that a quantifier is bound to; none of a quantifier that isn't bound, which isn't so in a well-formed graph
abbrev pub row_of : ℕ → Environment → List Cell
row_of q [] = []
row_of q (binding ∷ env) = if binding.0 == q then binding.1 else row_of q env

-- an operation on two cells
abbrev pub operate : Op → Cell → Cell → Cell
operate Add x y = a.add x y
operate Sub x y = a.sub x y
operate Mul x y = a.mul x y
operate Div x y = a.div x y
operate Cat x y = a.concat x y

-- a comparison of two cells
abbrev pub compared : Sign → Cell → Cell → Truth
compared equal x y = c.compare op.Eq x y
compared unequal x y = c.compare op.Ne x y
compared below x y = c.compare op.Lt x y
compared at_most x y = c.compare op.Le x y
compared above x y = c.compare op.Gt x y
compared at_least x y = c.compare op.Ge x y
compared same x y = c.same x y
compared like x y = l.like x y

-- where a condition is true wholly this cell, where it isn't at all the other one, and else its error
abbrev pub chosen_at : Level → Cell → Cell → Cell
chosen_at Yes x y = x
chosen_at No x y = y
chosen_at Cardinality x y = Err kind.Cardinality
chosen_at Division x y = Err kind.Division
chosen_at Overflow x y = Err kind.Overflow

abbrev pub Bag : Type 0
Bag = List (Row (List Cell))

-- over what the E, A and S quantifiers of the box give here
module _ (rows : ℕ → Bag) where
  abbrev mutual
    pub value : Term → Environment → Cell
    value (int n) env = Int n
    value (text s) env = Text s
    value null_int env = Null
    value null_text env = Null
    value (col q k) env = cell_of k (row_of q env)
    value (both o x y) env = operate o (value x env) (value y env)
    value (minus_of x) env = a.neg (value x env)
    value (choose s x) env = first_true s (value x env) env
    -- an aggregate is a cell of a group alone
    value count_all env = Null
    value (fold f t x) env = Null
    value (scalar q) env = subquery.scalar (rows q)

    -- the result of the first condition that is true, and else the last cell
    pub first_true : Arms → Cell → Environment → Cell
    first_true no_arm last env = last
    first_true (arm p x s) last env = chosen_at (truth p env).t (value x env) (first_true s last env)

    pub truth : Cond → Environment → Truth
    truth always env = t.truth_of true
    truth (compare sign x y) env = compared sign (value x env) (value y env)
    truth (is_null x) env = c.is_null (value x env)
    truth (and p q) env = t.and (truth p env) (truth q env)
    truth (or p q) env = t.or (truth p env) (truth q env)
    truth (not p) env = t.negated (truth p env)
    truth (some q p) env = subquery.some (λ cells. truth p (bound q cells env)) (rows q)
    truth (every q p) env = subquery.every (λ cells. truth p (bound q cells env)) (rows q)

  -- all of these conditions
  abbrev pub all_true : List Cond → Environment → Truth
  all_true [] env = t.truth_of true
  all_true (p ∷ ps) env = t.and (truth p env) (all_true ps env)

  -- the cells of a head
  abbrev pub head_cells : List Term → Environment → List Cell
  head_cells terms env = map (λ x. value x env) terms
