-- What expressions and tests of a statement mean, where each quantifier's rows are given: tests have three truth values, and an error is a cell.
use Rattle.std.specs.Prelude.{not, if◌then◌else◌, Bool, true, false, List, [], ◌∷◌}
use Rattle.std.specs.List.{list_any}
use Rattle.std.specs.Ordering.{is_eq}
use Rattle.shared_types.specs.declared.compare.CmpOp.TheVariants as op
use Rattle.row_bag.specs.Order.{cell_of}
use Rattle.row_bag.specs.Subqueries.{only_cell}
use Rattle.qgm_meaning.specs.Satisfies.{is_yes}
use Rattle.qgm_meaning.specs.Values.{Environment, bound, operate, row_of}
use Rattle.sql_value.specs.Arithmetic.{neg}
use Rattle.sql_value.specs.Cells.{cell_compare}
use Rattle.sql_value.specs.Comparison as compare
use Rattle.sql_value.specs.Like as like
use Rattle.sql_value.specs.declared.cell.Cell.{Cell}
use Rattle.sql_value.specs.declared.cell.Cell.TheVariants.{Int, Text, Null, Err}
use Rattle.sql_value.specs.declared.cell.Kind.TheVariants.{Cardinality}
use Rattle.sql_value.specs.declared.truth.Truth.{Truth}
use Rattle.graph_sql.specs.Statement as s
use Rattle.graph_sql.specs.Statement.{Expression, number, string, null_of, column, operated, opposite, cases, Whens, no_when, when}
use Rattle.graph_sql.specs.Statement.{Test, constant, compared, null, filled, not_true, not_false, joined, exists, missing}
use Rattle.graph_sql.specs.declared.reading.Comparison.{Comparison}
use Rattle.graph_sql.specs.declared.reading.Comparison.TheVariants.{Equal, Unequal, Below, AtMost, Above, AtLeast, Like, NotLike, Same, NotSame}
use Rattle.graph_sql.specs.declared.reading.Connective.{Connective}
use Rattle.graph_sql.specs.declared.reading.Connective.TheVariants.{And, Or}

pub data Logic : Type 0 where
  yes : Logic
  no : Logic
  unknown : Logic

abbrev pub logic_of : Bool → Logic
logic_of true = yes
logic_of false = no

abbrev pub is_true : Logic → Bool
is_true yes = true
is_true no = false
is_true unknown = false

abbrev pub is_false : Logic → Bool
is_false yes = false
is_false no = true
is_false unknown = false

abbrev pub negation : Logic → Logic
negation yes = no
negation no = yes
negation unknown = unknown

abbrev pub join : Connective → Logic → Logic → Logic
join And yes q = q
join And no q = no
join And unknown yes = unknown
join And unknown no = no
join And unknown unknown = unknown
join Or yes q = yes
join Or no q = q
join Or unknown yes = yes
join Or unknown no = unknown
join Or unknown unknown = unknown

-- the truth value that is neither of an error
abbrev pub valued : Truth → Logic
valued p = if is_yes p.t then yes else if is_yes p.f then no else unknown

-- what a comparison of two cells gives; unknown where one is null, but for arrays of one cell, in which nulls are the same
abbrev pub comparison : Comparison → Cell → Cell → Logic
comparison Equal a b = valued (compare.compare op.Eq a b)
comparison Unequal a b = valued (compare.compare op.Ne a b)
comparison Below a b = valued (compare.compare op.Lt a b)
comparison AtMost a b = valued (compare.compare op.Le a b)
comparison Above a b = valued (compare.compare op.Gt a b)
comparison AtLeast a b = valued (compare.compare op.Ge a b)
comparison Like a b = valued (like.like a b)
comparison NotLike a b = negation (valued (like.like a b))
comparison Same a b = logic_of (is_eq (cell_compare a b))
comparison NotSame a b = logic_of (not (is_eq (cell_compare a b)))

abbrev pub is_null : Cell → Bool
is_null Null = true
is_null (Int n) = false
is_null (Text s) = false
is_null (Err k) = false

-- rows, each the list of its cells
abbrev pub Rows : Type 0
Rows = List (List Cell)

-- the first cell of the one row: null where there is none, an error where there are more
abbrev pub cell_of_rows : Rows → Cell
cell_of_rows [] = Null
cell_of_rows (r ∷ []) = only_cell r
cell_of_rows (r ∷ q ∷ rows) = Err Cardinality

abbrev mutual
  pub cell_in : Expression Rows → Environment → Cell
  cell_in (number n) env = Int n
  cell_in (string t) env = Text t
  cell_in (null_of type) env = Null
  cell_in (column q k) env = cell_of k (row_of q env)
  cell_in (s.only_cell q rows) env = cell_of_rows rows
  cell_in (operated o x y) env = operate o (cell_in x env) (cell_in y env)
  cell_in (opposite x) env = neg (cell_in x env)
  cell_in (cases ws x) env = first_when ws (cell_in x env) env

  -- the result of the first test that is true, and else the last cell
  pub first_when : Whens Rows → Cell → Environment → Cell
  first_when no_when last env = last
  first_when (when p x ws) last env = if is_true (logic_in p env) then cell_in x env else first_when ws last env

  pub logic_in : Test Rows → Environment → Logic
  logic_in (constant b) env = logic_of b
  logic_in (compared c x y) env = comparison c (cell_in x env) (cell_in y env)
  logic_in (null x) env = logic_of (is_null (cell_in x env))
  logic_in (filled x) env = logic_of (not (is_null (cell_in x env)))
  logic_in (not_true p) env = logic_of (not (is_true (logic_in p env)))
  logic_in (not_false p) env = logic_of (not (is_false (logic_in p env)))
  logic_in (joined c p q) env = join c (logic_in p env) (logic_in q env)
  logic_in (exists q rows p) env = logic_of (list_any (λ cells. is_true (logic_in p (bound q cells env))) rows)
  logic_in (missing q rows p) env = logic_of (not (list_any (λ cells. is_true (logic_in p (bound q cells env))) rows))
