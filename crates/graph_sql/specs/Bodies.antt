-- A box as a SELECT over what stands for the rows of its quantifiers.
use Rattle.std.specs.Prelude.{ℕ, Bool, true, List, [], ◌∷◌, filter, if◌then◌else◌, length, map, nat_eq, take}
use Rattle.std.specs.Cmp.Lexicographic.{pointwise}
use Rattle.qgm_core.specs.Kinds.{is_F, is_enforce}
use Rattle.qgm_core.specs.declared.kinds.BoxKind.{BoxKind}
use Rattle.qgm_core.specs.declared.kinds.BoxKind.TheVariants.{Base, Select, Group, SetOp, OuterJoin}
use Rattle.qgm_core.specs.declared.kinds.SetOperator.{SetOperator}
use Rattle.qgm_core.specs.declared.node.Node.{Node}
use Rattle.qgm_core.specs.declared.owned.OwnedQuant.{OwnedQuant}
use Rattle.qgm_terms.specs.Terms.{Aggregate, Taken, Cond, Term, int, text, null_int, null_text, col, scalar, both, minus_of, choose, count_all, fold}
use Rattle.sql_value.specs.declared.order_key.SqlType.{SqlType}
use Rattle.graph_sql.specs.Readings.{Names, cell_sql, cond_sql}
use Rattle.graph_sql.specs.Statement.{Expression, Test}
use Rattle.graph_sql.specs.declared.reading.Reading.TheVariants.{True}
use Rattle.graph_sql.specs.declared.tables.TableNames.{TableNames}

-- a column of a stored table
pub record Stored : Type 0 where
  pub name : List ℕ
  pub type : SqlType

-- a cell of a group: one of each of its rows, or an aggregate
pub data GroupCell (R : Type 0) : Type 0 where
  cell : Expression R → GroupCell R
  counted_all : GroupCell R
  folded : Aggregate → Taken → Expression R → GroupCell R

-- an arm of a set operation: a quantifier, and what stands for its rows
pub record Arm (R : Type 0) : Type 0 where
  pub quant : ℕ
  pub range : R

pub data Body (R : Type 0) : Type 0 where
  -- a table by its name, and its columns
  stored : List ℕ → List Stored → Body R
  -- whether DISTINCT; the cells, FROM and WHERE
  selected : Bool → List (Expression R) → List R → List (Test R) → Body R
  -- how many keys; the cells, FROM
  grouped : ℕ → List (GroupCell R) → List R → Body R
  -- the operator, how many columns, and the arms
  combined : SetOperator → ℕ → List (Arm R) → Body R
  -- the cells, what LEFT JOIN joins, and ON
  outer_joined : List (Expression R) → List R → List (Test R) → Body R

-- ---- stored tables

-- the names of the columns of the first table of a name
abbrev pub columns_named : List TableNames → List ℕ → List (List ℕ)
columns_named [] name = []
columns_named (t ∷ ts) name = if pointwise nat_eq t.name name then t.columns else columns_named ts name

-- column by column, as far as both go
abbrev pub stored_columns : List (List ℕ) → List SqlType → List Stored
stored_columns [] types = []
stored_columns (name ∷ names) [] = []
stored_columns (name ∷ names) (type ∷ types) = (record { name = name; type = type }) ∷ stored_columns names types

-- ---- boxes

-- the numbers of the F quantifiers, and of the first ones
abbrev pub each_id : List OwnedQuant → List ℕ
each_id rs = map (λ r. r.id) (filter (λ r. is_F r.kind) rs)

abbrev pub first_ids : ℕ → List OwnedQuant → List ℕ
first_ids k rs = map (λ r. r.id) (take k rs)

module _ {R : Type 0} (n : Names R) where
  abbrev pub group_cell : Term → GroupCell R
  group_cell count_all = counted_all
  group_cell (fold f t x) = folded f t (cell_sql n x)
  group_cell (int m) = cell (cell_sql n (int m))
  group_cell (text s) = cell (cell_sql n (text s))
  group_cell null_int = cell (cell_sql n null_int)
  group_cell null_text = cell (cell_sql n null_text)
  group_cell (col q k) = cell (cell_sql n (col q k))
  group_cell (scalar q) = cell (cell_sql n (scalar q))
  group_cell (both o x y) = cell (cell_sql n (both o x y))
  group_cell (minus_of x) = cell (cell_sql n (minus_of x))
  group_cell (choose s x) = cell (cell_sql n (choose s x))

  -- what stands for the rows of each of these
  abbrev pub ranges : List ℕ → List R
  ranges qs = map n.range qs

  abbrev pub arms : List ℕ → List (Arm R)
  arms qs = map (λ q. record { quant = q; range = n.range q }) qs

  -- conditions that are true
  abbrev pub tests : List Cond → List (Test R)
  tests ps = map (cond_sql n True) ps

  abbrev pub body_by : BoxKind → List TableNames → Node → Body R
  body_by (Base table) tables b = stored table.name (stored_columns (columns_named tables table.name) table.types)
  body_by Select tables b = selected (is_enforce b.parts.distinct) (map (cell_sql n) b.parts.head) (ranges (each_id b.quants)) (tests b.parts.conds.items)
  body_by (Group keys) tables b = grouped keys (map group_cell b.parts.head) (ranges (first_ids 1 b.quants))
  body_by (SetOp operator types) tables b = combined operator (length types) (arms (first_ids 2 b.quants))
  body_by OuterJoin tables b = outer_joined (map (cell_sql n) b.parts.head) (ranges (first_ids 2 b.quants)) (tests b.parts.conds.items)

  abbrev pub body_sql : List TableNames → Node → Body R
  body_sql tables b = body_by b.parts.kind tables b
