-- What names stand for, what types expressions have, and how many columns queries and the operands of a FROM have.
use Rattle.std.specs.Prelude.{ℕ, suc, ◌+◌, List, Option}
use Rattle.sql_value.specs.declared.order_key.SqlType.{SqlType}
use Rattle.sql_meaning.specs.ResolvedTrees.{Values, From, Froms, Query}
use Rattle.sql_meaning.specs.ResolvedTrees as q
use Rattle.qgm_core.specs.declared.kinds.BaseTable.{BaseTable}
use Rattle.qgm_terms.specs.Terms.{Term}

pub record Sources : Type 0 where
  -- how many columns a table or a view has
  pub columns : List ℕ → ℕ
  -- the body of a view; a table has none
  pub body : List ℕ → Option Query
  -- what a graph knows of a table: its name, and the types, keys and not-null columns of the catalog
  pub stored : List ℕ → BaseTable
  -- the box that all share who name a table or a view
  pub shared : List ℕ → ℕ
  -- the type that an expression has in the graph
  pub typed : Term → SqlType

abbrev pub how_many_values : Values → ℕ
how_many_values q.no_value = 0
how_many_values (q.one_value x xs) = suc (how_many_values xs)

abbrev pub width : Query → ℕ
width (q.block distinct list from by) = how_many_values list
width (q.grouped distinct list from by places n having) = how_many_values list
width (q.combine x op all n y) = n
width (q.intersect x all n y) = n

abbrev pub from_width : Sources → From → ℕ
from_width sources (q.named name) = sources.columns name
from_width sources (q.derived query) = width query
from_width sources (q.crossed x y) = from_width sources x + from_width sources y
from_width sources (q.joined x y p) = from_width sources x + from_width sources y
from_width sources (q.left_joined x y n p) = from_width sources x + n

abbrev pub froms_width : Sources → Froms → ℕ
froms_width sources q.no_from = 0
froms_width sources (q.one_from x xs) = from_width sources x + froms_width sources xs
