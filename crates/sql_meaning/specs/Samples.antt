-- A small schema with its tables, and words to write queries with.
use Rattle.std.specs.Prelude.{◌≡◌, ℕ, pos, codes, false, List, [], ◌∷◌, map, Some, None}
use Rattle.shared_types.specs.declared.compare.CmpOp.TheVariants as op
use Rattle.row_bag.specs.Bags.{row}
use Rattle.row_bag.specs.Verdict.{verdict}
use Rattle.row_bag.specs.declared.outcome.Verdict.TheVariants.{Rows, Error}
use Rattle.row_bag.specs.declared.tables.Table.{Table}
use Rattle.sql_ast.specs.declared.name.Correlation.{Correlation}
use Rattle.sql_ast.specs.declared.schema.Element.{Element}
use Rattle.sql_ast.specs.declared.schema.Element.TheVariants as element
use Rattle.sql_ast.specs.declared.schema.TableDecl.{TableDecl}
use Rattle.sql_ast.specs.declared.word.AdditiveOp.TheVariants as add
use Rattle.sql_ast.specs.declared.word.DataType.TheVariants as type
use Rattle.sql_ast.specs.declared.word.MultiplicativeOp.TheVariants as mul
use Rattle.sql_ast.specs.declared.word.SetFunction.{SetFunction}
use Rattle.sql_ast.specs.declared.word.SetQuantifier.TheVariants as each
use Rattle.sql_ast.specs.Syntax as s
use Rattle.sql_ast.specs.Declarations.{Declared}
use Rattle.sql_value.specs.declared.cell.Cell.{Cell}
use Rattle.sql_value.specs.declared.cell.Cell.TheVariants.{Int, Null}
use Rattle.sql_value.specs.declared.cell.Kind.{Kind}
use Rattle.sql_value.specs.declared.level.Level.TheVariants.{Yes}
use Rattle.sql_meaning.specs.Meaning.{known_of, rows}

-- ---- queries

-- a column, and a column of a range
abbrev pub c : List ℕ → s.Expr
c name = s.col (record { range = None; name = name })

abbrev pub of : List ℕ → List ℕ → s.Expr
of range name = s.col (record { range = Some range; name = name })

abbrev pub n : ℕ → s.Expr
n m = s.number (pos m)

abbrev pub plus : s.Expr → s.Expr → s.Expr
plus x y = s.add x add.Plus y

abbrev pub minus : s.Expr → s.Expr → s.Expr
minus x y = s.add x add.Minus y

abbrev pub over : s.Expr → s.Expr → s.Expr
over x y = s.multiply x mul.Divide y

abbrev pub equal : s.Expr → s.Expr → s.Cond
equal x y = s.compare x op.Eq y

abbrev pub above : s.Expr → s.Expr → s.Cond
above x y = s.compare x op.Gt y

abbrev pub aggregate : SetFunction → s.Expr → s.Expr
aggregate f x = s.aggregate f None x

-- lists of one column and of two
abbrev pub one : s.Expr → s.SelectList
one x = s.items (s.one_item (s.item x None) s.no_item)

abbrev pub two : s.Expr → s.Expr → s.SelectList
two x y = s.items (s.one_item (s.item x None) (s.one_item (s.item y None) s.no_item))

-- a table, and a subquery in FROM under an alias and a column list
abbrev pub t : List ℕ → s.TableRef
t name = s.named name None

abbrev pub as_named : List ℕ → List (List ℕ) → Correlation
as_named name columns = record { noise = false; name = name; columns = columns }

abbrev pub derived : s.Query → List ℕ → List (List ℕ) → s.TableRef
derived q name columns = s.derived q (as_named name columns)

abbrev pub from : s.TableRef → s.TableRefs
from x = s.one_table x s.no_table

-- SELECT list FROM x; the same with WHERE, with DISTINCT, with GROUP BY and HAVING
abbrev pub select : s.SelectList → s.TableRef → s.Query
select list x = s.block None list (from x) s.no_filter [] s.no_filter

abbrev pub select_where : s.SelectList → s.TableRef → s.Cond → s.Query
select_where list x p = s.block None list (from x) (s.only_where p) [] s.no_filter

abbrev pub select_distinct : s.SelectList → s.TableRef → s.Query
select_distinct list x = s.block (Some each.Distinct) list (from x) s.no_filter [] s.no_filter

abbrev pub select_by : s.SelectList → s.TableRef → List ℕ → s.Filter → s.Query
select_by list x name having = s.block None list (from x) s.no_filter (record { range = None; name = name } ∷ []) having

-- ---- tables

abbrev pub int : ℕ → Cell
int m = Int (pos m)

abbrev integers : List (List ℕ) → List Element
integers names = map (λ name. element.Column (record { name = name; data_type = type.Integer; constraints = [] })) names

abbrev declared : List ℕ → List (List ℕ) → TableDecl
declared name columns = record { name = name; elements = integers columns }

abbrev loaded : List ℕ → List (List Cell) → Table
loaded name tuples = record { name = name; bag = map (λ cells. row cells Yes) tuples }

-- D (A, B) holds 1, 10 and 2, 20 and 3, null; E (A, C) holds 1, 5 and 1, 6 and 2, null and null, 9; NONE (A) holds nothing. V is the view SELECT DISTINCT A FROM E, and W (X) the view SELECT A FROM V.
abbrev pub catalog : Declared
catalog = record {
  tables = declared (codes "D") (codes "A" ∷ codes "B" ∷ []) ∷ declared (codes "E") (codes "A" ∷ codes "C" ∷ []) ∷ declared (codes "NONE") (codes "A" ∷ []) ∷ [];
  views = record { name = codes "W"; columns = codes "X" ∷ []; query = select (one (c (codes "A"))) (t (codes "V")) }
      ∷ record { name = codes "V"; columns = []; query = select_distinct (one (c (codes "A"))) (t (codes "E")) } ∷ [];
}

abbrev pub tables : List Table
tables = loaded (codes "D") ((int 1 ∷ int 10 ∷ []) ∷ (int 2 ∷ int 20 ∷ []) ∷ (int 3 ∷ Null ∷ []) ∷ [])
    ∷ loaded (codes "E") ((int 1 ∷ int 5 ∷ []) ∷ (int 1 ∷ int 6 ∷ []) ∷ (int 2 ∷ Null ∷ []) ∷ (Null ∷ int 9 ∷ []) ∷ [])
    ∷ loaded (codes "NONE") [] ∷ []

-- what a query comes to: these tuples, in the order of the loops, or this error
abbrev pub HasRows : s.Query → List (List Cell) → Type 0
HasRows q tuples = verdict (rows (known_of catalog tables) q []) ≡ Rows (map (λ cells. row cells Yes) tuples)

abbrev pub Fails : s.Query → Kind → Type 0
Fails q k = verdict (rows (known_of catalog tables) q []) ≡ Error k
