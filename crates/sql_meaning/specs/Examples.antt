-- Queries over the sample tables, and what they come to.
use Rattle.std.specs.Prelude.{◌≡◌, ℕ, negsuc, codes, true, false, List, [], ◌∷◌, map, Option, None, Some}
use Rattle.shared_types.specs.declared.compare.CmpOp.TheVariants as op
use Rattle.row_bag.specs.Bags.{row}
use Rattle.sql_ast.specs.declared.text.Sort.{Sort}
use Rattle.sql_ast.specs.declared.text.SortKey.TheVariants as sort_key
use Rattle.sql_ast.specs.declared.word.Direction.{Direction}
use Rattle.sql_ast.specs.declared.word.Direction.TheVariants as way
use Rattle.sql_ast.specs.declared.word.Quantifier.TheVariants as quantifier
use Rattle.sql_ast.specs.declared.word.SetFunction.TheVariants as function
use Rattle.sql_ast.specs.declared.word.SetOperator.TheVariants as operator
use Rattle.sql_ast.specs.declared.word.SetQuantifier.TheVariants as each
use Rattle.sql_ast.specs.Syntax as s
use Rattle.sql_value.specs.declared.cell.Cell.{Cell}
use Rattle.sql_value.specs.declared.cell.Cell.TheVariants.{Int, Null}
use Rattle.sql_value.specs.declared.level.Level.TheVariants.{Yes}
use Rattle.sql_value.specs.declared.cell.Kind.TheVariants as kind
use Rattle.sql_meaning.specs.Meaning.{Answer, answer, answer_error, answer_rows, known_of}
use Rattle.sql_meaning.specs.Samples.{Fails, HasRows, above, aggregate, c, catalog, derived, equal, from, int, minus, n, of, one, over, plus, select, select_by, select_distinct, select_where, t, tables, two}

-- a column A, of the tables D and E
abbrev a : s.Expr
a = c (codes "A")

abbrev b : s.Expr
b = c (codes "B")

abbrev da : s.Expr
da = of (codes "D") (codes "A")

abbrev ea : s.Expr
ea = of (codes "E") (codes "A")

abbrev d : s.TableRef
d = t (codes "D")

abbrev e : s.TableRef
e = t (codes "E")

abbrev none : s.TableRef
none = t (codes "NONE")

-- 1 / (A - 1)
abbrev fault : s.Expr
fault = over (n 1) (s.paren (minus a (n 1)))

-- 1 / 0
abbrev by_zero : s.Expr
by_zero = over (n 1) (n 0)

-- SELECT x FROM D
abbrev each_of_d : s.Expr → s.Query
each_of_d x = select (one x) d

pub record OfCells : Type 0 where
  -- B + 1: null of null
  pub null : HasRows (each_of_d (plus b (n 1))) ((int 11 ∷ []) ∷ (int 21 ∷ []) ∷ (Null ∷ []) ∷ [])
  -- CASE WHEN A > 1 THEN 1 / (A - 1) ELSE 0 END: only the result that is taken is used
  pub case : HasRows (each_of_d (s.searched (s.one_arm (above a (n 1)) (s.given fault) s.no_arm) (s.or_else (s.given (n 0))))) ((int 0 ∷ []) ∷ (int 1 ∷ []) ∷ (int 0 ∷ []) ∷ [])
  -- CASE WHEN 1 / (A - 1) > 0 THEN 1 END: a condition that is an error is that error
  pub case_of_error : Fails (each_of_d (s.searched (s.one_arm (above fault (n 0)) (s.given (n 1)) s.no_arm) s.no_else)) kind.Division
  -- CASE A WHEN 1 THEN 7 END: without ELSE the end is null
  pub simple_case : HasRows (each_of_d (s.simple a (s.one_choice (n 1) (s.given (n 7)) s.no_choice) s.no_else)) ((int 7 ∷ []) ∷ (Null ∷ []) ∷ (Null ∷ []) ∷ [])
  -- COALESCE(B, A)
  pub coalesce : HasRows (each_of_d (s.coalesce b (s.one_expr a s.no_expr))) ((int 10 ∷ []) ∷ (int 20 ∷ []) ∷ (int 3 ∷ []) ∷ [])
  -- NULLIF(A, 2)
  pub null_if : HasRows (each_of_d (s.null_if a (n 2))) ((int 1 ∷ []) ∷ (Null ∷ []) ∷ (int 3 ∷ []) ∷ [])
  -- (0 - A) / 2: truncated toward zero
  pub quotient : HasRows (each_of_d (over (s.paren (minus (n 0) a)) (n 2))) ((int 0 ∷ []) ∷ (Int (negsuc 0) ∷ []) ∷ (Int (negsuc 0) ∷ []) ∷ [])
  -- 9223372036854775807 + A
  pub overflow : Fails (each_of_d (plus (n 9223372036854775807) a)) kind.Overflow
  -- 1 / 0 + B where B is null: an error beside null
  pub error_beside_null : Fails (select_where (one (plus by_zero b)) d (equal a (n 3))) kind.Division

pub record OfConditions : Type 0 where
  -- SELECT A FROM D WHERE B > 5: a comparison with null is unknown, and keeps no row
  pub unknown : HasRows (select_where (one a) d (above b (n 5))) ((int 1 ∷ []) ∷ (int 2 ∷ []) ∷ [])
  -- SELECT A FROM D WHERE NOT B > 5: nor does its negation
  pub not_unknown : HasRows (select_where (one a) d (s.negated (above b (n 5)))) []
  -- SELECT A FROM D WHERE B > 5 OR A = 3: unknown OR true is true
  pub unknown_or_true : HasRows (select_where (one a) d (s.either (above b (n 5)) (equal a (n 3)))) ((int 1 ∷ []) ∷ (int 2 ∷ []) ∷ (int 3 ∷ []) ∷ [])
  -- SELECT A FROM D WHERE B IS NULL
  pub null : HasRows (select_where (one a) d (s.is_null b false)) ((int 3 ∷ []) ∷ [])
  -- SELECT A FROM D WHERE 1 / (A - 1) > 0 AND A <> 1: an error counts only where no other condition rejects the row
  pub error_beside_false : HasRows (select_where (one a) d (s.both (above fault (n 0)) (s.compare a op.Ne (n 1)))) ((int 2 ∷ []) ∷ [])
  -- SELECT A FROM D WHERE 1 / (A - 1) > 0
  pub error_alone : Fails (select_where (one a) d (above fault (n 0))) kind.Division
  -- SELECT A FROM D WHERE 1 / (A - 1) > 5 OR A = 1: the same beside true
  pub error_beside_true : HasRows (select_where (one a) d (s.either (above fault (n 5)) (equal a (n 1)))) ((int 1 ∷ []) ∷ [])
  -- SELECT A FROM (SELECT A, 1 / 0 FROM D) X: a cell that nobody uses shows no error
  pub unused : HasRows (select (one a) (derived (select (two a by_zero) d) (codes "X") [])) ((int 1 ∷ []) ∷ (int 2 ∷ []) ∷ (int 3 ∷ []) ∷ [])

pub record OfSubqueries : Type 0 where
  -- SELECT A FROM D WHERE A NOT IN (SELECT A FROM E): with a null among the rows it is never true
  pub not_in_with_null : HasRows (select_where (one a) d (s.in_query a true (select (one a) e))) []
  -- SELECT A FROM D WHERE A IN (SELECT A FROM E)
  pub in_with_null : HasRows (select_where (one a) d (s.in_query a false (select (one a) e))) ((int 1 ∷ []) ∷ (int 2 ∷ []) ∷ [])
  -- SELECT A, (SELECT C FROM E WHERE E.A = D.A) FROM D: two rows for the first, which is the cardinality error
  pub scalar_of_two : Fails (select (two a (s.scalar (select_where (one (c (codes "C"))) e (equal ea da)))) d) kind.Cardinality
  -- the same WHERE A <> 1: one row, and none, which are null both
  pub scalar_of_one : HasRows (select_where (two a (s.scalar (select_where (one (c (codes "C"))) e (equal ea da)))) d (s.compare a op.Ne (n 1))) ((int 2 ∷ Null ∷ []) ∷ (int 3 ∷ Null ∷ []) ∷ [])
  -- SELECT A FROM D WHERE EXISTS (SELECT 1 / 0 FROM E WHERE E.A = D.A): EXISTS reads no cell
  pub exists : HasRows (select_where (one a) d (s.exists (select_where (one by_zero) e (equal ea da)))) ((int 1 ∷ []) ∷ (int 2 ∷ []) ∷ [])
  -- SELECT A FROM D WHERE B > ALL (SELECT A FROM NONE): over no row the AND is true
  pub all_over_nothing : HasRows (select_where (one a) d (s.quantified b op.Gt quantifier.All (select (one a) none))) ((int 1 ∷ []) ∷ (int 2 ∷ []) ∷ (int 3 ∷ []) ∷ [])
  -- SELECT A FROM D WHERE B > ANY (SELECT A FROM NONE): over no row the OR is false
  pub any_over_nothing : HasRows (select_where (one a) d (s.quantified b op.Gt quantifier.Any (select (one a) none))) []
  -- SELECT A FROM D WHERE (SELECT COUNT(*) FROM E WHERE E.A = D.A) = 0: a count over nothing is a number
  pub count_bug : HasRows (select_where (one a) d (equal (s.scalar (select_where (one s.count_all) e (equal ea da))) (n 0))) ((int 3 ∷ []) ∷ [])

pub record OfJoins : Type 0 where
  -- SELECT D.A, C FROM D JOIN E ON E.A = D.A
  pub inner : HasRows (select (two da (c (codes "C"))) (s.join d true e (equal ea da))) ((int 1 ∷ int 5 ∷ []) ∷ (int 1 ∷ int 6 ∷ []) ∷ (int 2 ∷ Null ∷ []) ∷ [])
  -- SELECT D.A, C FROM D LEFT JOIN E ON E.A = D.A: a left row without partner stands once with nulls
  pub left : HasRows (select (two da (c (codes "C"))) (s.left_join d true e (equal ea da))) ((int 1 ∷ int 5 ∷ []) ∷ (int 1 ∷ int 6 ∷ []) ∷ (int 2 ∷ Null ∷ []) ∷ (int 3 ∷ Null ∷ []) ∷ [])
  -- SELECT D.A, C FROM D LEFT JOIN E ON C > 8 AND E.A = D.A: with each row of E the ON of 1, of 2 and of 3 is false or unknown
  pub left_of_no_partner : HasRows (select (two da (c (codes "C"))) (s.left_join d true e (s.both (above (c (codes "C")) (n 8)) (equal ea da)))) ((int 1 ∷ Null ∷ []) ∷ (int 2 ∷ Null ∷ []) ∷ (int 3 ∷ Null ∷ []) ∷ [])
  -- SELECT D.A, NONE.A FROM D LEFT JOIN NONE ON 1 = 1: no partner at all
  pub left_of_nothing : HasRows (select (two da (of (codes "NONE") (codes "A"))) (s.left_join d true none (equal (n 1) (n 1)))) ((int 1 ∷ Null ∷ []) ∷ (int 2 ∷ Null ∷ []) ∷ (int 3 ∷ Null ∷ []) ∷ [])
  -- SELECT D.A FROM D LEFT JOIN E ON 1 / (D.A - 3) > 5 WHERE D.A = 3: partners at an error level are there
  pub left_of_error : Fails (select_where (one da) (s.left_join d true e (above (over (n 1) (s.paren (minus da (n 3)))) (n 5))) (equal da (n 3))) kind.Division
  -- SELECT D.A FROM D LEFT JOIN (SELECT A FROM E WHERE 1 / 0 > 0 AND A > 9) X ON 1 = 1: rows of the right at no are no partners
  pub left_of_rows_at_no : HasRows (select (one da) (s.left_join d true (derived (select_where (one a) e (s.both (above by_zero (n 0)) (above a (n 9)))) (codes "X") []) (equal (n 1) (n 1)))) ((int 1 ∷ []) ∷ (int 2 ∷ []) ∷ (int 3 ∷ []) ∷ [])
  -- SELECT X.P, Q FROM (SELECT A, A + A FROM D) X (P, Q): a column list names what has no name
  pub column_list : HasRows (select (two (of (codes "X") (codes "P")) (c (codes "Q"))) (derived (select (two a (plus a a)) d) (codes "X") (codes "P" ∷ codes "Q" ∷ []))) ((int 1 ∷ int 2 ∷ []) ∷ (int 2 ∷ int 4 ∷ []) ∷ (int 3 ∷ int 6 ∷ []) ∷ [])
  -- SELECT A FROM D WHERE EXISTS (SELECT 1 FROM (SELECT D.* FROM E) X WHERE X.B = 20): a subquery in FROM sees the scopes round its block
  pub range_of_outer : HasRows (select_where (one a) d (s.exists (select_where (one (n 1)) (derived (select (s.items (s.one_item (s.all_of (codes "D")) s.no_item)) e) (codes "X") []) (equal (of (codes "X") (codes "B")) (n 20))))) ((int 2 ∷ []) ∷ [])
  -- SELECT W.X FROM V, W WHERE W.X = V.A: a view over a view
  pub views : HasRows (s.block None (one (of (codes "W") (codes "X"))) (s.one_table (t (codes "V")) (from (t (codes "W")))) (s.only_where (equal (of (codes "W") (codes "X")) (of (codes "V") (codes "A")))) [] s.no_filter) ((int 1 ∷ []) ∷ (int 2 ∷ []) ∷ [])

pub record OfGroups : Type 0 where
  -- SELECT COUNT(*), SUM(A) FROM NONE: one group, even over no row
  pub aggregates_over_nothing : HasRows (select (two s.count_all (aggregate function.Sum a)) none) ((int 0 ∷ Null ∷ []) ∷ [])
  -- SELECT COUNT(*) FROM NONE GROUP BY A: no group over no row
  pub groups_over_nothing : HasRows (select_by (one s.count_all) none (codes "A") s.no_filter) []
  -- SELECT A, COUNT(*) FROM E GROUP BY A: nulls are one group
  pub groups : HasRows (select_by (two a s.count_all) e (codes "A") s.no_filter) ((int 1 ∷ int 2 ∷ []) ∷ (int 2 ∷ int 1 ∷ []) ∷ (Null ∷ int 1 ∷ []) ∷ [])
  -- SELECT E.A, MAX(C) FROM E GROUP BY A HAVING COUNT(*) < 2: nulls are left out
  pub having : HasRows (select_by (two ea (aggregate function.Max (c (codes "C")))) e (codes "A") (s.only_where (s.compare s.count_all op.Lt (n 2)))) ((int 2 ∷ Null ∷ []) ∷ (Null ∷ int 9 ∷ []) ∷ [])
  -- SELECT A, (SELECT B FROM D WHERE D.A = E.A) FROM E GROUP BY A: a subquery sees the grouping cells
  pub seen_from_within : HasRows (select_by (two a (s.scalar (select_where (one b) d (equal da ea)))) e (codes "A") s.no_filter) ((int 1 ∷ int 10 ∷ []) ∷ (int 2 ∷ int 20 ∷ []) ∷ (Null ∷ Null ∷ []) ∷ [])
  -- SELECT COUNT(A), COUNT(DISTINCT A) FROM E
  pub counts : HasRows (select (two (aggregate function.Count a) (s.aggregate function.Count (Some each.Distinct) a)) e) ((int 3 ∷ int 2 ∷ []) ∷ [])
  -- SELECT MIN(C), AVG(C) FROM E: 20 / 3 truncated
  pub least_and_mean : HasRows (select (two (aggregate function.Min (c (codes "C"))) (aggregate function.Avg (c (codes "C")))) e) ((int 5 ∷ int 6 ∷ []) ∷ [])
  -- SELECT SUM(P) FROM (SELECT 9223372036854775807 FROM D UNION ALL SELECT 0 - 9223372036854775807 FROM D) X (P): an exact total, though parts of it leave 64 bits
  pub exact_total : HasRows (select (one (aggregate function.Sum (c (codes "P")))) (derived (s.combine (select (one (n 9223372036854775807)) d) operator.Union true (select (one (minus (n 0) (n 9223372036854775807))) d)) (codes "X") (codes "P" ∷ []))) ((int 0 ∷ []) ∷ [])
  -- SELECT SUM(9223372036854775807) FROM D
  pub total_too_large : Fails (select (one (aggregate function.Sum (n 9223372036854775807))) d) kind.Overflow
  -- SELECT COUNT(*) FROM (SELECT 1 / (A - 1) FROM D) X (P) GROUP BY P: a grouping cell is an error
  pub failed_key : Fails (select_by (one s.count_all) (derived (select (one fault) d) (codes "X") (codes "P" ∷ [])) (codes "P") s.no_filter) kind.Division
  -- SELECT COUNT(*), SUM(1 / (A - 1)) FROM D: an error among the arguments; COUNT(*) has none
  pub argument_error : Fails (select (two s.count_all (aggregate function.Sum fault)) d) kind.Division
  -- SELECT COUNT(*) FROM (SELECT COUNT(*), SUM(1 / (A - 1)) FROM D) X: nobody uses that cell
  pub argument_error_unused : HasRows (select (one s.count_all) (derived (select (two s.count_all (aggregate function.Sum fault)) d) (codes "X") [])) ((int 1 ∷ []) ∷ [])
  -- SELECT COUNT(*), MAX(1 / (A - 1)) FROM D WHERE A <> 1: a row that is rejected isn't there, whatever its cells are
  pub rejected : HasRows (select_where (two s.count_all (aggregate function.Max fault)) d (s.compare a op.Ne (n 1))) ((int 2 ∷ int 1 ∷ []) ∷ [])
  -- SELECT COUNT(*) FROM D WHERE 1 / (A - 1) > 0 HAVING 1 = 2: a row to be grouped is at an error level, but HAVING rejects the one row
  pub failed_and_rejected : HasRows (s.block None (one s.count_all) (from d) (s.only_where (above fault (n 0))) [] (s.only_where (equal (n 1) (n 2)))) []
  -- the same without HAVING
  pub failed : Fails (select_where (one s.count_all) d (above fault (n 0))) kind.Division

pub record OfSets : Type 0 where
  -- SELECT DISTINCT 1 FROM D WHERE 1 / (A - 1) > 0: one row at an error level and one at yes are one tuple, at yes
  pub distinct_at_greatest : HasRows (s.block (Some each.Distinct) (one (n 1)) (from d) (s.only_where (above fault (n 0))) [] s.no_filter) ((int 1 ∷ []) ∷ [])
  -- SELECT A FROM E EXCEPT ALL SELECT A FROM D
  pub except_all : HasRows (s.combine (select (one a) e) operator.Except true (select (one a) d)) ((int 1 ∷ []) ∷ (Null ∷ []) ∷ [])
  -- SELECT A FROM E EXCEPT SELECT A FROM D: a tuple that occurs in the right is gone
  pub except : HasRows (s.combine (select (one a) e) operator.Except false (select (one a) d)) ((Null ∷ []) ∷ [])
  -- SELECT A FROM E INTERSECT SELECT B FROM D: nulls are equal
  pub intersect : HasRows (s.intersect (select (one a) e) false (select (one b) d)) ((Null ∷ []) ∷ [])
  -- SELECT A FROM E UNION SELECT A FROM D
  pub union : HasRows (s.combine (select (one a) e) operator.Union false (select (one a) d)) ((Null ∷ []) ∷ (int 1 ∷ []) ∷ (int 2 ∷ []) ∷ (int 3 ∷ []) ∷ [])
  -- SELECT DISTINCT A FROM E
  pub distinct : HasRows (select_distinct (one a) e) ((int 1 ∷ []) ∷ (int 2 ∷ []) ∷ (Null ∷ []) ∷ [])
  -- SELECT A FROM D UNION ALL SELECT 1 / 0 FROM NONE
  pub union_all : HasRows (s.combine (select (one a) d) operator.Union true (select (one by_zero) none)) ((int 1 ∷ []) ∷ (int 2 ∷ []) ∷ (int 3 ∷ []) ∷ [])
  -- SELECT 1 / (A - 1) FROM D WHERE A <> 1 EXCEPT SELECT A FROM E: a row that is rejected isn't there, whatever its cells are
  pub rejected : HasRows (s.combine (select_where (one fault) d (s.compare a op.Ne (n 1))) operator.Except false (select (one a) e)) ((int 0 ∷ []) ∷ [])
  -- SELECT A FROM D EXCEPT SELECT 1 / 0 FROM D: an error in an operand is the result
  pub error_in_operand : Fails (s.combine (select (one a) d) operator.Except false (select (one by_zero) d)) kind.Division

-- a key of ORDER BY
abbrev key : List ℕ → Option Direction → Sort
key name direction = record { key = sort_key.Name name; direction = direction }

abbrev ordered : s.Query → List Sort → s.QueryText
ordered q keys = record { query = q; order = keys; semicolon = false }

-- the answer to a text
abbrev reply : s.QueryText → Answer
reply text = answer (known_of catalog tables) text

-- rows at yes under these names
abbrev table_of : List (Option (List ℕ)) → List (List Cell) → Answer
table_of names tuples = answer_rows names (map (λ cells. row cells Yes) tuples)

pub record OfAnswers : Type 0 where
  -- SELECT A, C FROM E ORDER BY A DESC: nulls last; rows that tie by all columns ascending
  pub descending : reply (ordered (select (two a (c (codes "C"))) e) (key (codes "A") (Some way.Desc) ∷ []))
      ≡ table_of (Some (codes "A") ∷ Some (codes "C") ∷ []) ((int 2 ∷ Null ∷ []) ∷ (int 1 ∷ int 5 ∷ []) ∷ (int 1 ∷ int 6 ∷ []) ∷ (Null ∷ int 9 ∷ []) ∷ [])
  -- SELECT A, C + 0 FROM E: nulls first; a column without a name
  pub unordered : reply (ordered (select (two a (plus (c (codes "C")) (n 0))) e) []) ≡ table_of (Some (codes "A") ∷ None ∷ []) ((Null ∷ int 9 ∷ []) ∷ (int 1 ∷ int 5 ∷ []) ∷ (int 1 ∷ int 6 ∷ []) ∷ (int 2 ∷ Null ∷ []) ∷ [])
  -- SELECT 1 / (A - 1) FROM D: an error is the answer
  pub error : reply (ordered (each_of_d fault) []) ≡ answer_error kind.Division
