-- Queries, their graphs, and graphs that are not built of them.
use Rattle.std.specs.Prelude.{◌≡◌, ℕ, pos, codes, false, List, [], ◌∷◌, Some, None}
use Rattle.shared_types.specs.declared.compare.CmpOp.TheVariants as op
use Rattle.sql_ast.specs.declared.word.SetFunction.TheVariants as function
use Rattle.row_bag.specs.Verdict.{those_there}
use Rattle.sql_value.specs.declared.cell.Cell.TheVariants.{Null}
use Rattle.sql_meaning.specs.ResolvedMeaning.{rows}
use Rattle.sql_meaning.specs.ResolvedTrees.{Value, Values, From, Froms, Test, Query}
use Rattle.sql_meaning.specs.ResolvedTrees as q
use Rattle.sql_meaning.specs.ResolvedViews.{known_of}
use Rattle.qgm_core.specs.Edits.{range}
use Rattle.qgm_core.specs.declared.node.Node.{Node}
use Rattle.qgm_core.specs.declared.kinds.BoxKind.TheVariants.{Select, Group, OuterJoin}
use Rattle.qgm_core.specs.declared.kinds.QuantKind.TheVariants.{F, E, S}
use Rattle.qgm_terms.specs.Terms.{Term}
use Rattle.qgm_terms.specs.Terms as t
use Rattle.qgm_meaning.specs.Meaning.{bag_in}
use Rattle.qgm_meaning.specs.Values.{Bag}
use Rattle.qgm_translation.specs.Samples.{base, box, n, sources, tables, there, views}
use Rattle.qgm_translation.specs.Shown.{Shows, of_query}

-- the first of these boxes is built of a query
abbrev pub Shown : List Node → Query → Type 0
Shown boxes query = Shows sources boxes 1 (of_query query) []

abbrev pub column : ℕ → Value
column place = q.column 0 place

abbrev pub only : Value → Values
only x = q.one_value x q.no_value

abbrev pub from : From → Froms
from x = q.one_from x q.no_from

abbrev pub always : Test
always = q.all q.no_test

abbrev pub table_T : From
table_T = q.named (codes "T")

abbrev pub table_U : From
table_U = q.named (codes "U")

abbrev pub bases : List Node
bases = base 6 (codes "T") ∷ base 7 (codes "U") ∷ []

-- ---- SELECT A FROM T WHERE A NOT IN (SELECT CASE WHEN D = 7 THEN NULL ELSE C END FROM U)

abbrev pub not_in : Query
not_in =
    q.block false (only (column 0)) (from table_T)
    (q.negated (q.among_rows (column 0) (q.block false (only (q.searched (q.one_arm (q.compare (column 1) op.Eq (q.number (pos 7))) (q.null None) q.no_arm) (column 0))) (from table_U) always)))

-- SELECT CASE WHEN D = 7 THEN NULL ELSE C END FROM U
abbrev pub listed : ℕ → Node
listed b = box b Select [] (t.choose (t.arm (t.compare t.equal (t.col 9 2) (t.int (pos 7))) t.null_int t.no_arm) (t.col 9 1) ∷ []) (range 9 F 7 ∷ [])

abbrev pub not_in_boxes : List Node
not_in_boxes = box 1 Select (t.not (t.some 2 (t.compare t.equal (t.col 1 1) (t.col 2 1))) ∷ []) (t.col 1 1 ∷ []) (range 1 F 6 ∷ range 2 E 2 ∷ []) ∷ listed 2 ∷ bases

-- an anti-join: T LEFT JOIN the subquery, where it is null; unknown is taken for false
abbrev pub anti_join : List Node
anti_join =
    box 1 Select (t.is_null (t.col 1 3) ∷ []) (t.col 1 1 ∷ []) (range 1 F 2 ∷ [])
    ∷ box 2 OuterJoin (t.compare t.equal (t.col 2 1) (t.col 3 1) ∷ []) (t.col 2 1 ∷ t.col 2 2 ∷ t.col 3 1 ∷ []) (range 2 F 6 ∷ range 3 F 3 ∷ [])
    ∷ listed 3 ∷ bases

-- ---- SELECT A, D FROM T LEFT JOIN U ON C = A

abbrev pub left_join : Query
left_join = q.block false (q.one_value (column 0) (only (column 3))) (from (q.left_joined table_T table_U 2 (q.compare (column 2) op.Eq (column 0)))) always

abbrev pub left_join_boxes : List Node
left_join_boxes =
    box 1 Select [] (t.col 1 1 ∷ t.col 1 4 ∷ []) (range 1 F 2 ∷ [])
    ∷ box 2 OuterJoin (t.compare t.equal (t.col 3 1) (t.col 2 1) ∷ []) (t.col 2 1 ∷ t.col 2 2 ∷ t.col 3 1 ∷ t.col 3 2 ∷ []) (range 2 F 6 ∷ range 3 F 7 ∷ [])
    ∷ bases

-- the ON as a filter of the pairs
abbrev pub filtered_join : List Node
filtered_join =
    box 1 Select (t.compare t.equal (t.col 1 3) (t.col 1 1) ∷ []) (t.col 1 1 ∷ t.col 1 4 ∷ []) (range 1 F 2 ∷ [])
    ∷ box 2 OuterJoin [] (t.col 2 1 ∷ t.col 2 2 ∷ t.col 3 1 ∷ t.col 3 2 ∷ []) (range 2 F 6 ∷ range 3 F 7 ∷ [])
    ∷ bases

-- ---- SELECT A, COUNT(*) FROM T GROUP BY A HAVING MAX(B) >= 6

abbrev pub having : Query
having =
    q.grouped false (q.one_value (column 0) (only q.count_all)) (from table_T) always (Some (0 ∷ [])) 2
    (q.compare (q.aggregate function.Max false (column 1)) op.Ge (q.number (pos 6)))

abbrev pub having_boxes : List Node
having_boxes =
    box 1 Select (t.compare t.at_least (t.col 1 3) (t.int (pos 6)) ∷ []) (t.col 1 1 ∷ t.col 1 2 ∷ []) (range 1 F 2 ∷ [])
    ∷ box 2 (Group 1) [] (t.col 2 1 ∷ t.count_all ∷ t.fold t.greatest t.all_of (t.col 2 2) ∷ []) (range 2 F 3 ∷ [])
    ∷ box 3 Select [] (t.col 3 1 ∷ t.col 3 2 ∷ []) (range 3 F 6 ∷ [])
    ∷ bases

-- HAVING before the groups
abbrev pub having_below : List Node
having_below =
    box 1 Select [] (t.col 1 1 ∷ t.col 1 2 ∷ []) (range 1 F 2 ∷ [])
    ∷ box 2 (Group 1) [] (t.col 2 1 ∷ t.count_all ∷ t.fold t.greatest t.all_of (t.col 2 2) ∷ []) (range 2 F 3 ∷ [])
    ∷ box 3 Select (t.compare t.at_least (t.col 3 2) (t.int (pos 6)) ∷ []) (t.col 3 1 ∷ t.col 3 2 ∷ []) (range 3 F 6 ∷ [])
    ∷ bases

-- ---- SELECT COALESCE((SELECT C FROM U), 0) FROM T

abbrev pub coalesced : Query
coalesced = q.block false (only (q.coalesce (q.scalar (q.block false (only (column 0)) (from table_U) always)) (only (q.number (pos 0))))) (from table_T) always

-- SELECT C FROM U
abbrev pub first_of_U : ℕ → ℕ → Node
first_of_U b quant = box b Select [] (t.col quant 1 ∷ []) (range quant F 7 ∷ [])

abbrev pub coalesced_boxes : List Node
coalesced_boxes =
    box 1 Select [] (t.choose (t.arm (t.not (t.is_null (t.scalar 2))) (t.scalar 2) t.no_arm) (t.int (pos 0)) ∷ []) (range 1 F 6 ∷ range 2 S 2 ∷ [])
    ∷ first_of_U 2 3 ∷ bases

-- the second copy as a second quantifier
abbrev pub asked_twice : List Node
asked_twice =
    box 1 Select [] (t.choose (t.arm (t.not (t.is_null (t.scalar 2))) (t.scalar 4) t.no_arm) (t.int (pos 0)) ∷ []) (range 1 F 6 ∷ range 2 S 2 ∷ range 4 S 3 ∷ [])
    ∷ first_of_U 2 3 ∷ first_of_U 3 5 ∷ bases

-- ---- SELECT CASE WHEN A = 1 THEN 'x' END FROM T

abbrev pub texts : Query
texts = q.block false (only (q.searched (q.one_arm (q.compare (column 0) op.Eq (q.number (pos 1))) (q.text (codes "x")) q.no_arm) (q.null None))) (from table_T) always

-- with this NULL at the end
abbrev pub texts_boxes : Term → List Node
texts_boxes last = box 1 Select [] (t.choose (t.arm (t.compare t.equal (t.col 1 1) (t.int (pos 1))) (t.text (codes "x")) t.no_arm) last ∷ []) (range 1 F 6 ∷ []) ∷ bases

-- ----

-- the rows that are there, of the first box and of the query
abbrev pub given : List Node → Bag
given boxes = those_there (bag_in tables boxes 1 [])

abbrev pub asked : Query → Bag
asked query = those_there (rows (known_of views tables) query [])

pub record Refused : Type 0 where
  pub not_in_built : Shown not_in_boxes not_in
  pub not_in_rows : asked not_in ≡ []
  pub anti_join_refused : Shown anti_join not_in → ⊥
  pub anti_join_rows : given anti_join ≡ there ((n 2 ∷ []) ∷ [])
  pub left_join_built : Shown left_join_boxes left_join
  pub left_join_rows : asked left_join ≡ there ((n 1 ∷ n 7 ∷ []) ∷ (n 1 ∷ n 8 ∷ []) ∷ (n 2 ∷ Null ∷ []) ∷ (n 1 ∷ n 7 ∷ []) ∷ (n 1 ∷ n 8 ∷ []) ∷ [])
  pub filtered_join_refused : Shown filtered_join left_join → ⊥
  pub filtered_join_rows : given filtered_join ≡ there ((n 1 ∷ n 7 ∷ []) ∷ (n 1 ∷ n 8 ∷ []) ∷ (n 1 ∷ n 7 ∷ []) ∷ (n 1 ∷ n 8 ∷ []) ∷ [])
  pub having_built : Shown having_boxes having
  pub having_rows : asked having ≡ there ((n 2 ∷ n 1 ∷ []) ∷ (n 1 ∷ n 2 ∷ []) ∷ [])
  pub having_below_refused : Shown having_below having → ⊥
  pub having_below_rows : given having_below ≡ there ((n 2 ∷ n 1 ∷ []) ∷ (n 1 ∷ n 1 ∷ []) ∷ [])
  pub coalesced_built : Shown coalesced_boxes coalesced
  pub asked_twice_refused : Shown asked_twice coalesced → ⊥
  pub text_null_built : Shown (texts_boxes t.null_text) texts
  pub integer_null_refused : Shown (texts_boxes t.null_int) texts → ⊥
