-- Graphs, conditions and groups with their statements.
use Rattle.std.specs.Prelude.{ℕ, ◌≡◌, ◌==◌, ◌++◌, Bool, false, List, [], ◌∷◌, Some, None, codes, decimal}
use Rattle.sql_value.specs.declared.order_key.SqlType.TheVariants.{Integer, Varchar}
use Rattle.qgm_core.specs.Boxes.{QueryGraph}
use Rattle.qgm_core.specs.declared.kinds.BoxKind.TheVariants.{Select, Group, OuterJoin}
use Rattle.qgm_core.specs.declared.kinds.Distinct.TheVariants.{Enforce}
use Rattle.qgm_core.specs.declared.kinds.QuantKind.TheVariants.{A, F}
use Rattle.qgm_core.specs.declared.node.Node.{Node}
use Rattle.qgm_terms.specs.Terms.{Cond, and, compare, below, above, equal, unequal, same, every, is_null, col, choose, arm, no_arm, count_all, fold, sum, single, all_of, each_once, text}
use Rattle.graph_print.specs.Examples.{box, counted, n, over, stored}
use Rattle.graph_sql.specs.Bodies.{group_cell, grouped}
use Rattle.graph_sql.specs.BodyText.{body_text}
use Rattle.graph_sql.specs.Readings.{Names, cond_sql}
use Rattle.graph_sql.specs.Statement.{column}
use Rattle.graph_sql.specs.StatementText.{text_of}
use Rattle.graph_sql.specs.Text.{test_text}
use Rattle.graph_sql.specs.declared.reading.Reading.{Reading}
use Rattle.graph_sql.specs.declared.reading.Reading.TheVariants.{True, False, NotTrue, NotFalse}
use Rattle.graph_sql.specs.declared.tables.TableNames.{TableNames}

abbrev tables : List TableNames
tables =
    (record { name = codes "DEPT"; columns = codes "DNO" ∷ codes "BLDG" ∷ codes "BUDGET" ∷ [] })
    ∷ (record { name = codes "EMP"; columns = codes "ENO" ∷ codes "DNO" ∷ codes "BLDG" ∷ codes "Sal\"" ∷ [] })
    ∷ []

abbrev nullable : ℕ → ℕ → Bool
nullable q k = false

abbrev once : Node → Node
once b = record b { parts = record b.parts { distinct = Enforce } }

-- SELECT D.DNO FROM DEPT D WHERE D.BUDGET > 499 AND D.BUDGET > (SELECT COUNT(*) FROM EMP E WHERE E.BLDG = D.BLDG), decorrelated
abbrev joined : QueryGraph
joined = record {
  boxes =
      box 1 Select (compare above (col 1 3) (choose (arm (is_null (col 2 2)) (n 0) no_arm) (col 2 2)) ∷ compare same (col 1 2) (col 2 1) ∷ []) (col 1 1 ∷ []) (over 1 F 2 ∷ over 2 F 4 ∷ [])
      ∷ box 4 OuterJoin (compare same (col 4 1) (col 5 1) ∷ []) (col 4 1 ∷ col 5 2 ∷ []) (over 4 F 5 ∷ over 5 F 6 ∷ [])
      ∷ box 6 (Group 1) [] (col 7 1 ∷ count_all ∷ []) (over 7 F 7 ∷ [])
      ∷ box 7 Select (compare equal (col 9 3) (col 8 1) ∷ []) (col 8 1 ∷ []) (over 8 F 5 ∷ over 9 F 8 ∷ [])
      ∷ once (box 5 Select [] (col 6 2 ∷ []) (over 6 F 2 ∷ []))
      ∷ box 2 Select (compare above (col 3 3) (n 499) ∷ []) (col 3 1 ∷ col 3 2 ∷ col 3 3 ∷ []) (over 3 F 3 ∷ [])
      ∷ stored 3 (codes "DEPT") (Integer ∷ Varchar ∷ Integer ∷ [])
      ∷ stored 8 (codes "EMP") (Integer ∷ Integer ∷ Varchar ∷ Integer ∷ [])
      ∷ [];
  root = 1;
  names = Some (codes "DNO") ∷ [];
  order = [];
}

-- SELECT D.DNO FROM DEPT D WHERE D.DNO NOT IN (SELECT E.DNO FROM EMP E WHERE E.BLDG = D.BLDG)
abbrev asked : QueryGraph
asked = record {
  boxes =
      box 1 Select (every 2 (compare unequal (col 1 1) (col 2 1)) ∷ []) (col 1 1 ∷ []) (over 1 F 3 ∷ over 2 A 2 ∷ [])
      ∷ box 2 Select (compare equal (col 3 3) (col 1 2) ∷ []) (col 3 2 ∷ []) (over 3 F 8 ∷ [])
      ∷ stored 3 (codes "DEPT") (Integer ∷ Varchar ∷ Integer ∷ [])
      ∷ stored 8 (codes "EMP") (Integer ∷ Integer ∷ Varchar ∷ Integer ∷ [])
      ∷ [];
  root = 1;
  names = Some (codes "DNO") ∷ [];
  order = [];
}

abbrev dept : ℕ → List ℕ
dept q = codes "LATERAL (SELECT CAST(t.\"dno\" AS bigint), CAST(t.\"bldg\" AS text) COLLATE \"C\", CAST(t.\"budget\" AS bigint) FROM \"dept\" AS t) AS q" ++ decimal q ++ codes " (c1, c2, c3)"

abbrev emp : ℕ → List ℕ
emp q =
    codes "LATERAL (SELECT CAST(t.\"eno\" AS bigint), CAST(t.\"dno\" AS bigint), CAST(t.\"bldg\" AS text) COLLATE \"C\", CAST(t.\"Sal\"\"\" AS bigint) FROM \"emp\" AS t) AS q"
    ++ decimal q ++ codes " (c1, c2, c3, c4)"

pub record OfGraphs : Type 0 where
  -- the select under A gives its FROM item, its cell as one more, and its condition
  pub asked : text_of tables nullable asked
      ≡ codes "SELECT q0.c1 AS \"DNO\" FROM (SELECT q1.c1 FROM " ++ dept 1 ++ codes " WHERE (NOT EXISTS (SELECT 1 FROM " ++ emp 3
      ++ codes ", LATERAL (SELECT q3.c2) AS q2 (c1) WHERE (q3.c3 = q1.c2) AND ((q1.c1 <> q2.c1) IS NOT TRUE)))) AS q0 (c1) ORDER BY q0.c1 ASC NULLS FIRST"
  pub counted : text_of tables nullable counted
      ≡ codes "SELECT q0.c1 AS \"DNO\" FROM (SELECT q1.c1 FROM " ++ dept 1
      ++ codes " WHERE (q1.c3 > BIGINT '4') AND ((SELECT q2.c1 FROM LATERAL (SELECT q3.c1 FROM LATERAL (SELECT COUNT(*) FROM LATERAL (SELECT BIGINT '1' FROM "
      ++ emp 5 ++ codes " WHERE (q5.c3 = q1.c2)) AS q4 (c1)) AS q3 (c1)) AS q2 (c1)) = BIGINT '0')) AS q0 (c1) ORDER BY q0.c1 ASC NULLS FIRST"
  pub joined : text_of tables nullable joined
      ≡ codes "WITH b$2 (c1, c2, c3) AS (SELECT q3.c1, q3.c2, q3.c3 FROM " ++ dept 3
      ++ codes " WHERE (q3.c3 > BIGINT '499')), b$5 (c1) AS (SELECT DISTINCT q6.c2 FROM b$2 AS q6) SELECT q0.c1 AS \"DNO\" FROM (SELECT q1.c1 FROM b$2 AS q1, LATERAL (SELECT q4.c1, q5.c2 FROM b$5 AS q4 LEFT JOIN LATERAL (SELECT q7.c1, COUNT(*) FROM LATERAL (SELECT q8.c1 FROM b$5 AS q8, "
      ++ emp 9
      ++ codes " WHERE (q9.c3 = q8.c1)) AS q7 (c1) GROUP BY 1) AS q5 (c1, c2) ON (ARRAY[q4.c1] = ARRAY[q5.c1])) AS q2 (c1, c2) WHERE (q1.c3 > (CASE WHEN (q2.c2 IS NULL) THEN BIGINT '0' ELSE q2.c2 END)) AND (ARRAY[q1.c2] = ARRAY[q2.c1])) AS q0 (c1) ORDER BY q0.c1 ASC NULLS FIRST"

-- ---- the four readings, where the columns of quantifier 9 hold no null

abbrev same_number : ℕ → ℕ
same_number q = q

abbrev names : Names (List ℕ)
names = record { range = λ q. codes "R"; source = λ q. codes "R WHERE "; column = λ q k. column q k; not_null = λ q k. q == 9 }

abbrev read : Reading → Cond → List ℕ
read r p = test_text same_number None (cond_sql names r p)

abbrev nested : Cond
nested = every 2 (and (compare below (col 1 1) (col 2 1)) (compare equal (col 9 1) (n 3)))

pub record OfReadings : Type 0 where
  pub true : read True nested ≡ codes "(NOT EXISTS (SELECT 1 FROM R WHERE (((q1.c1 < q2.c1) IS NOT TRUE) OR (q9.c1 <> BIGINT '3'))))"
  pub false : read False nested ≡ codes "(EXISTS (SELECT 1 FROM R WHERE ((q1.c1 >= q2.c1) OR (q9.c1 <> BIGINT '3'))))"
  pub not_true : read NotTrue nested ≡ codes "(EXISTS (SELECT 1 FROM R WHERE (((q1.c1 < q2.c1) IS NOT TRUE) OR (q9.c1 <> BIGINT '3'))))"
  pub not_false : read NotFalse nested ≡ codes "(NOT EXISTS (SELECT 1 FROM R WHERE ((q1.c1 >= q2.c1) OR (q9.c1 <> BIGINT '3'))))"
  -- a chain has one pair of brackets
  pub chain : read True (and (and (compare same (col 1 1) (col 2 1)) (compare same (col 1 1) (col 9 1))) (is_null (col 1 1))) ≡ codes "((ARRAY[q1.c1] = ARRAY[q2.c1]) AND (q1.c1 = q9.c1) AND (q1.c1 IS NULL))"

pub record OfGroups : Type 0 where
  pub wrapped : body_text same_number (grouped 1 (group_cell names (col 1 1) ∷ group_cell names (fold sum each_once (col 1 2)) ∷ group_cell names (fold single all_of (text (codes "it's"))) ∷ []) (codes "R" ∷ []))
      ≡ codes "SELECT g.c1, CAST(g.c2 AS bigint), (SELECT u.c1 FROM UNNEST(g.c3) AS u (c1)) FROM (SELECT q1.c1, SUM(DISTINCT q1.c2), ARRAY_AGG((TEXT 'it''s' COLLATE \"C\")) FROM R GROUP BY 1) AS g (c1, c2, c3)"
