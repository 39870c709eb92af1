-- Lists in the SELECT of a box, as the code has them.
use Rattle.std.specs.Prelude.{ℕ, ◌==◌, ◌++◌, if◌then◌else◌, Bool, List, [], ◌∷◌, None, codes, decimal, length, map}
use Rattle.std.specs.List.{flat_map, list_any}
use Rattle.qgm_core.specs.Kinds.{is_enforce}
use Rattle.qgm_core.specs.declared.kinds.BaseTable.{BaseTable}
use Rattle.qgm_core.specs.declared.kinds.BoxKind.{BoxKind}
use Rattle.qgm_core.specs.declared.kinds.BoxKind.TheVariants.{Base, Select, Group, SetOp, OuterJoin}
use Rattle.qgm_core.specs.declared.node.Node.{Node}
use Rattle.qgm_core.specs.declared.kinds.SetOperator.{SetOperator}
use Rattle.sql_value.specs.declared.order_key.SqlType.{SqlType}
use Rattle.qgm_terms.specs.Shown.{aggregate, taken, term}
use Rattle.qgm_terms.specs.Terms.{Cond, Term}
use Rattle.graph_sql.specs.Bodies.{GroupCell, cell, counted_all, folded, columns_named, each_id, first_ids, group_cell, stored_columns}
use Rattle.graph_sql.specs.BodyText.{alone_text, arm_cells, by_text, columns_text, from_text, group_text, is_wrapped, leading_range, list_text, name_text, next_text, operator_word, overs_text, stored_text}
use Rattle.graph_sql.specs.Readings.{Names, cell_sql}
use Rattle.graph_sql.specs.Scoped.{cond_text, names_in, number_in, term_text}
use Rattle.graph_sql.specs.declared.groups.Grouped.{Grouped}
use Rattle.graph_sql.specs.declared.groups.Grouped.TheVariants.{Cell, CountAll, Folded}
use Rattle.graph_sql.specs.declared.numbered.Listed.{Listed}
use Rattle.graph_sql.specs.declared.numbered.Listed.TheVariants.{Name, Number, Of, Ascending}
use Rattle.graph_sql.specs.declared.reading.Reading.TheVariants.{True}
use Rattle.graph_sql.specs.declared.tables.TableNames.{TableNames}
use Rattle.graph_sql.specs.declared.scope.Scope.{Scope}

-- ---- places

abbrev pub listed_text : Listed → ℕ → List ℕ
listed_text Name k = codes "c" ++ decimal k
listed_text Number k = decimal k
listed_text (Of q) k = codes "q" ++ decimal q ++ codes ".c" ++ decimal k
listed_text Ascending k = codes "q0.c" ++ decimal k ++ codes " ASC NULLS FIRST"

abbrev pub comma : ℕ → List ℕ
comma i = if i == 0 then [] else codes ", "

-- ---- cells

abbrev pub next_cell : Scope → Term → List ℕ
next_cell s x = next_text (term_text s) x

abbrev pub more_cells : Scope → List Term → List ℕ
more_cells s xs = flat_map (next_cell s) xs

abbrev pub cells_text : Scope → List Term → List ℕ
cells_text s xs = list_text (term_text s) xs

-- ---- FROM and WHERE

abbrev pub ranges_text : Scope → List ℕ → List ℕ → List ℕ
ranges_text s word qs = from_text word (map (names_in s).range qs)

abbrev pub more_ranges : Scope → List ℕ → List ℕ → List ℕ
more_ranges s word qs = flat_map (λ r. word ++ r) (map (names_in s).range qs)

abbrev pub next_test : Scope → Cond → List ℕ
next_test s p = codes " AND " ++ cond_text s None True p

abbrev pub more_tests : Scope → List Cond → List ℕ
more_tests s ps = flat_map (next_test s) ps

abbrev pub tests_text : Scope → List ℕ → List ℕ → List Cond → List ℕ
tests_text s word none [] = none
tests_text s word none (p ∷ ps) = word ++ cond_text s None True p ++ more_tests s ps

-- ---- groups

abbrev pub shown_group : Names (List ℕ) → Grouped → GroupCell (List ℕ)
shown_group n (Cell x) = cell (cell_sql n (term x.now))
shown_group n CountAll = counted_all
shown_group n (Folded f t x) = folded (aggregate f) (taken t) (cell_sql n (term x.now))

abbrev pub group_cells : Names (List ℕ) → List Term → List (GroupCell (List ℕ))
group_cells n xs = map (group_cell n) xs

abbrev pub any_wrapped : Names (List ℕ) → List Term → Bool
any_wrapped n xs = list_any is_wrapped (group_cells n xs)

abbrev pub group_cell_text : Scope → Term → List ℕ
group_cell_text s x = group_text (number_in s) (group_cell (names_in s) x)

abbrev pub next_group_cell : Scope → Term → List ℕ
next_group_cell s x = next_text (group_cell_text s) x

abbrev pub more_group_cells : Scope → List Term → List ℕ
more_group_cells s xs = flat_map (next_group_cell s) xs

abbrev pub group_cells_text : Scope → List Term → List ℕ
group_cells_text s xs = list_text (group_cell_text s) xs

abbrev pub inner_text : Scope → ℕ → List Term → List ℕ → List ℕ
inner_text s keys xs qs = codes "SELECT " ++ group_cells_text s xs ++ ranges_text s (codes ", ") qs ++ by_text keys xs

-- ---- set operations

abbrev pub arm_text : Scope → ℕ → ℕ → List ℕ
arm_text s width q = codes "SELECT " ++ arm_cells (number_in s) width q ++ codes " FROM " ++ (names_in s).range q

abbrev pub next_arm : Scope → SetOperator → ℕ → ℕ → List ℕ
next_arm s operator width q = operator_word operator ++ arm_text s width q

abbrev pub more_arms : Scope → SetOperator → ℕ → List ℕ → List ℕ
more_arms s operator width qs = flat_map (next_arm s operator width) qs

abbrev pub arms_text : Scope → SetOperator → ℕ → List ℕ → List ℕ
arms_text s operator width [] = []
arms_text s operator width (q ∷ qs) = arm_text s width q ++ more_arms s operator width qs

-- ---- stored tables

abbrev pub more_stored : List (List ℕ) → List SqlType → List ℕ
more_stored names types = flat_map (next_text stored_text) (stored_columns names types)

abbrev pub base_text : List TableNames → BaseTable → List ℕ
base_text tables table = codes "SELECT " ++ list_text stored_text (stored_columns (columns_named tables table.name) table.types) ++ codes " FROM " ++ name_text table.name ++ codes " AS t"

-- ---- EXISTS

abbrev pub leading_ranges : Scope → List ℕ → List ℕ
leading_ranges s qs = flat_map leading_range (map (names_in s).range qs)

abbrev pub leading_test : Scope → Cond → List ℕ
leading_test s p = cond_text s None True p ++ codes " AND "

abbrev pub leading_tests : Scope → List Cond → List ℕ
leading_tests s ps = flat_map (leading_test s) ps

abbrev pub select_source : Scope → Node → List ℕ
select_source s n = leading_ranges s (each_id n.quants) ++ alone_text (codes "SELECT " ++ cells_text s n.parts.head)

-- what stands before the name of the item that has the cells of a box of this text, and what stands behind its columns
abbrev pub source_by : BoxKind → Scope → List ℕ → Node → List ℕ
source_by (Base table) s text n = alone_text text
source_by Select s text n = select_source s n
source_by (Group keys) s text n = alone_text text
source_by (SetOp operator types) s text n = alone_text text
source_by OuterJoin s text n = alone_text text

abbrev pub node_source : Scope → List ℕ → Node → List ℕ
node_source s text n = source_by n.parts.kind s text n

abbrev pub conditions_by : BoxKind → Scope → Node → List ℕ
conditions_by (Base table) s n = codes " WHERE "
conditions_by Select s n = codes " WHERE " ++ leading_tests s n.parts.conds.items
conditions_by (Group keys) s n = codes " WHERE "
conditions_by (SetOp operator types) s n = codes " WHERE "
conditions_by OuterJoin s n = codes " WHERE "

abbrev pub node_conditions : Scope → Node → List ℕ
node_conditions s n = conditions_by n.parts.kind s n

-- ---- boxes

abbrev pub select_text : Scope → Node → List ℕ
select_text s n =
    codes "SELECT " ++ (if is_enforce n.parts.distinct then codes "DISTINCT " else []) ++ cells_text s n.parts.head ++ ranges_text s (codes ", ") (each_id n.quants)
    ++ tests_text s (codes " WHERE ") [] n.parts.conds.items

abbrev pub outer_text : Scope → Node → List ℕ
outer_text s n = codes "SELECT " ++ cells_text s n.parts.head ++ ranges_text s (codes " LEFT JOIN ") (first_ids 2 n.quants) ++ tests_text s (codes " ON ") (codes " ON TRUE") n.parts.conds.items

abbrev pub item_text : Scope → ℕ → List Term → List ℕ → List ℕ
item_text s keys xs qs = codes " FROM (" ++ inner_text s keys xs qs ++ codes ") AS g" ++ columns_text (length xs)

abbrev pub wrapped_text : Scope → ℕ → List Term → List ℕ → List ℕ
wrapped_text s keys xs qs = codes "SELECT " ++ overs_text 0 (group_cells (names_in s) xs) ++ item_text s keys xs qs

abbrev pub group_by_text : Scope → ℕ → List Term → List ℕ → List ℕ
group_by_text s keys xs qs = if any_wrapped (names_in s) xs then wrapped_text s keys xs qs else inner_text s keys xs qs

abbrev pub kind_text : List TableNames → Scope → BoxKind → Node → List ℕ
kind_text tables s (Base table) n = base_text tables table
kind_text tables s Select n = select_text s n
kind_text tables s (Group keys) n = group_by_text s keys n.parts.head (first_ids 1 n.quants)
kind_text tables s (SetOp operator types) n = arms_text s operator (length types) (first_ids 2 n.quants)
kind_text tables s OuterJoin n = outer_text s n

-- the SELECT of a box
abbrev pub node_text : List TableNames → Scope → Node → List ℕ
node_text tables s n = kind_text tables s n.parts.kind n
