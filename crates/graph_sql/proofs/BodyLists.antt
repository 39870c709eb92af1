-- The text of a box by its lists.
use Rattle.std.proofs.Common.{◌≡◌, ◌==◌, refl, ℕ, List, [], ◌∷◌, ◌++◌, None, cond, ap, ap₂, ◌∙◌, length, map, codes, decimal, arith}
use Rattle.std.proofs.lemmas.Grind.{common_steps}
use Rattle.std.proofs.lemmas.List.{length-map}
use Rattle.std.proofs.lemmas.List.Folds.{flat_map-map}
use Rattle.qgm_core.specs.Kinds.{is_enforce}
use Rattle.qgm_core.specs.declared.kinds.BoxKind.{BoxKind}
use Rattle.qgm_core.specs.declared.kinds.BoxKind.TheVariants.{Base, Select, Group, SetOp, OuterJoin}
use Rattle.qgm_core.specs.declared.kinds.SetOperator.{SetOperator}
use Rattle.qgm_core.specs.declared.node.Node.{Node}
use Rattle.qgm_terms.specs.Terms.{Cond, Term}
use Rattle.graph_sql.specs.Bodies.{Arm, arms, body_by, body_sql, each_id, first_ids, group_cell}
use Rattle.graph_sql.specs.BodyText as text
use Rattle.graph_sql.specs.BodyText.{alone_text, and_text, body_text, by_text, columns_text, group_text, having_text, inner_text, list_text, next_text, numbered, operator_word, overs_text, source_text, where_text}
use Rattle.graph_sql.specs.Lists as lists
use Rattle.graph_sql.specs.Readings.{cell_sql, cond_sql}
use Rattle.graph_sql.specs.Scoped.{cond_text, names_in, number_in}
use Rattle.graph_sql.specs.Text.{expression_text}
use Rattle.graph_sql.specs.declared.reading.Reading.TheVariants.{True}
use Rattle.graph_sql.specs.declared.scope.Scope.{Scope}
use Rattle.graph_sql.specs.declared.tables.TableNames.{TableNames}

list-map : {X Y : Type 0} (f : Y → List ℕ) (g : X → Y) (xs : List X) → list_text f (map g xs) ≡ list_text (λ x. f (g x)) xs
list-map f g [] = refl
list-map f g (x ∷ xs) = ap (λ (t : List ℕ). f (g x) ++ t) (flat_map-map (next_text f) g xs)

having-map : {X Y : Type 0} (g : X → Y) (xs : List X) → having_text (map g xs) ≡ having_text xs
having-map g [] = refl
having-map g (x ∷ xs) = refl

by-map : {X Y : Type 0} (keys : ℕ) (g : X → Y) (xs : List X) → by_text keys (map g xs) ≡ by_text keys xs
by-map keys g xs = ap (λ (t : List ℕ). cond (keys == 0) t (codes " GROUP BY " ++ numbered decimal keys)) (having-map g xs)

behind : (a b c d e f : List ℕ) → a ++ b ++ c ++ d ++ e ++ f ≡ a ++ b ++ (c ++ d ++ e ++ f)
behind a b c d e f = grind (arith, common_steps)

module _ (s : Scope) where
  tests-map : (word none : List ℕ) (ps : List Cond) → text.tests_text (number_in s) word none (map (cond_sql (names_in s) True) ps) ≡ lists.tests_text s word none ps
  tests-map word none [] = refl
  tests-map word none (p ∷ ps) = ap (λ (t : List ℕ). word ++ cond_text s None True p ++ t) (flat_map-map (and_text (number_in s)) (cond_sql (names_in s) True) ps)

  inner-map : (keys : ℕ) (xs : List Term) (qs : List ℕ) → inner_text (number_in s) keys (lists.group_cells (names_in s) xs) (map (names_in s).range qs) ≡ lists.inner_text s keys xs qs
  unfolding inner_text
  inner-map keys xs qs =
      ap₂ (λ (a b : List ℕ). codes "SELECT " ++ a ++ lists.ranges_text s (codes ", ") qs ++ b)
      (list-map (group_text (number_in s)) (group_cell (names_in s)) xs) (by-map keys (group_cell (names_in s)) xs)

  arms-map : (operator : SetOperator) (width : ℕ) (qs : List ℕ) → text.arms_text (number_in s) operator width (arms (names_in s) qs) ≡ lists.arms_text s operator width qs
  arms-map operator width [] = refl
  arms-map operator width (q ∷ qs) = ap (λ (t : List ℕ). lists.arm_text s width q ++ t)
      (flat_map-map (λ (b : Arm (List ℕ)). operator_word operator ++ text.arm_text (number_in s) width b) (λ (q : ℕ). record { quant = q; range = (names_in s).range q }) qs)

  wrapped-map : (keys : ℕ) (xs : List Term) (qs : List ℕ)
      → text.wrapped_text (lists.group_cells (names_in s) xs) (inner_text (number_in s) keys (lists.group_cells (names_in s) xs) (map (names_in s).range qs)) ≡ lists.wrapped_text s keys xs qs
  wrapped-map keys xs qs =
      ap₂ (λ (a : List ℕ) (n : ℕ). codes "SELECT " ++ overs_text 0 (lists.group_cells (names_in s) xs) ++ codes " FROM (" ++ a ++ codes ") AS g" ++ columns_text n) (inner-map keys xs qs) (length-map xs (group_cell (names_in s)))
      ∙ behind (codes "SELECT ") (overs_text 0 (lists.group_cells (names_in s) xs)) (codes " FROM (") (lists.inner_text s keys xs qs) (codes ") AS g") (columns_text (length xs))

  cells-map : (xs : List Term) → list_text (expression_text (number_in s)) (map (cell_sql (names_in s)) xs) ≡ lists.cells_text s xs
  cells-map xs = list-map (expression_text (number_in s)) (cell_sql (names_in s)) xs

  kind_written : (tables : List TableNames) (kind : BoxKind) (n : Node) → body_text (number_in s) (body_by (names_in s) kind tables n) ≡ lists.kind_text tables s kind n
  unfolding body_text
  kind_written tables (Base table) n = refl
  kind_written tables Select n = ap₂ (λ (a b : List ℕ). codes "SELECT " ++ (cond (is_enforce n.parts.distinct) (codes "DISTINCT ") []) ++ a ++ lists.ranges_text s (codes ", ") (each_id n.quants) ++ b)
      (cells-map n.parts.head) (tests-map (codes " WHERE ") [] n.parts.conds.items)
  kind_written tables (Group keys) n = ap₂ (λ (a b : List ℕ). cond (lists.any_wrapped (names_in s) n.parts.head) a b) (wrapped-map keys n.parts.head (first_ids 1 n.quants)) (inner-map keys n.parts.head (first_ids 1 n.quants))
  kind_written tables (SetOp operator types) n = arms-map operator (length types) (first_ids 2 n.quants)
  kind_written tables OuterJoin n = ap₂ (λ (a b : List ℕ). codes "SELECT " ++ a ++ lists.ranges_text s (codes " LEFT JOIN ") (first_ids 2 n.quants) ++ b)
      (cells-map n.parts.head) (tests-map (codes " ON ") (codes " ON TRUE") n.parts.conds.items)

pub node_written : (tables : List TableNames) (s : Scope) (n : Node) → body_text (number_in s) (body_sql (names_in s) tables n) ≡ lists.node_text tables s n
node_written tables s n = kind_written s tables n.parts.kind n

-- ---- for EXISTS

module _ (s : Scope) where
  source-by : (tables : List TableNames) (text : List ℕ) (kind : BoxKind) (n : Node) → source_text (number_in s) text (body_by (names_in s) kind tables n) ≡ lists.source_by kind s text n
  source-by tables text (Base table) n = refl
  source-by tables text Select n = ap (λ (t : List ℕ). lists.leading_ranges s (each_id n.quants) ++ alone_text (codes "SELECT " ++ t)) (cells-map s n.parts.head)
  source-by tables text (Group keys) n = refl
  source-by tables text (SetOp operator types) n = refl
  source-by tables text OuterJoin n = refl

  conditions-by : (tables : List TableNames) (kind : BoxKind) (n : Node) → where_text (number_in s) (body_by (names_in s) kind tables n) ≡ lists.conditions_by kind s n
  conditions-by tables (Base table) n = refl
  conditions-by tables Select n = ap (λ (t : List ℕ). codes " WHERE " ++ t) (flat_map-map (text.leading_test (number_in s)) (cond_sql (names_in s) True) n.parts.conds.items)
  conditions-by tables (Group keys) n = refl
  conditions-by tables (SetOp operator types) n = refl
  conditions-by tables OuterJoin n = refl

pub source_written : (tables : List TableNames) (s : Scope) (t : List ℕ) (n : Node) → source_text (number_in s) t (body_sql (names_in s) tables n) ≡ lists.node_source s t n
source_written tables s t n = source-by s tables t n.parts.kind n

pub conditions_written : (tables : List TableNames) (s : Scope) (n : Node) → where_text (number_in s) (body_sql (names_in s) tables n) ≡ lists.node_conditions s n
conditions_written tables s n = conditions-by s tables n.parts.kind n
