-- What is laid for a checked query is what is laid for its text.
use Rattle.std.proofs.Common.{◌≡◌, ◌++◌, ℕ, true, false, cond, List, [], ◌∷◌, map, length, Option, Some, refl, ap, ap₂, sym, ◌∙◌, subst, suc, ◌+◌, ◌≤◌, arith}
use Rattle.row_bag.specs.declared.tables.Table.{Table}
use Rattle.sql_ast.specs.Declarations.{columns_of, table_named}
use Rattle.sql_ast.specs.Names.{same_name}
use Rattle.sql_ast.specs.Syntax as s
use Rattle.sql_ast.specs.declared.schema.ColumnDecl.{ColumnDecl}
use Rattle.sql_ast.specs.declared.schema.TableDecl.{TableDecl}
use Rattle.sql_catalog.specs.Shown as declared
use Rattle.sql_catalog.specs.declared.catalog.Catalog.{Catalog}
use Rattle.sql_check.specs.Checked.{rows_of}
use Rattle.sql_check.specs.declared.checked.Checked.{Checked}
use Rattle.sql_check.specs.declared.checked.Views.{Views}
use Rattle.sql_meaning.specs.ResolvedShown as shown
use Rattle.sql_meaning.specs.ResolvedTrees.{Query}
use Rattle.sql_meaning.specs.ResolvedMeaning.{rows}
use Rattle.sql_meaning.specs.ResolvedViews.{ViewTree, known_of}
use Rattle.sql_meaning.specs.Scopes.{first_of}
use Rattle.sql_meaning.specs.declared.resolved.View.{View}
use Rattle.sql_faults.specs.Columns.{columns_or_none}
use Rattle.sql_faults.specs.Views.{typed, typed_columns, view_named}
use Rattle.sql_faults.specs.declared.column.TypedColumn.{TypedColumn}
use Rattle.sql_faults.specs.declared.view.ViewHead.{ViewHead}
use Rattle.qgm_box_size.specs.Nodes.{boxes_size}
use Rattle.qgm_build_terms.specs.Most.{most_nodes}
use Rattle.qgm_core.specs.Boxes.{QueryGraph}
use Rattle.qgm_core.specs.declared.node.Node.{Node}
use Rattle.qgm_translation.specs.Lay.{Boxes, Laid, lay_by}
use Rattle.qgm_translation.specs.Whole.{graph_of, lay_read, lay_whole, nothing_laid}
use Rattle.qgm_meaning.specs.Meaning.{root_bag}
use Rattle.qgm_translation_laws.specs.Joined.{AreTablesOf}
use Rattle.qgm_translation_laws.specs.Laid.{GraphIsRight, IsGraphOf, IsNumbered, LaidIsGraph, LaidIsNumbered, known_in, laid_for}
use Rattle.qgm_translation_laws.specs.Typing.{known_types}
use Rattle.qgm_build_terms.specs.Making.{Gives, top_at}
use Rattle.qgm_build.specs.Schema.{base_of, named_table, named_view, schema_named, schema_told, whole}
use Rattle.qgm_build_terms.specs.Setting.{named_in, told_by}
use Rattle.qgm_build_terms.specs.declared.setting.Named.{Named}
use Rattle.qgm_build_terms.specs.Setting as g
use Rattle.qgm_build.specs.Valid.{IsItsGraph, IsItsRight, IsOfText, IsQueryOf}

-- ---- how many columns names have

typed_length : (cs : List ColumnDecl) → length cs ≡ length (known_types (map typed cs))
typed_length [] = refl
typed_length (c ∷ cs) = ap (λ n. suc n) (typed_length cs)

view_counts : (hs : List ViewHead) (name : List ℕ) → g.columns_of (named_in (map named_view hs) name) ≡ length (known_types (columns_or_none (view_named hs name)))
view_counts [] name = refl
view_counts (h ∷ hs) name = elim (same_name h.name name) as (λ b. g.columns_of (cond b (Some (named_view h)) (named_in (map named_view hs) name)) ≡ length (known_types (columns_or_none (elim b as (λ _. Option (List TypedColumn)) [ true ↦ Some h.columns | false ↦ view_named hs name ])))) [ true ↦ refl | false ↦ view_counts hs name ]

name_counts : (ts : List TableDecl) (hs : List ViewHead) (name : List ℕ) → g.columns_of (named_in (map named_table ts ++ map named_view hs) name) ≡ length (known_types (columns_or_none (first_of (typed_columns (table_named ts name)) (view_named hs name))))
name_counts [] hs name = view_counts hs name
name_counts (t ∷ ts) hs name =
    elim (same_name t.name name) as (λ b. g.columns_of (cond b (Some (named_table t)) (named_in (map named_table ts ++ map named_view hs) name)) ≡ length (known_types (columns_or_none (first_of (typed_columns (cond b (Some t) (table_named ts name))) (view_named hs name))))) [
      | true ↦ typed_length (columns_of t.elements)
      | false ↦ name_counts ts hs name
    ]

-- ---- the steps of the program

pub whole_steps : (catalog : Catalog) (views : Views) (checked : Checked) (named : List Named) (tables : List TableDecl) (bodies : List View) (s t u : Boxes) (b : ℕ)
    → named ≡ schema_named catalog views → tables ≡ catalog.tables → bodies ≡ views.schema.views → s ≡ nothing_laid
    → t ≡ lay_read (told_by named) (map base_of tables) (shown.views bodies) 16 (shown.query checked.query) s → Gives (lay_by (told_by named) (shown.query checked.query) [] t) b u → Gives (whole catalog views checked) b u
whole_steps catalog views checked named tables bodies s t u b n ts vs e l h = (h.0 ∙ ap (λ (r : Laid). r.top) same, h.1 ∙ ap (λ (r : Laid). r.boxes) same)
  where
    x : Query
    x = shown.query checked.query

    same : lay_by (told_by named) x [] t ≡ whole catalog views checked
    same =
        ap (λ (z : Boxes). lay_by (told_by named) x [] z) l
        ∙ ap₂ (λ (a : List TableDecl) (c : List View). lay_by (told_by named) x [] (lay_read (told_by named) (map base_of a) (shown.views c) 16 x s)) ts vs
        ∙ ap₂ (λ (a : List Named) (c : Boxes). lay_by (told_by a) x [] (lay_read (told_by a) (map base_of catalog.tables) (shown.views views.schema.views) 16 x c)) n e

module _ (catalog : Catalog) (views : Views) (checked : Checked) (of : IsQueryOf (declared.catalog catalog) views checked) where
  counts : (name : List ℕ) → (schema_told catalog views).columns name ≡ (known_in (declared.catalog catalog)).columns name
  counts name =
      name_counts catalog.tables views.heads.list name
      ∙ ap (λ hs. length (known_types (columns_or_none (first_of (typed_columns (table_named catalog.tables name)) (view_named hs name))))) of.views.heads

  -- ---- what is laid

  whole_is : (text : s.QueryText) → IsOfText (declared.catalog catalog) checked text → whole catalog views checked ≡ laid_for (schema_told catalog views) (declared.catalog catalog) text
  whole_is text is = ap₂ (λ (vs : List ViewTree) (x : Query). lay_whole (schema_told catalog views) (map base_of catalog.tables) vs x) of.views.bodies is.query

  pub whole_numbered : LaidIsNumbered → IsNumbered (whole catalog views checked).boxes
  whole_numbered law = subst (λ (r : Laid). IsNumbered r.boxes) (sym (whole_is of.text of.is)) (law (schema_told catalog views) (declared.catalog catalog) of.text of.is.valid counts)

  pub its_graph : LaidIsGraph → IsItsGraph (declared.catalog catalog) checked (graph_of (whole catalog views checked) checked.names checked.order)
  its_graph law text is =
      subst (λ (r : Laid). IsGraphOf (declared.catalog catalog) text checked.names checked.order (graph_of r checked.names checked.order)) (sym (whole_is text is))
      (law (schema_told catalog views) (declared.catalog catalog) text checked.names checked.order is.valid counts)

  pub its_right : LaidIsGraph → GraphIsRight → IsItsRight (declared.catalog catalog) checked (graph_of (whole catalog views checked) checked.names checked.order)
  its_right law right text is = right (declared.catalog catalog) text checked.names checked.order (graph_of (whole catalog views checked) checked.names checked.order) is.valid (its_graph law text is)

  -- ---- the graph that comes of it

  abbrev pub Is : QueryGraph → Type 0
  Is x = x ≡ graph_of (whole catalog views checked) checked.names checked.order

  pub graph_is : (x : QueryGraph) (b : ℕ) (s : Boxes) → Gives (whole catalog views checked) b s → x ≡ graph_of (top_at b s) checked.names checked.order → Is x
  graph_is x b s h e = e ∙ ap₂ (λ c u. graph_of (top_at c u) checked.names checked.order) h.0 h.1

  pub numbered_is : LaidIsNumbered → (b : ℕ) (s : Boxes) → Gives (whole catalog views checked) b s → IsNumbered s
  numbered_is law b s h = subst IsNumbered (sym h.1) (whole_numbered law)

  pub built_is : LaidIsGraph → (x : QueryGraph) → Is x → IsItsGraph (declared.catalog catalog) checked x
  built_is law x e = subst (IsItsGraph (declared.catalog catalog) checked) (sym e) (its_graph law)

  pub right_is : LaidIsGraph → GraphIsRight → (x : QueryGraph) → Is x → IsItsRight (declared.catalog catalog) checked x
  right_is law right x e = subst (IsItsRight (declared.catalog catalog) checked) (sym e) (its_right law right)

  -- its root's bag is the rows of the checked query
  pub rows_is : LaidIsGraph → GraphIsRight → (x : QueryGraph) → Is x → (tables : List Table) → AreTablesOf (declared.catalog catalog) tables → root_bag tables x ≡ rows_of views checked tables
  rows_is law right x e tables fit =
      ((right_is law right x e of.text of.is).rows tables fit).places
      ∙ sym (ap₂ (λ (vs : List ViewTree) (y : Query). rows (known_of vs tables) y []) of.views.bodies of.is.query)

-- its boxes are those that were made, beside which so much is left
pub few_is : (g : QueryGraph) (made : List Node) (left : ℕ) → g.boxes ≡ made → boxes_size made + left ≤ most_nodes → boxes_size g.boxes ≤ most_nodes
few_is g made left e h = let k = ap boxes_size e in omega (arith, h, k)
