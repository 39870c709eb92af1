-- The graph that is laid for a query over tables and views is built of the query, and stands in order.
use Rattle.std.specs.Prelude.{◌≡◌, ◌≤◌, ◌<◌, ◌||◌, ◌⊎◌, ℕ, Bool, true, false, List, [], ◌∷◌, length, Option, Some, None, ⊤}
use Rattle.sql_ast.specs.Names.{same_name}
use Rattle.sql_meaning.specs.ResolvedTrees.{Query}
use Rattle.sql_meaning.specs.ResolvedTrees as q
use Rattle.sql_meaning.specs.ResolvedViews.{ViewTree}
use Rattle.sql_value.specs.declared.order_key.OrderKey.{OrderKey}
use Rattle.qgm_core.specs.Boxes.{Ordered, ids_in}
use Rattle.list_laws.specs.Lists.{times}
use Rattle.qgm_core.specs.declared.kinds.BaseTable.{BaseTable}
use Rattle.qgm_translation.specs.Buildable.{Buildable}
use Rattle.qgm_translation.specs.Law.{IsBuiltOf}
use Rattle.qgm_translation.specs.Lay.{Laid, laying}
use Rattle.qgm_translation.specs.Lays.{Counted, EachHasTypes, owned}
use Rattle.qgm_translation.specs.Reads.{query_reads}
use Rattle.qgm_translation.specs.Shown.{Shows, of_operand, uses}
use Rattle.qgm_translation.specs.Sources.{Sources}
use Rattle.qgm_translation.specs.There.{EachForOne}
use Rattle.qgm_translation.specs.Whole.{graph_of, lay_whole}

-- there is a table or a view of a name
abbrev pub in_tables : List BaseTable → List ℕ → Bool
in_tables [] name = false
in_tables (table ∷ tables) name = same_name table.name name || in_tables tables name

abbrev pub in_views : List ViewTree → List ℕ → Bool
in_views [] name = false
in_views (view ∷ views) name = same_name view.name name || in_views views name

abbrev pub is_declared : List BaseTable → List ViewTree → List ℕ → Bool
is_declared tables views name = in_tables tables name || in_views views name

module _ (sources : Sources) (has : List ℕ → Bool) (deep : List ℕ → ℕ) where
  -- the sources say of its name what a table is
  pub record TableSaid (table : BaseTable) : Type 0 where
    pub body : sources.body table.name ≡ None
    pub stored : sources.stored table.name ≡ table
    pub columns : length table.types ≡ sources.columns table.name

  abbrev pub EachTableSaid : List BaseTable → Type 0
  EachTableSaid [] = ⊤
  EachTableSaid (table ∷ tables) = TableSaid table × EachTableSaid tables

  -- and what the body of a view is, for which boxes can be made, and which reads only names that nest less deep
  pub record ViewSaid (view : ViewTree) : Type 0 where
    pub body : sources.body view.name ≡ Some view.body
    pub fit : Buildable sources has view.body
    pub nests : 0 < deep view.name
    pub reads : (name : List ℕ) → query_reads view.body name ≡ true → deep name < deep view.name

  abbrev pub EachViewSaid : List ViewTree → Type 0
  EachViewSaid [] = ⊤
  EachViewSaid (view ∷ views) = ViewSaid view × EachViewSaid views

-- boxes can be made for a query over these tables and views, which nest at most 16 deep
pub record IsOver (sources : Sources) (tables : List BaseTable) (views : List ViewTree) (deep : List ℕ → ℕ) (query : Query) : Type 0 where
  pub tables_said : EachTableSaid sources (is_declared tables views) deep tables
  pub views_said : EachViewSaid sources (is_declared tables views) deep views
  pub fit : Buildable sources (is_declared tables views) query
  pub shallow : (name : List ℕ) → deep name ≤ 16

-- a graph is built of a query by boxes that were laid: these stand in order, no two quantifiers have one number, each number of one is below the next, the types of columns are known, no other box than those of tables and views is shared, and each box is there for one thing
pub record IsLaidFor (sources : Sources) (query : Query) (names : List (Option (List ℕ))) (order : List OrderKey) (r : Laid) : Type 0 where
  pub built : IsBuiltOf sources query names order (graph_of r names order)
  pub ordered : Ordered r.boxes.made
  pub once : (q : ℕ) → times q (ids_in r.boxes.made) ≤ 1
  pub bound : (q : ℕ) → owned q r.boxes.made ≡ true → q < r.boxes.quant
  pub counted : Counted r.boxes
  pub typed : EachHasTypes r.boxes r.boxes.made
  pub apart : (b : ℕ) → (uses b r.boxes.made ≤ 1) ⊎ ((name : List ℕ) × Shows sources r.boxes.made b (of_operand (q.named name)) [])
  pub there : EachForOne sources query (graph_of r names order)

-- known: how many columns names have
abbrev pub WholeIsLaid : Type 0
WholeIsLaid =
    (known sources : Sources) (tables : List BaseTable) (views : List ViewTree) (deep : List ℕ → ℕ) (query : Query) (names : List (Option (List ℕ))) (order : List OrderKey)
    → ((name : List ℕ) → known.columns name ≡ sources.columns name)
    → IsOver (laying sources (lay_whole known tables views query).boxes) tables views deep query
    → IsLaidFor (laying sources (lay_whole known tables views query).boxes) query names order (lay_whole known tables views query)
