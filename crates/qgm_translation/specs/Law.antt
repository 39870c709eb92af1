-- Boxes that show a query have its rows, and look up only what they are to see.
use Rattle.std.specs.Prelude.{◌≡◌, ◌≤◌, ◌==◌, ◌||◌, nat_lt, ℕ, true, false, List, [], Option, Some, None, ⊤}
use Rattle.std.specs.List.{list_all}
use Rattle.row_bag.specs.declared.tables.Table.{Table}
use Rattle.sql_value.specs.declared.order_key.OrderKey.{OrderKey}
use Rattle.sql_meaning.specs.ResolvedMeaning.{rows}
use Rattle.sql_meaning.specs.ResolvedTrees.{From, Query}
use Rattle.sql_meaning.specs.ResolvedViews.{viewed}
use Rattle.qgm_core.specs.Boxes.{QueryGraph}
use Rattle.qgm_core.specs.declared.node.Node.{Node}
use Rattle.qgm_meaning.specs.Meaning.{bag_in, root_bag}
use Rattle.qgm_meaning.specs.Scope.{loose}
use Rattle.qgm_meaning.specs.Values.{Bag, Environment}
use Rattle.qgm_meaning.specs.Widths.{Wide, width_in}
use Rattle.qgm_translation.specs.Maps.{Map, fresh, seen}
use Rattle.qgm_translation.specs.Shown.{Shows, of_operand, of_query, uses}
use Rattle.qgm_translation.specs.Sources.{Sources, from_width, width}

-- names stand for these rows: each has so many columns, and is the body of its view or else a table
pub record StandFor (tables : List Table) (sources : Sources) (known : List ℕ → Bag) : Type 0 where
  pub wide : (name : List ℕ) → Wide (sources.columns name) (known name)
  pub views : (name : List ℕ) → known name ≡ viewed known tables name (sources.body name)

-- a box that shows a query through a map gives, in every environment, the rows that the query has in the scopes that the map shows there
abbrev pub Agrees : Type 0
Agrees =
    (tables : List Table) (known : List ℕ → Bag) (sources : Sources) → StandFor tables sources known
    → (boxes : List Node) (b : ℕ) (query : Query) (m : Map) → Shows sources boxes b (of_query query) m → (env : Environment) → bag_in tables boxes b env ≡ rows known query (seen env m)

-- a graph is built of a query: its root shows it, beside the root stand the names of its columns and the keys of its order, each other box is used, and only a table's or a view's more than once
pub record IsBuiltOf (sources : Sources) (query : Query) (names : List (Option (List ℕ))) (order : List OrderKey) (g : QueryGraph) : Type 0 where
  pub shows : Shows sources g.boxes g.root (of_query query) []
  pub named : g.names ≡ names
  pub ordered : g.order ≡ order
  pub used : list_all (λ n. (n.id == g.root) || nat_lt 0 (uses n.id g.boxes)) g.boxes ≡ true
  pub alone : (b : ℕ) → ((name : List ℕ) → (sources.shared name == b) ≡ false) → uses b g.boxes ≤ 1

-- its root's bag is the query's rows
abbrev pub RootAgrees : Type 0
RootAgrees =
    (tables : List Table) (known : List ℕ → Bag) (sources : Sources) → StandFor tables sources known
    → (query : Query) (names : List (Option (List ℕ))) (order : List OrderKey) (g : QueryGraph) → IsBuiltOf sources query names order g → root_bag tables g ≡ rows known query []

-- a box that shows a query through a map looks up only quantifiers that are seen in the map
abbrev pub LooksIn : Type 0
LooksIn = (sources : Sources) (boxes : List Node) (b : ℕ) (query : Query) (m : Map) → Shows sources boxes b (of_query query) m → (q : ℕ) → fresh q m ≡ true → loose boxes b q ≡ false

-- the root looks nothing up
abbrev pub RootClosed : Type 0
RootClosed = (sources : Sources) (query : Query) (names : List (Option (List ℕ))) (order : List OrderKey) (g : QueryGraph) → IsBuiltOf sources query names order g → (q : ℕ) → loose g.boxes g.root q ≡ false

-- a view has as many columns as its body
abbrev pub Counts : Sources → List ℕ → Option Query → Type 0
Counts sources name None = ⊤
Counts sources name (Some body) = width body ≡ sources.columns name

abbrev pub ViewsCounted : Sources → Type 0
ViewsCounted sources = (name : List ℕ) → Counts sources name (sources.body name)

-- a box that shows a query has as many columns as the query, and so has one that shows an operand
pub record HasColumns : Type 0 where
  pub query : (sources : Sources) → ViewsCounted sources → (boxes : List Node) (b : ℕ) (x : Query) (m : Map) → Shows sources boxes b (of_query x) m → width_in boxes b ≡ width x
  pub operand : (sources : Sources) → ViewsCounted sources → (boxes : List Node) (b : ℕ) (x : From) (m : Map) → Shows sources boxes b (of_operand x) m → width_in boxes b ≡ from_width sources x
