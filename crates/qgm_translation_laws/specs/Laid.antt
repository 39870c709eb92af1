-- The graph of a valid query over a valid schema: it is well-formed, its root has the query's columns and rows, and the boxes that are laid make one.
use Rattle.std.specs.Prelude.{◌≡◌, ℕ, List, [], map, Option, None}
use Rattle.row_bag.specs.declared.tables.Table.{Table}
use Rattle.sql_ast.specs.declared.schema.TableDecl.{TableDecl}
use Rattle.sql_ast.specs.Declarations.{Declared}
use Rattle.sql_ast.specs.Syntax as s
use Rattle.sql_catalog.specs.Descriptor.{describe}
use Rattle.sql_value.specs.declared.order_key.OrderKey.{OrderKey}
use Rattle.sql_value.specs.declared.order_key.SqlType.{SqlType}
use Rattle.sql_value.specs.declared.order_key.SqlType.TheVariants.{Integer}
use Rattle.sql_names.specs.Resolved.{query}
use Rattle.sql_names.specs.Schema.{schema_columns, view_trees}
use Rattle.graph_alike.specs.Alike.{SameButNumbers}
use Rattle.graph_alike.specs.OneToOne.{AreOneToOne}
use Rattle.graph_print.specs.GraphText.{text_of}
use Rattle.qgm_core.specs.Boxes.{QueryGraph, ids_in}
use Rattle.qgm_core.specs.Free.{Reaches}
use Rattle.list_laws.specs.Lists.{EachOnce, In}
use Rattle.qgm_core.specs.Numbered.{Under}
use Rattle.qgm_core.specs.declared.kinds.BaseTable.{BaseTable}
use Rattle.qgm_core.specs.declared.node.Node.{Node}
use Rattle.qgm_terms.specs.Terms.{Term}
use Rattle.qgm_wellformed.specs.WellFormed.{fault}
use Rattle.qgm_translation.specs.Lay.{Boxes, Laid}
use Rattle.qgm_translation.specs.Sources.{Sources}
use Rattle.qgm_translation.specs.There.{EachForOne}
use Rattle.qgm_translation.specs.Whole.{graph_of, lay_whole}
use Rattle.qgm_translation_laws.specs.Formed.{TypesFound}
use Rattle.qgm_translation_laws.specs.Joined.{AreTablesOf, HasRows, IsBuiltOver, IsLaidOut, ValidQuery, stated_types}
use Rattle.qgm_translation_laws.specs.Sources.{sources_of, stored_table}

-- a graph is the one that is built of a query over a schema: it is built of it over boxes that tables and views share, and stands in order; there is one shared box for each table and each view, and one box for each other thing of the query
pub record IsGraphOf (catalog : Declared) (text : s.QueryText) (names : List (Option (List ℕ))) (order : List OrderKey) (g : QueryGraph) : Type 0 where
  pub shared : List ℕ → ℕ
  pub typed : Term → SqlType
  pub built : IsBuiltOver catalog (sources_of catalog shared typed) text names order g
  pub stands : IsLaidOut (sources_of catalog shared typed) g
  pub there : EachForOne (sources_of catalog shared typed) (query (schema_columns catalog) [] text.query) g

-- it is well-formed, its root reaches every box, the root's columns have the types that the checks state, and its bag is the query's rows, by places and by names
pub record IsRight (catalog : Declared) (text : s.QueryText) (g : QueryGraph) : Type 0 where
  pub formed : fault g ≡ None
  pub typed : TypesFound (stated_types catalog text) g
  pub reaches : (n : Node) → In n g.boxes → Reaches g.boxes g.root n.id
  pub rows : (tables : List Table) → AreTablesOf catalog tables → HasRows catalog tables text g

abbrev pub GraphIsRight : Type 0
GraphIsRight = (catalog : Declared) (text : s.QueryText) (names : List (Option (List ℕ))) (order : List OrderKey) (g : QueryGraph) → ValidQuery catalog text → IsGraphOf catalog text names order g → IsRight catalog text g

-- in two such graphs of one query numbers stand for one another one to one
abbrev pub GraphsOneToOne : Type 0
GraphsOneToOne = (catalog : Declared) (text : s.QueryText) (names : List (Option (List ℕ))) (order : List OrderKey) (g h : QueryGraph) → IsGraphOf catalog text names order g → IsGraphOf catalog text names order h → AreOneToOne g h

-- two such graphs of one valid query differ in numbers alone
abbrev pub GraphsAlike : Type 0
GraphsAlike =
    (catalog : Declared) (text : s.QueryText) (names : List (Option (List ℕ))) (order : List OrderKey) (g h : QueryGraph)
    → ValidQuery catalog text → IsGraphOf catalog text names order g → IsGraphOf catalog text names order h → SameButNumbers g h

-- and print one text
abbrev pub GraphsPrintAlike : Type 0
GraphsPrintAlike =
    (catalog : Declared) (text : s.QueryText) (names : List (Option (List ℕ))) (order : List OrderKey) (g h : QueryGraph)
    → ValidQuery catalog text → IsGraphOf catalog text names order g → IsGraphOf catalog text names order h → text_of g ≡ text_of h

-- ---- what is laid

-- the tables of a schema, as graphs know them
abbrev pub graph_table : TableDecl → BaseTable
graph_table table = stored_table table.name (describe table.elements)

abbrev pub graph_tables : Declared → List BaseTable
graph_tables catalog = map graph_table catalog.tables

-- what a schema says of names, where no box is laid yet
abbrev pub known_in : Declared → Sources
known_in catalog = sources_of catalog (λ name. 0) (λ x. Integer)

-- all boxes of a query over a schema; known: how many columns names have
abbrev pub laid_for : Sources → Declared → s.QueryText → Laid
laid_for known catalog text = lay_whole known (graph_tables catalog) (view_trees catalog) (query (schema_columns catalog) [] text.query)

-- where names have the columns that the schema states, the graph of these boxes is the query's
abbrev pub LaidIsGraph : Type 0
LaidIsGraph =
    (known : Sources) (catalog : Declared) (text : s.QueryText) (names : List (Option (List ℕ))) (order : List OrderKey) → ValidQuery catalog text → ((name : List ℕ) → known.columns name ≡ (known_in catalog).columns name)
    → IsGraphOf catalog text names order (graph_of (laid_for known catalog text) names order)

-- no two quantifiers of boxes have one number, and each has one below the next
pub record IsNumbered (s : Boxes) : Type 0 where
  pub once : EachOnce (ids_in s.made)
  pub under : Under s.quant (ids_in s.made)

-- and these boxes are so
abbrev pub LaidIsNumbered : Type 0
LaidIsNumbered =
    (known : Sources) (catalog : Declared) (text : s.QueryText) → ValidQuery catalog text → ((name : List ℕ) → known.columns name ≡ (known_in catalog).columns name)
    → IsNumbered (laid_for known catalog text).boxes
