-- What is built of a query whose expressions have types is well-formed.
use Rattle.std.specs.Prelude.{◌≡◌, ◌⊎◌, ◌≤◌, ℕ, true, List, [], length, Option, Some, None}
use Rattle.std.specs.List.{list_all}
use Rattle.sql_value.specs.declared.order_key.OrderKey.{OrderKey}
use Rattle.sql_value.specs.declared.order_key.SqlType.{SqlType}
use Rattle.sql_meaning.specs.ResolvedTrees.{Query}
use Rattle.sql_meaning.specs.ResolvedTrees as q
use Rattle.qgm_core.specs.Boxes.{Ordered, QueryGraph, ids_in}
use Rattle.qgm_core.specs.Free.{Reaches}
use Rattle.list_laws.specs.Lists.{In, first, times}
use Rattle.qgm_core.specs.declared.kinds.BoxKind.TheVariants.{Base}
use Rattle.qgm_core.specs.declared.node.Node.{Node}
use Rattle.qgm_terms.specs.Terms.{Term}
use Rattle.qgm_wellformed.specs.Types.{column_type, is_typed, known, term_type, types_after, types_agree, types_found, types_of}
use Rattle.qgm_wellformed.specs.Columns.{places_fit}
use Rattle.qgm_wellformed.specs.WellFormed.{fault}
use Rattle.qgm_translation.specs.Law.{IsBuiltOf}
use Rattle.qgm_translation.specs.Shown.{Shows, of_operand, uses}
use Rattle.qgm_translation.specs.Sources.{Sources}
use Rattle.qgm_translation_laws.specs.Typed.{IsOfTypes}

-- a table has the columns of its name, and so has the body of a view
abbrev pub HasColumns : (List ℕ → List SqlType) → Sources → List ℕ → Option Query → Type 0
HasColumns kinds sources name None = (sources.stored name).types ≡ kinds name
HasColumns kinds sources name (Some body) = IsOfTypes kinds [] body (kinds name)

-- the columns of tables and views have these types
pub record SourcesTyped (kinds : List ℕ → List SqlType) (sources : Sources) : Type 0 where
  pub counted : (name : List ℕ) → length (kinds name) ≡ sources.columns name
  pub named : (name : List ℕ) → HasColumns kinds sources name (sources.body name)

-- the sources tell the type of an expression that has one in the boxes, however often heads are looked up for it
abbrev pub Told : Sources → List Node → Type 0
Told sources boxes = (steps : ℕ) (x : Term) (t : SqlType) → term_type (column_type boxes (types_after steps boxes)) x ≡ Some t → sources.typed x ≡ t

-- a graph is built of a query whose columns have these types; its boxes stand in order, and no two quantifiers have one number
pub record BuiltTyped (kinds : List ℕ → List SqlType) (sources : Sources) (query : Query) (types : List SqlType) (names : List (Option (List ℕ))) (order : List OrderKey) (g : QueryGraph) : Type 0 where
  pub built : IsBuiltOf sources query names order g
  pub ordered : Ordered g.boxes
  pub once : (q : ℕ) → times q (ids_in g.boxes) ≤ 1
  pub typed : SourcesTyped kinds sources
  pub told : Told sources g.boxes
  pub gives : IsOfTypes kinds [] query types

-- I5: each head cell has a type, each condition compares equal types, and the boxes under a set operation have its types; the root's columns have the types of the query's
pub record TypesFound (types : List SqlType) (g : QueryGraph) : Type 0 where
  pub agree : list_all (types_agree g.boxes) g.boxes ≡ true
  pub root : types_found (first (is_typed g.root) (types_of g.boxes)) ≡ known types

abbrev pub TypesAgree : Type 0
TypesAgree =
    (kinds : List ℕ → List SqlType) (sources : Sources) (query : Query) (types : List SqlType) (names : List (Option (List ℕ))) (order : List OrderKey) (g : QueryGraph)
    → BuiltTyped kinds sources query types names order g → TypesFound types g

-- a box is used once at most, or it is the shared box of a table or a view
abbrev pub SharedOrOnce : Sources → List Node → ℕ → Type 0
SharedOrOnce sources boxes b = (uses b boxes ≤ 1) ⊎ ((name : List ℕ) × Shows sources boxes b (of_operand (q.named name)) [])

-- a graph so built, in which tables have the keys and not-null columns that they name, and no other box than those of tables and views is shared
pub record BuiltWhole (kinds : List ℕ → List SqlType) (sources : Sources) (query : Query) (types : List SqlType) (names : List (Option (List ℕ))) (order : List OrderKey) (g : QueryGraph) : Type 0 where
  pub typed : BuiltTyped kinds sources query types names order g
  pub placed : (name : List ℕ) → places_fit (Base (sources.stored name)) ≡ true
  pub apart : (b : ℕ) → SharedOrOnce sources g.boxes b

-- it is well-formed
abbrev pub WellFormed : Type 0
WellFormed =
    (kinds : List ℕ → List SqlType) (sources : Sources) (query : Query) (types : List SqlType) (names : List (Option (List ℕ))) (order : List OrderKey) (g : QueryGraph)
    → BuiltWhole kinds sources query types names order g → fault g ≡ None

-- its root reaches every box
abbrev pub RootReaches : Type 0
RootReaches =
    (sources : Sources) (query : Query) (names : List (Option (List ℕ))) (order : List OrderKey) (g : QueryGraph)
    → IsBuiltOf sources query names order g → Ordered g.boxes → (n : Node) → In n g.boxes → Reaches g.boxes g.root n.id
