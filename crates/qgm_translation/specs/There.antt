-- What each box of a graph is there for: one thing of the query.
use Rattle.std.specs.Prelude.{◌≡◌, ◌≤◌, ◌⊎◌, ℕ, suc, List, [], Some, ⊤}
use Rattle.sql_meaning.specs.ResolvedTrees.{Query}
use Rattle.sql_meaning.specs.ResolvedTrees as q
use Rattle.qgm_core.specs.Boxes.{QueryGraph}
use Rattle.list_laws.specs.Lists.{In}
use Rattle.qgm_core.specs.declared.node.Node.{Node}
use Rattle.qgm_translation.specs.Maps.{Map}
use Rattle.qgm_translation.specs.Shown.{ShowsBox, Thing, of_groups, of_operand, of_query, of_rows, uses}
use Rattle.qgm_translation.specs.Sources.{Sources}

-- a thing is a table or a view, by its name
abbrev pub IsNamed : Thing → Type 0
IsNamed thing = (name : List ℕ) × (thing ≡ of_operand (q.named name))

-- the map that a thing is seen through: a table or a view sees nothing around it
abbrev pub map_of : Thing → Map → Map
map_of (of_query x) m = m
map_of (of_operand (q.named name)) m = []
map_of (of_operand (q.derived query)) m = m
map_of (of_operand (q.crossed x y)) m = m
map_of (of_operand (q.joined x y p)) m = m
map_of (of_operand (q.left_joined x y n p)) m = m
map_of (of_rows from by places ls) m = m
map_of (of_groups from by places ls) m = m

-- a box is there for one thing, through one map
abbrev pub IsFor : (ℕ → Thing) → (ℕ → Map) → ℕ → Thing → Map → Type 0
IsFor what seen b thing m = (what b ≡ thing) × (seen b ≡ map_of thing m)

-- each box shows what it is there for, over boxes that are there for what lies within
abbrev pub EachFor : Sources → (ℕ → Thing) → (ℕ → Map) → List Node → Type 0
EachFor sources what seen ns = (n : Node) → In n ns → ShowsBox sources (IsFor what seen) (what n.id) (seen n.id) n

-- each box is there for one thing and shows it, the root for the query; a box that is used more than once is there for a table or a view
pub record EachForOne (sources : Sources) (query : Query) (g : QueryGraph) : Type 0 where
  pub what : ℕ → Thing
  pub seen : ℕ → Map
  pub root : IsFor what seen g.root (of_query query) []
  pub each : EachFor sources what seen g.boxes
  pub alone : (b : ℕ) → (uses b g.boxes ≤ 1) ⊎ IsNamed (what b)

-- ---- what is noted as boxes are laid

-- what the boxes from one number up to another are there for
pub data Notes : ℕ → ℕ → Type 0 where
  unnoted : (a : ℕ) → Notes a a
  noted : (b : ℕ) (thing : Thing) (m : Map) → Notes b (suc b)
  both_noted : (a b c : ℕ) → Notes a b → Notes b c → Notes a c

-- boxes are there for what is noted
abbrev pub AreFor : (ℕ → Thing) → (ℕ → Map) → (a b : ℕ) → Notes a b → Type 0
AreFor what seen a b (unnoted c) = ⊤
AreFor what seen a b (noted c thing m) = IsFor what seen c thing m
AreFor what seen a b (both_noted c d e x y) = AreFor what seen c d x × AreFor what seen d e y

module _ (sources : Sources) where
  -- the body of a view, in the view's box
  pub record IsBody (x : Query) (m : Map) (b : ℕ) (other : Thing) : Type 0 where
    pub name : List ℕ
    pub is : other ≡ of_operand (q.named name)
    pub body : sources.body name ≡ Some x
    pub shared : sources.shared name ≡ b
    pub outermost : m ≡ []

  -- a box that is laid for a thing is there for this one: a query may be a derived table or the body of a view
  abbrev pub LaidAs : Thing → Map → ℕ → Thing → Type 0
  LaidAs (of_query x) m b other = (other ≡ of_query x) ⊎ ((other ≡ of_operand (q.derived x)) ⊎ IsBody x m b other)
  LaidAs (of_operand x) m b other = other ≡ of_operand x
  LaidAs (of_rows from by places ls) m b other = other ≡ of_rows from by places ls
  LaidAs (of_groups from by places ls) m b other = other ≡ of_groups from by places ls
