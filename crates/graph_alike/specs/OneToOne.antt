-- Numbers of two graphs that stand for one another one to one.
use Rattle.std.specs.Prelude.{◌≡◌, ℕ, List, [], ◌∷◌}
use Rattle.qgm_core.specs.Boxes.{QueryGraph}
use Rattle.list_laws.specs.Lists.{In}
use Rattle.qgm_core.specs.declared.node.Node.{Node}
use Rattle.graph_alike.specs.Alike.{Meets, Stands}

-- a relation of numbers is one to one
pub record IsOneToOne (R : ℕ → ℕ → Type 0) : Type 0 where
  pub one : (a b c : ℕ) → R a b → R a c → b ≡ c
  pub other : (a b c : ℕ) → R a c → R b c → a ≡ b

-- boxes meet one to one, each of either graph meets one of the other, and quantifiers stand for one another one to one
pub record AreOneToOne (g h : QueryGraph) : Type 0 where
  pub boxes : IsOneToOne (Meets g h)
  pub quants : IsOneToOne (Stands g h)
  pub first : (n : Node) → In n g.boxes → (k : Node) × (In k h.boxes × Meets g h n.id k.id)
  pub second : (k : Node) → In k h.boxes → (n : Node) × (In n g.boxes × Meets g h n.id k.id)

-- numbers that stand for one another, place by place
pub data Along (R : ℕ → ℕ → Type 0) : List ℕ → List ℕ → Type 0 where
  none : Along R [] []
  more : (x y : ℕ) (xs ys : List ℕ) → R x y → Along R xs ys → Along R (x ∷ xs) (y ∷ ys)
