-- What is said of the boxes of a graph from below.
use Rattle.std.specs.Prelude.{ℕ, ◌≡◌, ◌==◌, if◌then◌else◌, List, [], ◌∷◌, ⊤}
use Rattle.qgm_core.specs.declared.node.Node.{Node}
use Rattle.qgm_core.specs.declared.owned.OwnedQuant.{OwnedQuant}

-- what a step gives of the first box of this number and of what is said of the boxes behind it
abbrev pub by_rank : {X : Type 0} → X → (Node → (ℕ → X) → X) → List Node → ℕ → X
by_rank none step [] b = none
by_rank none step (n ∷ ns) b = if n.id == b then step n (by_rank none step ns) else by_rank none step ns b

-- two families say the same under each of these quantifiers
abbrev pub SameUnder : {X : Type 0} → List OwnedQuant → (ℕ → X) → (ℕ → X) → Type 0
SameUnder [] f g = ⊤
SameUnder (r ∷ rs) f g = (f r.over ≡ g r.over) × SameUnder rs f g

-- a step looks only at what is said under its box's quantifiers
abbrev pub LooksUnder : {X : Type 0} → (Node → (ℕ → X) → X) → Type 0
LooksUnder {X} step = (n : Node) (f g : ℕ → X) → SameUnder n.quants f g → step n f ≡ step n g
