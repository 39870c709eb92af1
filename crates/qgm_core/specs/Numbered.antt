-- Numbers of boxes and quantifiers.
use Rattle.std.specs.Prelude.{ℕ, ◌<◌, ◌≤◌, List, [], ◌∷◌, length, ⊤}
use Rattle.qgm_core.specs.Boxes.{ids_in, numbers}
use Rattle.list_laws.specs.Lists.{EachOnce}
use Rattle.qgm_core.specs.declared.node.Node.{Node}

-- all of these are below a number
abbrev pub Under : ℕ → List ℕ → Type 0
Under m [] = ⊤
Under m (x ∷ xs) = (x < m) × Under m xs

-- boxes have numbers of their own below the next, and quantifiers numbers below the next, which are no fewer than quantifiers
abbrev pub Numbered : ℕ → ℕ → List Node → Type 0
Numbered box quant boxes = Under box (numbers boxes) × EachOnce (numbers boxes) × Under quant (ids_in boxes) × (length (ids_in boxes) ≤ quant)
