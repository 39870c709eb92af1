-- What a graph holds after an edit.
use Rattle.std.specs.Prelude.{ℕ}
use Rattle.qgm_core.specs.Boxes.{HasBox, HasQuant, QueryGraph}

-- h has each box and each quantifier that g has
abbrev pub HasAll : QueryGraph → QueryGraph → Type 0
HasAll g h = ((b : ℕ) → HasBox b g → HasBox b h) × ((q : ℕ) → HasQuant q g → HasQuant q h)
