-- Tuples of one width.
use Rattle.std.specs.Prelude.{◌≡◌, ℕ, zero, suc, ◌+◌, ◌*◌, ◌<◌, ◌≤◌, nat_eq, if◌then◌else◌, All, List, [], ◌∷◌, drop, get_or, length, take}

-- so many tuples of a width, cut from the front of a list
abbrev pub cut : {X : Type 0} → ℕ → ℕ → List X → List (List X)
cut width zero cells = []
cut width (suc count) cells = take width cells ∷ cut width count (drop width cells)

-- each tuple has so many cells, and one at least
abbrev pub AreWide : {X : Type 0} → ℕ → List (List X) → Type 0
AreWide width tuples = (0 < width) × All (λ t. length t ≡ width) tuples
