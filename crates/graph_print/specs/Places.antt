-- Places in a list of numbers.
use Rattle.std.specs.Prelude.{ℕ, suc, ◌==◌, if◌then◌else◌, List, [], ◌∷◌, Option, Some, None}
use Rattle.list_laws.specs.Lists.{holds}

-- the place of x among these, from 1; one more than there are, if it isn't among them
abbrev pub place_in : List ℕ → ℕ → ℕ
place_in [] x = 1
place_in (y ∷ ys) x = if y == x then 1 else suc (place_in ys x)

-- the place of x, if it is among these
abbrev pub found_in : List ℕ → ℕ → Option ℕ
found_in ys x = if holds x ys then Some (place_in ys x) else None

abbrev pub or_else : Option ℕ → Option ℕ → Option ℕ
or_else None other = other
or_else (Some x) other = Some x
