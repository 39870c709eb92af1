-- How many of equal tuples match.
use Rattle.std.specs.Prelude.{◌≡◌, ℕ, ◌+◌, ◌-◌, ◌&&◌, if◌then◌else◌, min, Bool, true, false, List, [], ◌∷◌}
use Rattle.sql_value.specs.declared.cell.Cell.{Cell}
use Rattle.sql_value.specs.declared.level.Level.{Level}
use Rattle.sql_value.specs.declared.level.Level.TheVariants.{Yes}
use Rattle.row_bag.specs.Bags.{at_yes, count, same_level}
use Rattle.row_bag.specs.Sets.{multiplicity, same_cells}
use Rattle.row_bag.specs.declared.row.Row.{Row}

-- how often a tuple stands among tuples
abbrev pub often : List Cell → List (List Cell) → ℕ
often c tuples = multiplicity same_cells c (at_yes tuples)

-- of m equal tuples those that n others match, one each, or those that are left
abbrev pub part : Bool → ℕ → ℕ → ℕ
part true m n = min m n
part false m n = m - n

-- m times, or once where that is asked for and m isn't 0
abbrev pub all_or_once : Bool → ℕ → ℕ
all_or_once all m = if all then m else min 1 m

-- rows at yes: the tuples of the first bag, all or once each, that those of the second match, or that are left
abbrev pub AreMatched : Bool → Bool → List (Row (List Cell)) → List (Row (List Cell)) → List (Row (List Cell)) → Type 0
AreMatched all matched a b rows = (c : List Cell) → (l : Level) → count same_cells c l rows
    ≡ (if same_level Yes l then part matched (all_or_once all (multiplicity same_cells c a)) (multiplicity same_cells c b) else 0)

-- how many of a tuple are left among these, of which each holds a tuple and how many of it are left
abbrev pub left_of : {L : Type 0} → (L → List Cell) → (L → ℕ) → List Cell → List L → ℕ
left_of tuple left c [] = 0
left_of tuple left c (x ∷ xs) = (if same_cells (tuple x) c then left x else 0) + left_of tuple left c xs

-- one more of a tuple is left
abbrev pub HasCounted : {L : Type 0} → (L → List Cell) → (L → ℕ) → List Cell → List L → List L → Type 0
HasCounted tuple left cells old new = (c : List Cell) → left_of tuple left c new ≡ left_of tuple left c old + (if same_cells cells c then 1 else 0)

-- one of a tuple is taken, where that is so, and all others are left
abbrev pub HasTaken : {L : Type 0} → (L → List Cell) → (L → ℕ) → Bool → List Cell → List L → List L → Type 0
HasTaken tuple left taken cells old new = (c : List Cell) → left_of tuple left c old ≡ (if taken && same_cells cells c then 1 else 0) + left_of tuple left c new

-- a tuple stands among these where it stood before, or is the one that is added
abbrev pub HasAdded : List Cell → List (List Cell) → List (List Cell) → Type 0
HasAdded cells old new = (c : List Cell) → min 1 (often c new) ≡ min 1 (often c old + (if same_cells cells c then 1 else 0))
