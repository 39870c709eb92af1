-- Texts that fit a pattern. The code point of `%` is 37, that of `_` is 95.
use Rattle.std.specs.Prelude.{ℕ, Bool, true, false, List, [], ◌∷◌, if◌then◌else◌, ◌==◌, ◌&&◌, ◌||◌, not}
use Rattle.sql_value.specs.declared.cell.Cell.{Cell}
use Rattle.sql_value.specs.declared.cell.Cell.TheVariants.{Text}
use Rattle.sql_value.specs.declared.truth.Truth.{Truth}
use Rattle.sql_value.specs.Cells.{worst}
use Rattle.sql_value.specs.Truths.{error_or, truth_of, unknown}

-- a test holds of the text without some of its first characters
abbrev pub some_end : (List ℕ → Bool) → List ℕ → Bool
some_end test [] = test []
some_end test (c ∷ text) = test (c ∷ text) || some_end test text

-- the text begins with a character that the sign stands for, and a test holds of the rest
abbrev pub one_then : ℕ → (List ℕ → Bool) → List ℕ → Bool
one_then sign test [] = false
one_then sign test (c ∷ text) = ((sign == 95) || (sign == c)) && test text

-- `%` stands for any sequence, `_` for any one character, and each other character for itself
abbrev pub fits : List ℕ → List ℕ → Bool
fits [] [] = true
fits [] (c ∷ text) = false
fits (sign ∷ pattern) text = if sign == 37 then some_end (fits pattern) text else one_then sign (fits pattern) text

-- a pattern begins with `%`
abbrev pub begins_any : List ℕ → Bool
begins_any [] = false
begins_any (sign ∷ pattern) = sign == 37

-- a pattern begins with a sign other than `%` that stands for this character
abbrev pub begins_one : List ℕ → ℕ → Bool
begins_one [] c = false
begins_one (sign ∷ pattern) c = not (sign == 37) && ((sign == 95) || (sign == c))

-- whether a text fits a pattern; unknown of other cells
abbrev pub like_values : Cell → Cell → Truth
like_values (Text text) (Text pattern) = truth_of (fits pattern text)
like_values _ _ = unknown

-- the greatest error among the operands, and else whether the text fits the pattern
abbrev pub like : Cell → Cell → Truth
like a pattern = error_or (worst a pattern) (like_values a pattern)
