-- Arithmetic, and texts put together.
use Rattle.std.specs.Prelude.{Bool, if◌then◌else◌, nat_lt, ◌^◌, ◌++◌, ℤ, pos, negsuc, ◌+ℤ◌, ◌-ℤ◌, ◌*ℤ◌, neg_ℤ, int_div, Option, Some, None}
use Rattle.std.specs.Ordering.{int_eq}
use Rattle.sql_value.specs.declared.cell.Kind.{Kind}
use Rattle.sql_value.specs.declared.cell.Kind.TheVariants.{Division, Overflow}
use Rattle.sql_value.specs.declared.cell.Cell.{Cell}
use Rattle.sql_value.specs.declared.cell.Cell.TheVariants.{Int, Text, Null, Err}
use Rattle.sql_value.specs.Cells.{worst}

-- from -9223372036854775808 to 9223372036854775807; `negsuc n` is -1 - n
abbrev pub fits_i64 : ℤ → Bool
fits_i64 (pos n) = nat_lt n (2 ^ 63)
fits_i64 (negsuc n) = nat_lt n (2 ^ 63)

-- a number, where it is in range
abbrev pub if_fits : ℤ → Option ℤ
if_fits n = if fits_i64 n then Some n else None

-- a number, or the error that there is none in range
abbrev pub fitted : Option ℤ → Cell
fitted (Some n) = Int n
fitted None = Err Overflow

-- a number, or the error that it is out of range
abbrev pub in_range : ℤ → Cell
in_range n = fitted (if_fits n)

-- the quotient truncated toward zero; by zero an error
abbrev pub quotient : ℤ → ℤ → Cell
quotient m n = if int_eq n (pos 0) then Err Division else in_range (int_div m n)

-- the error, where there is one, and else this cell
abbrev pub error_or : Option Kind → Cell → Cell
error_or (Some k) cell = Err k
error_or None cell = cell

-- a function of two numbers; null of other cells
abbrev pub of_numbers : (ℤ → ℤ → Cell) → Cell → Cell → Cell
of_numbers f (Int m) (Int n) = f m n
of_numbers f _ _ = Null

-- the greatest error among the operands, and else the function of the numbers
abbrev pub arithmetic : (ℤ → ℤ → Cell) → Cell → Cell → Cell
arithmetic f a b = error_or (worst a b) (of_numbers f a b)

-- a + b
abbrev pub add : Cell → Cell → Cell
add = arithmetic (λ m n. in_range (m +ℤ n))

-- a - b
abbrev pub sub : Cell → Cell → Cell
sub = arithmetic (λ m n. in_range (m -ℤ n))

-- a * b
abbrev pub mul : Cell → Cell → Cell
mul = arithmetic (λ m n. in_range (m *ℤ n))

-- a / b
abbrev pub div : Cell → Cell → Cell
div = arithmetic quotient

-- -a: an error stays, and what is no number gives null
abbrev pub neg : Cell → Cell
neg (Int n) = in_range (neg_ℤ n)
neg (Err k) = Err k
neg _ = Null

-- the characters of the first text and then those of the second; null of other cells
abbrev pub joined : Cell → Cell → Cell
joined (Text s) (Text t) = Text (s ++ t)
joined _ _ = Null

-- a || b: the greatest error among the operands, and else the texts put together
abbrev pub concat : Cell → Cell → Cell
concat a b = error_or (worst a b) (joined a b)
