-- The cell that a field stands for, and how a cell is written.
use Rattle.std.specs.Prelude.{ℕ, ◌^◌, ◌==◌, ◌&&◌, ◌||◌, if◌then◌else◌, nat_lt, nat_le, Bool, ℤ, pos, neg_ℤ, List, [], ◌∷◌, drop, length, slice_index, Option, Some, None, false, encode_utf8_all}
use Rattle.std.specs.Str.{all_ascii_digits, bytes_eq}
use Rattle.std.specs.Str.Parse.{digits_value}
use Rattle.std.specs.Fmt.{signed_decimal}
use Rattle.sql_value.specs.declared.cell.Cell.{Cell}
use Rattle.sql_value.specs.declared.cell.Cell.TheVariants.{Int, Text, Null, Err}

-- one digit or more
abbrev pub is_number : List ℕ → Bool
is_number ds = nat_lt 0 (length ds) && all_ascii_digits ds

unfoldable pub positive : List ℕ → Option ℤ
positive ds = if is_number ds && nat_lt (digits_value 10 ds) (2 ^ 63) then Some (pos (digits_value 10 ds)) else None

unfoldable pub negative : List ℕ → Option ℤ
negative ds = if is_number ds && nat_le (digits_value 10 ds) (2 ^ 63) then Some (neg_ℤ (pos (digits_value 10 ds))) else None

-- an optional sign and digits, within 64 bits: `-` is 45, `+` is 43
unfoldable pub integer_of : List ℕ → Option ℤ
integer_of bs = if slice_index bs 0 == 45 then negative (drop 1 bs) else if slice_index bs 0 == 43 then positive (drop 1 bs) else positive bs

-- `\N`
abbrev pub null_text : List ℕ
null_text = 92 ∷ 78 ∷ []

-- no byte, or `\N`
abbrev pub is_null : List ℕ → Bool
is_null bs = (length bs == 0) || bytes_eq bs null_text

abbrev pub begins_with_backslash : List ℕ → Bool
begins_with_backslash [] = false
begins_with_backslash (c ∷ text) = c == 92

-- a text that begins with `\` has that sign twice, so that none is written as null is
abbrev pub escaped : List ℕ → List ℕ
escaped text = if begins_with_backslash text then 92 ∷ text else text

-- how a cell is written; an error, which is never written, as nothing
abbrev pub cell_text : Cell → List ℕ
cell_text (Int z) = signed_decimal z
cell_text (Text text) = encode_utf8_all (escaped text)
cell_text Null = null_text
cell_text (Err k) = []
