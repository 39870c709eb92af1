-- What a field holds, by the type of its column: a cell, or no cell of that type.
use Rattle.std.specs.Prelude.{ℕ, ℤ, pos, negsuc, ◌==◌, ◌&&◌, if◌then◌else◌, nat_lt, Bool, true, false, List, [], ◌∷◌, drop, length, Option, Some, None}
use Rattle.std.specs.Str.{bytes_eq, chars, is_utf8}
use Rattle.sql_ast.specs.declared.word.DataType.{DataType}
use Rattle.sql_ast.specs.declared.word.DataType.TheVariants as types
use Rattle.sql_value.specs.declared.cell.Cell.TheVariants as cell
use Rattle.csv_tables.specs.declared.content.Content.{Content}
use Rattle.csv_tables.specs.declared.content.Content.TheVariants.{Holds, BadInteger, TooLong, BadUtf8}
use Rattle.csv_tables.specs.Cells.{integer_of, is_null, null_text}

abbrev pub number_content : Option ℤ → Content
number_content (Some z) = Holds (cell.Int z)
number_content None = BadInteger

-- null, where no byte or `\N` stands, or the number that is written
abbrev pub integer_content : List ℕ → Content
integer_content bs = if is_null bs then Holds cell.Null else number_content (integer_of bs)

-- `\` is 92
abbrev pub begins_escaped : List ℕ → Bool
begins_escaped [] = false
begins_escaped (c ∷ []) = false
begins_escaped (c ∷ d ∷ text) = c == 92 && d == 92

-- a text that begins with `\\` loses one `\`
abbrev pub unescaped : List ℕ → List ℕ
unescaped text = if begins_escaped text then drop 1 text else text

abbrev pub is_longer : List ℕ → ℤ → Bool
is_longer text (pos n) = nat_lt n (length text)
is_longer text (negsuc n) = true

abbrev pub within_length : ℤ → List ℕ → Content
within_length limit text = if is_longer text limit then TooLong else Holds (cell.Text text)

-- null, where `\N` stands, or the text that is written, of at most this many characters
unfoldable pub text_content : ℤ → List ℕ → Content
text_content limit bs =
    if bytes_eq bs null_text then Holds cell.Null
    else if is_utf8 bs then within_length limit (unescaped (chars bs))
    else BadUtf8

abbrev pub content_of : DataType → List ℕ → Content
content_of types.Integer bs = integer_content bs
content_of types.Int bs = integer_content bs
content_of (types.Varchar limit) bs = text_content limit bs
