-- The tokens of a text, by the longest match from the left. A text is characters, which its bytes write in UTF-8.
use Rattle.std.specs.Prelude.{◌≡◌, ℕ, zero, suc, ◌+◌, ◌-◌, ◌*◌, ◌<◌, ◌≤◌, ◌==◌, ◌&&◌, ◌||◌, not, nat_le, pos, Bool, false, if◌then◌else◌, List, [], ◌∷◌, map, take, drop, Contains, Option, Some, None, Result, Ok, Err, codes, encode_utf8_all, ◌⊎◌}
use Rattle.std.specs.Char.{is_ascii_alphabetic, is_ascii_digit, to_ascii_uppercase, len_utf8}
use Rattle.std.specs.List.{take_while, prefix_len, find, sum_by}
use Rattle.std.specs.Option.{option_map}
use Rattle.std.specs.Str.{bytes_eq, chars, is_utf8}
use Rattle.shared_types.specs.declared.compare.CmpOp.TheVariants as op
use Rattle.sql_text.specs.Keys.{key_words}
use Rattle.sql_text.specs.declared.key.Key.{Key}
use Rattle.sql_text.specs.declared.token.Token.{Token}
use Rattle.sql_text.specs.declared.token.Token.TheVariants as t
use Rattle.sql_text.specs.declared.token.Spanned.{Spanned}
use Rattle.sql_text.specs.declared.refusal.LexRefusal.{LexRefusal}
use Rattle.sql_text.specs.declared.refusal.LexRefusal.TheVariants as r

-- What stands first in a text: a token, or none where a blank or a comment stands; and how many characters it has. Or the number of a fault.
abbrev pub Scanned : Type 0
Scanned = Result (Option Token × ℕ) ℕ

-- space, tab, line feed, carriage return
abbrev pub is_blank : ℕ → Bool
is_blank c = c == 32 || c == 9 || c == 10 || c == 13

abbrev pub is_letter : ℕ → Bool
is_letter = is_ascii_alphabetic

abbrev pub is_digit : ℕ → Bool
is_digit = is_ascii_digit

-- a letter or `_`
abbrev pub is_letter_like : ℕ → Bool
is_letter_like c = is_letter c || c == 95

-- a letter, a digit or `_`
abbrev pub in_word : ℕ → Bool
in_word c = is_letter c || is_digit c || c == 95

-- how many characters the word has that stands first
abbrev pub word_length : List ℕ → ℕ
word_length = prefix_len in_word

-- the word that stands first, the longest there is
abbrev pub word : List ℕ → List ℕ
word = take_while in_word

-- in upper case
abbrev pub folded : List ℕ → List ℕ
folded = map to_ascii_uppercase

-- the entry of a table that has these letters
abbrev pub entry_of : List (List ℕ × Key) → List ℕ → Option (List ℕ × Key)
entry_of table letters = find (λ entry. bytes_eq entry.0 letters) table

abbrev pub key_in : Option (List ℕ × Key) → Option Key
key_in = option_map (λ entry. entry.1)

-- the key word with these letters
unfoldable pub key_word : List ℕ → Option Key
key_word letters = key_in (entry_of key_words letters)

abbrev pub key_or_name : Option Key → List ℕ → Token
key_or_name None letters = t.Name letters
key_or_name (Some key) letters = t.Key key

-- the token of a word: the key word with its letters, or else a name
abbrev pub word_token : List ℕ → Token
word_token letters = key_or_name (key_word letters) letters

-- a comment begins with `--` and goes on up to a line feed, or the end
abbrev pub starts_comment : List ℕ → Bool
starts_comment [] = false
starts_comment (c ∷ []) = false
starts_comment (c ∷ d ∷ rest) = c == 45 && d == 45

abbrev pub comment_length : List ℕ → ℕ
comment_length = prefix_len (λ c. not (c == 10))

-- the digits that stand first, and how many they are
abbrev pub digits : List ℕ → List ℕ
digits = take_while is_digit

abbrev pub digits_length : List ℕ → ℕ
digits_length = prefix_len is_digit

-- the number that digits write, after those that write `before`
abbrev pub value_after : ℕ → List ℕ → ℕ
value_after before [] = before
value_after before (digit ∷ others) = value_after (10 * before + (digit - 48)) others

abbrev pub value : List ℕ → ℕ
value = value_after 0

abbrev pub starts_like_letter : List ℕ → Bool
starts_like_letter [] = false
starts_like_letter (c ∷ rest) = is_letter_like c

-- Digits are a number. Fault 1 where a letter or `_` follows them, else fault 3 where the number is too large.
abbrev pub number : List ℕ → Scanned
number cs =
    if starts_like_letter (drop (digits_length cs) cs) then Err 1
    else (if nat_le (value (digits cs)) 9223372036854775807 then Ok (Some (t.Number (pos (value (digits cs)))), digits_length cs)
    else Err 3)

-- one more character before what is quoted, written in `size` characters
abbrev pub with_character : ℕ → ℕ → Result (List ℕ × ℕ) ℕ → Result (List ℕ × ℕ) ℕ
with_character c size (Ok quoted) = Ok (c ∷ quoted.0, size + quoted.1)
with_character c size (Err fault) = Err fault

-- After an opening quote: the characters up to the closing one, where two quotes stand for one, and how many characters they are written in with the closing quote. Fault 2 where no quote closes them.
abbrev pub quoted : ℕ → List ℕ → Result (List ℕ × ℕ) ℕ
quoted quote [] = Err 2
quoted quote (c ∷ []) = if c == quote then Ok ([], 1) else Err 2
quoted quote (c ∷ d ∷ rest) =
    if c == quote then (if d == quote then with_character quote 2 (quoted quote rest) else Ok ([], 1))
    else with_character c 1 (quoted quote (d ∷ rest))

-- a string is any characters between single quotes
abbrev pub string : Result (List ℕ × ℕ) ℕ → Scanned
string (Ok quoted) = Ok (Some (t.Str quoted.0), suc quoted.1)
string (Err fault) = Err fault

abbrev pub name_of_some : List ℕ → ℕ → Scanned
name_of_some [] size = Err 1
name_of_some (c ∷ cs) size = Ok (Some (t.Name (c ∷ cs)), size)

-- a delimited name is one or more characters between double quotes, as they stand; fault 1 where it has none
abbrev pub delimited_name : Result (List ℕ × ℕ) ℕ → Scanned
delimited_name (Ok quoted) = name_of_some quoted.0 (suc quoted.1)
delimited_name (Err fault) = Err fault

-- a sign of two characters: `<>`, `<=`, `>=`, `||`
abbrev pub long_sign : ℕ → ℕ → Option Token
long_sign c d =
    if c == 60 && d == 62 then Some (t.Compare op.Ne)
    else (if c == 60 && d == 61 then Some (t.Compare op.Le)
    else (if c == 62 && d == 61 then Some (t.Compare op.Ge)
    else (if c == 124 && d == 124 then Some t.Concat
    else None)))

-- a sign of one character: `(`, `)`, `,`, `.`, `*`, `+`, `-`, `/`, `=`, `<`, `>`, `;`
abbrev pub short_sign : ℕ → Option Token
short_sign c =
    if c == 40 then Some t.LeftParen
    else (if c == 41 then Some t.RightParen
    else (if c == 44 then Some t.Comma
    else (if c == 46 then Some t.Dot
    else (if c == 42 then Some t.Star
    else (if c == 43 then Some t.Plus
    else (if c == 45 then Some t.Minus
    else (if c == 47 then Some t.Slash
    else (if c == 61 then Some (t.Compare op.Eq)
    else (if c == 60 then Some (t.Compare op.Lt)
    else (if c == 62 then Some (t.Compare op.Gt)
    else (if c == 59 then Some t.Semicolon
    else None)))))))))))

abbrev pub found_short : Option Token → Scanned
found_short None = Err 1
found_short (Some token) = Ok (Some token, 1)

abbrev pub found_long : Option Token → ℕ → Scanned
found_long None c = found_short (short_sign c)
found_long (Some token) c = Ok (Some token, 2)

-- the longer sign of those that stand first; fault 1 where none does
abbrev pub sign : List ℕ → Scanned
sign [] = Err 1
sign (c ∷ []) = found_short (short_sign c)
sign (c ∷ d ∷ rest) = found_long (long_sign c d) c

-- What stands first. 39 is `'` and 34 is `"`.
abbrev pub first : List ℕ → Scanned
first [] = Err 1
first (c ∷ rest) =
    if is_blank c then Ok (None, 1)
    else (if starts_comment (c ∷ rest) then Ok (None, comment_length (c ∷ rest))
    else (if is_letter c then Ok (Some (word_token (folded (word (c ∷ rest)))), word_length (c ∷ rest))
    else (if is_digit c then number (c ∷ rest)
    else (if c == 39 then string (quoted 39 rest)
    else (if c == 34 then delimited_name (quoted 34 rest)
    else sign (c ∷ rest))))))

-- how many bytes a character has in UTF-8, and how many a text has
unfoldable pub width : ℕ → ℕ
width = len_utf8

abbrev pub widths : List ℕ → ℕ
widths = sum_by width

-- a token, if one was found at `place`, before others; it ends so many bytes further on
abbrev pub before : ℕ → Option Token → ℕ → List Spanned → List Spanned
before place None bytes others = others
before place (Some token) bytes others = record { token = token; start = place; end = place + bytes } ∷ others

abbrev pub before_rest : ℕ → Option Token → ℕ → Result (List Spanned) ℕ → Result (List Spanned) ℕ
before_rest place found bytes (Ok others) = Ok (before place found bytes others)
before_rest place found bytes (Err fault) = Err fault

-- what was found first in a text at `place`, and then the tokens of what follows it
abbrev pub and_then : ℕ → List ℕ → Scanned → (ℕ → Result (List Spanned) ℕ) → Result (List Spanned) ℕ
and_then place cs (Ok found) following = before_rest place found.0 (widths (take found.1 cs)) (following found.1)
and_then place cs (Err fault) following = Err fault

-- the tokens of the characters that stand at `place`, of which the first `passed` are of what was found before
abbrev pub tokens_at : ℕ → ℕ → List ℕ → Result (List Spanned) ℕ
tokens_at place passed [] = Ok []
tokens_at place (suc passed) (c ∷ rest) = tokens_at (place + width c) passed rest
tokens_at place zero (c ∷ rest) = and_then place (c ∷ rest) (first (c ∷ rest)) (λ size. tokens_at (place + width c) (size - 1) rest)

-- The tokens of a text with their places, or the number of its fault, the first from the left:
--     1  the bytes are not UTF-8; no token begins with a character; a letter or `_` follows a digit of a number; `""` stands as a name
--     2  a string or a delimited name has no end
--     3  a number is above 9223372036854775807
abbrev pub tokens : List ℕ → Result (List Spanned) ℕ
tokens bytes = if is_utf8 bytes then tokens_at 0 0 (chars bytes) else Err 1

-- the tokens without their places
abbrev pub token_list : List Spanned → List Token
token_list spans = map (λ s. s.token) spans

-- Each token has bytes, from `place` on, and ends before the next begins; the last ends by `end`.
abbrev pub Ascends : ℕ → List Spanned → ℕ → Type 0
Ascends place [] end = place ≤ end
Ascends place (s ∷ others) end = (place ≤ s.start) × (s.start < s.end) × Ascends s.end others end

-- what stands between quotes, each quote in it written as two, and then the closing quote
abbrev pub quoted_text : ℕ → List ℕ → List ℕ
quoted_text quote [] = quote ∷ []
quoted_text quote (c ∷ cs) = if c == quote then quote ∷ quote ∷ quoted_text quote cs else c ∷ quoted_text quote cs

-- The characters are a way to write the token: a word in letters of either case, quoted text, digits, or a sign.
abbrev pub IsTextOf : Token → List ℕ → Type 0
IsTextOf (t.Key key) cs = Contains key_words (folded cs, key)
IsTextOf (t.Name name) cs = (folded cs ≡ name) ⊎ (cs ≡ 34 ∷ quoted_text 34 name)
IsTextOf (t.Number number) cs = (digits cs ≡ cs) × (number ≡ pos (value cs))
IsTextOf (t.Str text) cs = cs ≡ 39 ∷ quoted_text 39 text
IsTextOf t.LeftParen cs = cs ≡ codes "("
IsTextOf t.RightParen cs = cs ≡ codes ")"
IsTextOf t.Comma cs = cs ≡ codes ","
IsTextOf t.Dot cs = cs ≡ codes "."
IsTextOf t.Star cs = cs ≡ codes "*"
IsTextOf t.Plus cs = cs ≡ codes "+"
IsTextOf t.Minus cs = cs ≡ codes "-"
IsTextOf t.Slash cs = cs ≡ codes "/"
IsTextOf (t.Compare op.Eq) cs = cs ≡ codes "="
IsTextOf (t.Compare op.Ne) cs = cs ≡ codes "<>"
IsTextOf (t.Compare op.Lt) cs = cs ≡ codes "<"
IsTextOf (t.Compare op.Le) cs = cs ≡ codes "<="
IsTextOf (t.Compare op.Gt) cs = cs ≡ codes ">"
IsTextOf (t.Compare op.Ge) cs = cs ≡ codes ">="
IsTextOf t.Concat cs = cs ≡ codes "||"
IsTextOf t.Semicolon cs = cs ≡ codes ";"

-- what stands in a text from one place up to another
abbrev pub slice : List ℕ → ℕ → ℕ → List ℕ
slice bytes start end = take (end - start) (drop start bytes)

-- the bytes at a token's place are a way to write it, in UTF-8
abbrev pub StandsIn : List ℕ → Spanned → Type 0
StandsIn bytes s = (cs : List ℕ) × IsTextOf s.token cs × (slice bytes s.start s.end ≡ encode_utf8_all cs)

-- what the code answers: the same, seen so, the number as its refusal, or that memory ran out
abbrev pub GivesSeen : {X Y : Type 0} → (X → Y) → Result X LexRefusal → Result Y ℕ → Type 0
GivesSeen seen (Ok x) told = told ≡ Ok (seen x)
GivesSeen seen (Err r.BadCharacter) told = told ≡ Err 1
GivesSeen seen (Err r.Unterminated) told = told ≡ Err 2
GivesSeen seen (Err r.NumberTooLarge) told = told ≡ Err 3
GivesSeen seen (Err r.Memory) told = Unit {0}

abbrev pub Gives : {X : Type 0} → Result X LexRefusal → Result X ℕ → Type 0
Gives = GivesSeen (λ x. x)
