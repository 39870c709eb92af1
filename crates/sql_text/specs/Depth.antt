-- Which texts are too deep to be read.
use Rattle.std.specs.Prelude.{ℕ, zero, suc, Bool, true, false, not, ◌||◌, nat_lt, List, [], ◌∷◌}
use Rattle.std.specs.List.{list_any, count_by, slice_split}
use Rattle.sql_text.specs.declared.depth.Counted.{Counted}
use Rattle.sql_text.specs.declared.depth.Counted.TheVariants.{Tables, Values}
use Rattle.sql_text.specs.declared.key.Key.TheVariants as k
use Rattle.sql_text.specs.declared.token.Token.{Token}
use Rattle.sql_text.specs.declared.token.Token.TheVariants as t

-- No prefix has over `room` more `(` and CASE than `)` and END.
abbrev pub shallow : ℕ → List Token → Bool
shallow room [] = true
shallow room (t.RightParen ∷ others) = shallow (suc room) others
shallow room (t.Key k.End ∷ others) = shallow (suc room) others
shallow zero (t.LeftParen ∷ others) = false
shallow (suc room) (t.LeftParen ∷ others) = shallow room others
shallow zero (t.Key k.Case ∷ others) = false
shallow (suc room) (t.Key k.Case ∷ others) = shallow room others
shallow room (_ ∷ others) = shallow room others

abbrev pub is_semicolon : Token → Bool
is_semicolon t.Semicolon = true
is_semicolon _ = false

-- the statements of a text: what stands before, between and after its `;`
abbrev pub statements : List Token → List (List Token)
statements = slice_split is_semicolon

-- UNION, EXCEPT, INTERSECT, JOIN
abbrev pub combines_tables : Token → Bool
combines_tables (t.Key k.Union) = true
combines_tables (t.Key k.Except) = true
combines_tables (t.Key k.Intersect) = true
combines_tables (t.Key k.Join) = true
combines_tables _ = false

-- AND, OR, `,`, `+`, `-`, `*`, `/`, `||`
abbrev pub combines_values : Token → Bool
combines_values (t.Key k.And) = true
combines_values (t.Key k.Or) = true
combines_values t.Comma = true
combines_values t.Plus = true
combines_values t.Minus = true
combines_values t.Star = true
combines_values t.Slash = true
combines_values t.Concat = true
combines_values _ = false

abbrev pub is_counted : Counted → Token → Bool
is_counted Tables = combines_tables
is_counted Values = combines_values

-- some statement has over `limit` tokens that pass the test
abbrev pub crowded : (Token → Bool) → ℕ → List Token → Bool
crowded test limit tokens = list_any (λ statement. nat_lt limit (count_by test statement)) (statements tokens)

-- Some prefix has over 64 more `(` and CASE than `)` and END; or one statement has over 64 of UNION, EXCEPT, INTERSECT and JOIN, or over 2,048 of AND, OR, `,`, `+`, `-`, `*`, `/` and `||`.
unfoldable pub too_deep : List Token → Bool
too_deep tokens = not (shallow 64 tokens) || crowded (is_counted Tables) 64 tokens || crowded (is_counted Values) 2048 tokens
