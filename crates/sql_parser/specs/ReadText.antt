-- Reading of the text of a query.
use Rattle.std.specs.Prelude.{ℕ, zero, suc, Bool, true, false, List, [], ◌∷◌, length, Option, Some, None}
use Rattle.sql_text.specs.declared.key.Key.TheVariants as k
use Rattle.sql_text.specs.declared.token.Token.{Token}
use Rattle.sql_text.specs.declared.token.Token.TheVariants as t
use Rattle.sql_ast.specs.declared.text.Sort.{Sort}
use Rattle.sql_ast.specs.declared.text.SortKey.{SortKey}
use Rattle.sql_ast.specs.declared.text.SortKey.TheVariants as sort_key
use Rattle.sql_ast.specs.declared.word.Direction.{Direction}
use Rattle.sql_ast.specs.declared.word.Direction.TheVariants as way
use Rattle.sql_ast.specs.Syntax as s
use Rattle.sql_parser.specs.Read.{query}
use Rattle.sql_parser.specs.Words.{Parsed, Parser, ◌>>=◌}

-- [ ASC | DESC ]
abbrev pub direction_at : List Token → Option Direction × List Token
direction_at (t.Key k.Asc ∷ ts) = (Some way.Asc, ts)
direction_at (t.Key k.Desc ∷ ts) = (Some way.Desc, ts)
direction_at ts = (None, ts)

-- name | number
abbrev pub sort_key_at : Parser SortKey
sort_key_at (t.Name n ∷ ts) = Some (sort_key.Name n, ts)
sort_key_at (t.Number n ∷ ts) = Some (sort_key.Number n, ts)
sort_key_at _ = None

-- sort = ( name | number ) [ ASC | DESC ]
abbrev pub sort : Parser Sort
sort ts = sort_key_at ts >>= (λ x. λ us. Some (record { key = x; direction = (direction_at us).0 }, (direction_at us).1))

-- { "," sort }
abbrev pub more_sorts : ℕ → Parser (List Sort)
more_sorts zero ts = Some ([], ts)
more_sorts (suc n) (t.Comma ∷ ts) = sort ts >>= (λ x. λ us. more_sorts n us >>= (λ xs. λ vs. Some (x ∷ xs, vs)))
more_sorts (suc n) ts = Some ([], ts)

-- sort { "," sort }
abbrev pub sorts : Parser (List Sort)
sorts ts = sort ts >>= (λ x. λ us. more_sorts (length us) us >>= (λ xs. λ vs. Some (x ∷ xs, vs)))

-- [ ORDER BY sort { "," sort } ]
abbrev pub order_by : Parser (List Sort)
order_by (t.Key k.Order ∷ t.Key k.By ∷ ts) = sorts ts
order_by ts = Some ([], ts)

-- [ ";" ], and the end
abbrev pub last_semicolon : List Token → Option Bool
last_semicolon [] = Some false
last_semicolon (t.Semicolon ∷ []) = Some true
last_semicolon _ = None

abbrev pub ended : s.Query → List Sort → Option Bool → Option s.QueryText
ended x order None = None
ended x order (Some semicolon) = Some (record { query = x; order = order; semicolon = semicolon })

abbrev pub ordered : s.Query → Parsed (List Sort) → Option s.QueryText
ordered x None = None
ordered x (Some r) = ended x r.0 (last_semicolon r.1)

abbrev pub query_end : Parsed s.Query → Option s.QueryText
query_end None = None
query_end (Some r) = ordered r.0 (order_by r.1)

-- text = query [ ORDER BY sort { "," sort } ] [ ";" ]
unfoldable pub query_tree : List Token → Option s.QueryText
query_tree ts = query_end (query 65 ts)
