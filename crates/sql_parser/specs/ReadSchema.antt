-- Reading of the text of a schema.
use Rattle.std.specs.Prelude.{ℕ, zero, suc, Bool, true, false, List, [], ◌∷◌, length, Option, Some, None}
use Rattle.std.specs.Option.{option_map, option_and_then}
use Rattle.sql_text.specs.declared.key.Key.TheVariants as k
use Rattle.sql_text.specs.declared.token.Token.{Token}
use Rattle.sql_text.specs.declared.token.Token.TheVariants as t
use Rattle.sql_ast.specs.declared.schema.ColumnConstraint.{ColumnConstraint}
use Rattle.sql_ast.specs.declared.schema.ColumnConstraint.TheVariants as constraint
use Rattle.sql_ast.specs.declared.schema.Element.{Element}
use Rattle.sql_ast.specs.declared.schema.Element.TheVariants as el
use Rattle.sql_ast.specs.Syntax as s
use Rattle.sql_parser.specs.Read.{query}
use Rattle.sql_parser.specs.Words.{Parser, ◌>>=◌, closed, names, column_list, data_type}

-- NOT NULL stands first
abbrev pub starts_not_null : List Token → Bool
starts_not_null (t.Key k.Not ∷ t.Key k.Null ∷ ts) = true
starts_not_null _ = false

-- PRIMARY KEY stands first
abbrev pub starts_primary_key : List Token → Bool
starts_primary_key (t.Key k.Primary ∷ t.Key k.Key ∷ ts) = true
starts_primary_key _ = false

-- UNIQUE stands first
abbrev pub starts_unique : List Token → Bool
starts_unique (t.Key k.Unique ∷ ts) = true
starts_unique _ = false

-- { NOT NULL | PRIMARY KEY | UNIQUE }, as far as it goes
abbrev pub constraints : List Token → List ColumnConstraint × List Token
constraints (t.Key k.Not ∷ t.Key k.Null ∷ ts) = (constraint.NotNull ∷ (constraints ts).0, (constraints ts).1)
constraints (t.Key k.Primary ∷ t.Key k.Key ∷ ts) = (constraint.PrimaryKey ∷ (constraints ts).0, (constraints ts).1)
constraints (t.Key k.Unique ∷ ts) = (constraint.Unique ∷ (constraints ts).0, (constraints ts).1)
constraints ts = ([], ts)

-- type { NOT NULL | PRIMARY KEY | UNIQUE }, after a name
abbrev pub column_decl : List ℕ → Parser Element
column_decl n ts = data_type ts >>= (λ d. λ us. Some (el.Column (record { name = n; data_type = d; constraints = (constraints us).0 }), (constraints us).1))

-- "(" names ")"
abbrev pub key_names : (List (List ℕ) → Element) → Parser Element
key_names f (t.LeftParen ∷ ts) = names ts >>= closed f
key_names f _ = None

-- element = name type { NOT NULL | PRIMARY KEY | UNIQUE } | PRIMARY KEY "(" names ")" | UNIQUE "(" names ")"
abbrev pub element : Parser Element
element (t.Name n ∷ ts) = column_decl n ts
element (t.Key k.Primary ∷ t.Key k.Key ∷ ts) = key_names el.PrimaryKey ts
element (t.Key k.Unique ∷ ts) = key_names el.Unique ts
element _ = None

-- { "," element }
abbrev pub more_elements : ℕ → Parser (List Element)
more_elements zero ts = Some ([], ts)
more_elements (suc n) (t.Comma ∷ ts) = element ts >>= (λ x. λ us. more_elements n us >>= (λ xs. λ vs. Some (x ∷ xs, vs)))
more_elements (suc n) ts = Some ([], ts)

-- element { "," element }
abbrev pub elements : Parser (List Element)
elements ts = element ts >>= (λ x. λ us. more_elements (length us) us >>= (λ xs. λ vs. Some (x ∷ xs, vs)))

-- name "(" element { "," element } ")"
abbrev pub table_decl : Parser s.Statement
table_decl (t.Name n ∷ t.LeftParen ∷ ts) = elements ts >>= closed (λ xs. s.table (record { name = n; elements = xs }))
table_decl _ = None

-- AS query
abbrev pub view_query : Parser s.Query
view_query (t.Key k.As ∷ ts) = query 65 ts
view_query _ = None

-- name [ "(" names ")" ] AS query
abbrev pub view_decl : Parser s.Statement
view_decl (t.Name n ∷ ts) = column_list ts >>= (λ ns. λ us. view_query us >>= (λ x. λ vs. Some (s.view (record { name = n; columns = ns; query = x }), vs)))
view_decl _ = None

-- stmt = CREATE TABLE .. | CREATE VIEW ..
abbrev pub statement : Parser s.Statement
statement (t.Key k.Create ∷ t.Key k.Table ∷ ts) = table_decl ts
statement (t.Key k.Create ∷ t.Key k.View ∷ ts) = view_decl ts
statement _ = None

-- ";"
abbrev pub semicolon : s.Statement → Parser s.Statement
semicolon x (t.Semicolon ∷ ts) = Some (x, ts)
semicolon x _ = None

-- stmt ";"
abbrev pub ended : Parser s.Statement
ended ts = statement ts >>= semicolon

-- { stmt ";" }, up to the end, in so many turns at most
abbrev pub statements : ℕ → List Token → Option (List s.Statement)
statements n [] = Some []
statements zero ts = None
statements (suc n) ts = option_and_then (λ x. option_map (λ xs. x.0 ∷ xs) (statements n x.1)) (ended ts)

-- schema = { stmt ";" }
unfoldable pub schema_tree : List Token → Option s.Schema
schema_tree ts = option_map (λ xs. record { statements = xs }) (statements (length ts) ts)
