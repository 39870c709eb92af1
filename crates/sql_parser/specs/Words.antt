-- Reading of what has no tree in it: words and signs, names, columns and types. Each gives what it found and the tokens after it.
use Rattle.std.specs.Prelude.{◌≡◌, ℕ, zero, suc, Bool, true, false, List, [], ◌∷◌, length, if◌then◌else◌, Option, Some, None, Result, Ok, Err}
use Rattle.sql_text.specs.declared.key.Key.TheVariants as k
use Rattle.sql_text.specs.declared.token.Token.{Token}
use Rattle.sql_text.specs.declared.token.Token.TheVariants as t
use Rattle.sql_ast.specs.declared.name.Alias.{Alias}
use Rattle.sql_ast.specs.declared.name.Column.{Column}
use Rattle.sql_ast.specs.declared.name.Correlation.{Correlation}
use Rattle.sql_ast.specs.declared.word.AdditiveOp.{AdditiveOp}
use Rattle.sql_ast.specs.declared.word.AdditiveOp.TheVariants as add
use Rattle.sql_ast.specs.declared.word.DataType.{DataType}
use Rattle.sql_ast.specs.declared.word.DataType.TheVariants as type
use Rattle.sql_ast.specs.declared.word.MultiplicativeOp.{MultiplicativeOp}
use Rattle.sql_ast.specs.declared.word.MultiplicativeOp.TheVariants as mul
use Rattle.sql_ast.specs.declared.word.Quantifier.{Quantifier}
use Rattle.sql_ast.specs.declared.word.Quantifier.TheVariants as some
use Rattle.sql_ast.specs.declared.word.SetOperator.{SetOperator}
use Rattle.sql_ast.specs.declared.word.SetOperator.TheVariants as set
use Rattle.sql_ast.specs.declared.word.SetQuantifier.{SetQuantifier}
use Rattle.sql_ast.specs.declared.word.SetQuantifier.TheVariants as each
use Rattle.sql_parser.specs.declared.refusal.ParseRefusal.{ParseRefusal}
use Rattle.sql_parser.specs.declared.refusal.ParseRefusal.TheVariants.{OverLimit, Syntax, Memory}
use Rattle.sql_parser.specs.declared.word.JoinKind.{JoinKind}
use Rattle.sql_parser.specs.declared.word.JoinKind.TheVariants as join_of

-- a value, and the tokens after it
abbrev pub Parsed : Type 0 → Type 0
Parsed A = Option (A × List Token)

abbrev pub Parser : Type 0 → Type 0
Parser A = List Token → Parsed A

infixl 10 ◌>>=◌
abbrev pub ◌>>=◌ : {A B : Type 0} → Parsed A → (A → Parser B) → Parsed B
None >>= f = None
(Some r) >>= f = f r.0 r.1

-- a reading that changes what it found
abbrev pub mapped : {A B : Type 0} → (A → B) → Parsed A → Parsed B
mapped f None = None
mapped f (Some r) = Some (f r.0, r.1)

-- ")"
abbrev pub close : List Token → Option (List Token)
close (t.RightParen ∷ ts) = Some ts
close _ = None

-- what has been read, and the tokens after it
abbrev pub found : {A : Type 0} → A → Parser A
found x ts = Some (x, ts)

-- ")", after what has been read
abbrev pub closing : {A : Type 0} → A → Parser A
closing x (t.RightParen ∷ ts) = Some (x, ts)
closing x _ = None

-- ")", after a value
abbrev pub closed : {A B : Type 0} → (A → B) → A → Parser B
closed f x ts = closing (f x) ts

-- ---- words and signs

-- "+" | "-" | "||"
abbrev pub additive_at : Parser AdditiveOp
additive_at (t.Plus ∷ ts) = Some (add.Plus, ts)
additive_at (t.Minus ∷ ts) = Some (add.Minus, ts)
additive_at (t.Concat ∷ ts) = Some (add.Concat, ts)
additive_at _ = None

-- "*" | "/"
abbrev pub multiplicative_at : Parser MultiplicativeOp
multiplicative_at (t.Star ∷ ts) = Some (mul.Times, ts)
multiplicative_at (t.Slash ∷ ts) = Some (mul.Divide, ts)
multiplicative_at _ = None

-- ANY | SOME | ALL
abbrev pub quantifier_at : Parser Quantifier
quantifier_at (t.Key k.Any ∷ ts) = Some (some.Any, ts)
quantifier_at (t.Key k.Some ∷ ts) = Some (some.Some, ts)
quantifier_at (t.Key k.All ∷ ts) = Some (some.All, ts)
quantifier_at _ = None

-- UNION | EXCEPT
abbrev pub set_operator_at : Parser SetOperator
set_operator_at (t.Key k.Union ∷ ts) = Some (set.Union, ts)
set_operator_at (t.Key k.Except ∷ ts) = Some (set.Except, ts)
set_operator_at _ = None

-- [ ALL | DISTINCT ]
abbrev pub set_quantifier_at : List Token → Option SetQuantifier × List Token
set_quantifier_at (t.Key k.All ∷ ts) = (Some each.All, ts)
set_quantifier_at (t.Key k.Distinct ∷ ts) = (Some each.Distinct, ts)
set_quantifier_at ts = (None, ts)

-- [ ALL ]
abbrev pub all_at : List Token → Bool × List Token
all_at (t.Key k.All ∷ ts) = (true, ts)
all_at ts = (false, ts)

-- [ NOT ]
abbrev pub not_at : List Token → Bool × List Token
not_at (t.Key k.Not ∷ ts) = (true, ts)
not_at ts = (false, ts)

-- JOIN, after LEFT [ OUTER ]
abbrev pub after_left : Bool → Parser JoinKind
after_left outer (t.Key k.Join ∷ ts) = Some (join_of.Left outer, ts)
after_left outer _ = None

-- [ INNER ] JOIN | LEFT [ OUTER ] JOIN | CROSS JOIN
abbrev pub join_at : Parser JoinKind
join_at (t.Key k.Join ∷ ts) = Some (join_of.Inner false, ts)
join_at (t.Key k.Inner ∷ t.Key k.Join ∷ ts) = Some (join_of.Inner true, ts)
join_at (t.Key k.Left ∷ t.Key k.Outer ∷ ts) = after_left true ts
join_at (t.Key k.Left ∷ ts) = after_left false ts
join_at (t.Key k.Cross ∷ t.Key k.Join ∷ ts) = Some (join_of.Cross, ts)
join_at _ = None

-- ---- names and columns

-- { "," name }, as far as it goes
abbrev pub more_names : List Token → List (List ℕ) × List Token
more_names (t.Comma ∷ t.Name n ∷ ts) = (n ∷ (more_names ts).0, (more_names ts).1)
more_names ts = ([], ts)

-- names = name { "," name }
abbrev pub names : Parser (List (List ℕ))
names (t.Name n ∷ ts) = Some (n ∷ (more_names ts).0, (more_names ts).1)
names _ = None

-- names ")"
abbrev pub closed_names : Parser (List (List ℕ))
closed_names ts = names ts >>= closed (λ ns. ns)

-- [ "(" names ")" ]
abbrev pub column_list : Parser (List (List ℕ))
column_list (t.LeftParen ∷ ts) = closed_names ts
column_list ts = Some ([], ts)

-- [ "." name ], after a name
abbrev pub column_after : List ℕ → Parser Column
column_after n (t.Dot ∷ t.Name m ∷ ts) = Some (record { range = Some n; name = m }, ts)
column_after n (t.Dot ∷ ts) = None
column_after n ts = Some (record { range = None; name = n }, ts)

-- col = name [ "." name ]
abbrev pub column : Parser Column
column (t.Name n ∷ ts) = column_after n ts
column _ = None

-- { "," col }, in so many turns at most
abbrev pub more_columns : ℕ → Parser (List Column)
more_columns zero ts = Some ([], ts)
more_columns (suc n) (t.Comma ∷ ts) = column ts >>= (λ c. λ us. more_columns n us >>= (λ cs. λ vs. Some (c ∷ cs, vs)))
more_columns (suc n) ts = Some ([], ts)

-- col { "," col }
abbrev pub columns : Parser (List Column)
columns ts = column ts >>= (λ c. λ us. more_columns (length us) us >>= (λ cs. λ vs. Some (c ∷ cs, vs)))

-- [ GROUP BY col { "," col } ]
abbrev pub group_by : Parser (List Column)
group_by (t.Key k.Group ∷ t.Key k.By ∷ ts) = columns ts
group_by ts = Some ([], ts)

-- [ [ AS ] name ]
abbrev pub alias_at : List Token → Option Alias × List Token
alias_at (t.Key k.As ∷ t.Name n ∷ ts) = (Some (record { noise = true; name = n }), ts)
alias_at (t.Name n ∷ ts) = (Some (record { noise = false; name = n }), ts)
alias_at ts = (None, ts)

-- name [ "(" names ")" ]
abbrev pub correlation_name : Bool → Parser Correlation
correlation_name noise (t.Name n ∷ ts) = column_list ts >>= (λ ns. λ us. Some (record { noise = noise; name = n; columns = ns }, us))
correlation_name noise _ = None

-- [ AS ] name [ "(" names ")" ]
abbrev pub correlation : Parser Correlation
correlation (t.Key k.As ∷ ts) = correlation_name true ts
correlation ts = correlation_name false ts

-- a word or a name of a correlation stands first
abbrev pub starts_correlation : List Token → Bool
starts_correlation (t.Key k.As ∷ ts) = true
starts_correlation (t.Name n ∷ ts) = true
starts_correlation _ = false

-- [ [ AS ] name [ "(" names ")" ] ]
abbrev pub optional_correlation : Parser (Option Correlation)
optional_correlation ts = if starts_correlation ts then mapped Some (correlation ts) else Some (None, ts)

-- name "." "*"
abbrev pub all_of_at : Parser (List ℕ)
all_of_at (t.Name n ∷ t.Dot ∷ t.Star ∷ ts) = Some (n, ts)
all_of_at _ = None

-- ---- types

-- "(" number ")"
abbrev pub varchar_length : Parser DataType
varchar_length (t.LeftParen ∷ t.Number n ∷ ts) = closed type.Varchar n ts
varchar_length _ = None

-- type = INTEGER | INT | VARCHAR "(" number ")"
abbrev pub data_type : Parser DataType
data_type (t.Key k.Integer ∷ ts) = Some (type.Integer, ts)
data_type (t.Key k.Int ∷ ts) = Some (type.Int, ts)
data_type (t.Key k.Varchar ∷ ts) = varchar_length ts
data_type _ = None

-- ---- what a call of the code says

-- its answer is what reading gives, seen so, but where memory ran out; it never says that a text is too deep
abbrev pub Gives : {X Y : Type 0} → (X → Y) → Result X ParseRefusal → Option Y → Type 0
Gives seen (Ok x) read = read ≡ Some (seen x)
Gives seen (Err Syntax) read = read ≡ None
Gives seen (Err Memory) read = Unit {0}
Gives seen (Err OverLimit) read = ⊥
