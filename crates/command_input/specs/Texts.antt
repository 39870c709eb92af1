-- What the two texts declare and ask, or the number that refuses them. Of several causes the first in the order of these words counts.
use Rattle.std.specs.Prelude.{ℕ, zero, suc, ◌≡◌, ⊤, Bool, true, false, List, Option, Some, None, Result, Ok, Err}
use Rattle.sql_ast.specs.Syntax as s
use Rattle.sql_ast.specs.Declarations.{Declared}
use Rattle.sql_catalog.specs.Catalog.{declared}
use Rattle.sql_faults.specs.Views.{fault}
use Rattle.sql_parser.specs.ReadSchema.{schema_tree}
use Rattle.sql_parser.specs.ReadText.{query_tree}
use Rattle.sql_text.specs.Depth.{too_deep}
use Rattle.sql_text.specs.Tokens.{token_list, tokens}
use Rattle.sql_text.specs.declared.token.Spanned.{Spanned}
use Rattle.sql_text.specs.declared.token.Token.{Token}
use Rattle.command_input.specs.declared.texts.TextRefusal.{TextRefusal}
use Rattle.command_input.specs.declared.texts.TextRefusal.TheVariants.{Number, Memory}

-- the first, and then the rest with it, unless there is a number
infixl 10 ◌>>=◌
abbrev pub ◌>>=◌ : {A B : Type 0} → Result A ℕ → (A → Result B ℕ) → Result B ℕ
(Ok x) >>= f = f x
(Err number) >>= f = Err number

-- this, or the number where there is none
abbrev pub or_number : {A : Type 0} → ℕ → Option A → Result A ℕ
or_number number (Some x) = Ok x
or_number number None = Err number

-- this, or the number where the test holds
abbrev pub refused_if : {A : Type 0} → Bool → ℕ → A → Result A ℕ
refused_if true number x = Err number
refused_if false number x = Ok x

-- this where the number is 0, else the number
abbrev pub refused_by : {A : Type 0} → ℕ → A → Result A ℕ
refused_by zero x = Ok x
refused_by (suc n) x = Err (suc n)

-- the tokens of a text with their places: 5 where its bytes are too many (then there are none), else 1, 2 or 3
unfoldable pub spans_of : Option (List ℕ) → Result (List Spanned) ℕ
spans_of text = or_number 5 text >>= tokens

-- the tree that tokens spell: 5 where they are too deep, 4 where there is none
abbrev pub tree_of : {A : Type 0} → (List Token → Option A) → List Spanned → Result A ℕ
tree_of read spans = refused_if (too_deep (token_list spans)) 5 (token_list spans) >>= (λ ts. or_number 4 (read ts))

-- the tree of a schema's text
unfoldable pub schema_of : Option (List ℕ) → Result s.Schema ℕ
schema_of text = spans_of text >>= tree_of schema_tree

-- the catalog of a schema's text, or the number that refuses it
unfoldable pub catalog_of : Option (List ℕ) → Result Declared ℕ
catalog_of text = schema_of text >>= declared

-- the tree of a query's text
unfoldable pub query_of : Option (List ℕ) → Result s.QueryText ℕ
query_of text = spans_of text >>= tree_of query_tree

-- the query of a query's text, or the number that refuses it
unfoldable pub valid_query : Declared → Option (List ℕ) → Result s.QueryText ℕ
valid_query catalog text = query_of text >>= (λ query. refused_by (fault catalog query) query)

-- a call's answer is this, seen so, but where memory ran out
abbrev pub Gives : {X Y : Type 0} → (X → Y) → Result X TextRefusal → Result Y ℕ → Type 0
Gives seen (Ok x) what = what ≡ Ok (seen x)
Gives seen (Err (Number number)) what = what ≡ Err number
Gives seen (Err Memory) what = ⊤
