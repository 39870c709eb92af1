-- The two texts of `gen` are valid: by computing.
use Rattle.std.proofs.Common.{ℕ, ◌≡◌, ◌∙◌, refl, sym, subst, List, [], ◌∷◌, Ok, Some, Err, None, Result, Option, Bool, true, false}
use Rattle.std.specs.Str.{chars, is_utf8}
use Rattle.command_input.proofs.Fixed.{fixed, catalog-is}
use Rattle.command_input.specs.Generated.{generated, made_catalog, made_views, made_query, schema_text, query_text}
use Rattle.command_input.specs.Questions.{Question, Request}
use Rattle.command_input.specs.Texts.{catalog_of, query_of, spans_of, valid_query, refused_by, ◌>>=◌}
use Rattle.sql_faults.specs.Views.{view_refusal, fault}
use Rattle.generated_input.specs.Made.{made}
use Rattle.sql_ast.specs.Declarations.{Declared}
use Rattle.sql_ast.specs.Syntax as s
use Rattle.sql_parser.specs.ReadText.{query_tree}
use Rattle.sql_text.specs.Depth.{too_deep}
use Rattle.sql_text.specs.Keys.{key_words}
use Rattle.sql_text.specs.Tokens.{key_word, width}
use Rattle.command_input.specs.Unrefused.{NoneRefused}

abbrev is_ok : Result s.QueryText ℕ → Bool
is_ok (Ok q) = true
is_ok (Err n) = false

ok-of : (r : Result s.QueryText ℕ) → is_ok r ≡ true → (q : s.QueryText) × (r ≡ Ok q)
ok-of (Ok q) e = (q, refl)
ok-of (Err n) e = absurd (let no : ⊥ = cc in no)

passes : is_ok (valid_query fixed (Some query_text)) ≡ true
unfolding valid_query query_of spans_of query_tree too_deep key_word width key_words is_utf8 chars lib.Utf8.encode
passes = refl

no-view : view_refusal fixed ≡ None
no-view = refl

-- what each call makes of what the one before it gave
with-catalog : (seed rows : ℕ) (r : Result Declared ℕ) (d : Declared) → r ≡ Ok d → made_catalog seed rows r ≡ made_views seed rows d (view_refusal d)
with-catalog seed rows r d e = subst (λ x. made_catalog seed rows x ≡ made_views seed rows d (view_refusal d)) (sym e) refl

with-views : (seed rows : ℕ) (d : Declared) (v : Option (List ℕ × ℕ)) → v ≡ None → made_views seed rows d v ≡ made_query seed rows d (valid_query d (Some query_text))
with-views seed rows d v e = subst (λ x. made_views seed rows d x ≡ made_query seed rows d (valid_query d (Some query_text))) (sym e) refl

with-query : (seed rows : ℕ) (d : Declared) (r : Result s.QueryText ℕ) (q : s.QueryText) → r ≡ Ok q → made_query seed rows d r ≡ Ok (record { catalog = d; query = q; tables = made seed rows })
with-query seed rows d r q e = subst (λ x. made_query seed rows d x ≡ Ok (record { catalog = d; query = q; tables = made seed rows })) (sym e) refl

pub none-refused : NoneRefused
unfolding generated
none-refused seed rows =
    let (q, e) = ok-of (valid_query fixed (Some query_text)) passes in
    (record { catalog = fixed; query = q; tables = made seed rows }, with-catalog seed rows (catalog_of (Some schema_text)) fixed catalog-is ∙ (with-views seed rows fixed (view_refusal fixed) no-view ∙ with-query seed rows fixed (valid_query fixed (Some query_text)) q e))
