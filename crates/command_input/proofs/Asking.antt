-- What `gen` asks, by what its fixed texts come to.
use Rattle.std.proofs.Common.{ℕ, ◌≡◌, ◌∙◌, sym, ap, List, Option, Some, Result, Ok, Err}
use Rattle.generated_input.specs.Made.{made}
use Rattle.row_bag.specs.declared.tables.Table.{Table}
use Rattle.sql_ast.specs.Declarations.{Declared}
use Rattle.sql_ast.specs.Syntax as s
use Rattle.sql_faults.specs.Views.{view_refusal}
use Rattle.command_input.specs.Generated.{generated, made_catalog, made_query, made_views, query_text, schema_text}
use Rattle.command_input.specs.Questions.{Request}
use Rattle.command_input.specs.Texts.{catalog_of, valid_query}
use Rattle.command_input.specs.declared.report.Report.TheVariants.{SchemaRefused, QueryRefused}

abbrev asked : Declared → s.QueryText → List Table → Request
asked catalog query tables = Ok (record { catalog = catalog; query = query; tables = tables })

abbrev refused : ℕ → Request
refused number = Err (QueryRefused number)

abbrev schema_refused : ℕ → Request
schema_refused number = Err (SchemaRefused number)

-- the query is valid
pub query-asked : (seed rows : ℕ) (catalog : Declared) (text : Option (List ℕ)) (query : s.QueryText) (tables : List Table) → text ≡ Some query_text
    → valid_query catalog text ≡ Ok query → tables ≡ made seed rows → asked catalog query tables ≡ made_query seed rows catalog (valid_query catalog (Some query_text))
query-asked seed rows catalog text query tables t is m =
    ap (λ (ts : List Table). asked catalog query ts) m ∙ sym (ap (λ (q : Result s.QueryText ℕ). made_query seed rows catalog q) (ap (λ (x : Option (List ℕ)). valid_query catalog x) (sym t) ∙ is))

-- or refused
pub query-refused : (seed rows : ℕ) (catalog : Declared) (text : Option (List ℕ)) (number : ℕ) → text ≡ Some query_text
    → valid_query catalog text ≡ Err number → refused number ≡ made_query seed rows catalog (valid_query catalog (Some query_text))
query-refused seed rows catalog text number t is =
    sym (ap (λ (q : Result s.QueryText ℕ). made_query seed rows catalog q) (ap (λ (x : Option (List ℕ)). valid_query catalog x) (sym t) ∙ is))

-- the schema is the text that is fixed
pub of-schema : (text : Option (List ℕ)) (what : Result Declared ℕ) → text ≡ Some schema_text → catalog_of text ≡ what → catalog_of (Some schema_text) ≡ what
of-schema text what t is = ap (λ (x : Option (List ℕ)). catalog_of x) (sym t) ∙ is

-- it is valid
pub schema-asked : (seed rows : ℕ) (catalog : Declared) → catalog_of (Some schema_text) ≡ Ok catalog → generated seed rows ≡ made_views seed rows catalog (view_refusal catalog)
unfolding generated
schema-asked seed rows catalog is = ap (λ (c : Result Declared ℕ). made_catalog seed rows c) is

-- or refused
pub schema-refused : (seed rows number : ℕ) → catalog_of (Some schema_text) ≡ Err number → schema_refused number ≡ generated seed rows
unfolding generated
schema-refused seed rows number is = sym (ap (λ (c : Result Declared ℕ). made_catalog seed rows c) is)
