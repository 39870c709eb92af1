-- The fixed schema, and that the tables which are made fit it.
use Rattle.std.proofs.Common.{ℕ, ◌≡◌, ◌<◌, ◌^◌, ◌∙◌, refl, sym, subst, List, [], ◌∷◌, Ok, Some, Result}
use Rattle.std.specs.Str.{chars, is_utf8}
use Rattle.csv_tables.specs.Fits.{FitsSchema}
use Rattle.generated_input.specs.Made.{made}
use Rattle.row_bag.specs.declared.tables.Table.{Table}
use Rattle.sql_ast.specs.Declarations.{Declared}
use Rattle.sql_parser.specs.ReadSchema.{schema_tree}
use Rattle.sql_text.specs.Depth.{too_deep}
use Rattle.sql_text.specs.Keys.{key_words}
use Rattle.sql_text.specs.Tokens.{key_word, width}
use Rattle.command_input.specs.Generated.{schema_text}
use Rattle.command_input.proofs.FixedTables.{dept_table, emp_table}
use Rattle.command_input.proofs.MadeFits.{made-fits}
use Rattle.command_input.specs.Texts.{catalog_of, schema_of, spans_of}

abbrev pub fixed : Declared
fixed = record { tables = dept_table ∷ emp_table ∷ []; views = [] }

pub catalog-is : catalog_of (Some schema_text) ≡ Ok fixed
unfolding catalog_of schema_of spans_of schema_tree too_deep key_word width key_words is_utf8 chars lib.Utf8.encode
catalog-is = refl

same-ok : (a b : Declared) → ◌≡◌ {A = Result Declared ℕ} (Ok a) (Ok b) → a ≡ b
same-ok a b e = cc

-- what is made fits the catalog of the fixed schema
pub fits-of : (catalog : Declared) (tables : List Table) (seed rows : ℕ) → rows < 2 ^ 60 → catalog_of (Some schema_text) ≡ Ok catalog → tables ≡ made seed rows → FitsSchema catalog.tables tables
fits-of catalog tables seed rows few is made-is =
    let same = same-ok fixed catalog (sym catalog-is ∙ is) in
    subst (λ (c : Declared). FitsSchema c.tables tables) same (subst (λ (ts : List Table). FitsSchema fixed.tables ts) (sym made-is) (made-fits seed rows few))
