-- What `gen` asks: a fixed query over a fixed schema, and the tables that are made from a number.
use Rattle.std.specs.Prelude.{ℕ, List, codes, Option, Some, None, Result, Ok, Err}
use Rattle.generated_input.specs.Made.{made}
use Rattle.sql_ast.specs.Declarations.{Declared}
use Rattle.sql_ast.specs.Syntax as s
use Rattle.sql_faults.specs.Views.{view_refusal}
use Rattle.command_input.specs.Questions.{Request}
use Rattle.command_input.specs.Texts.{catalog_of, valid_query}
use Rattle.command_input.specs.declared.report.Report.TheVariants.{SchemaRefused, ViewRefused, QueryRefused}

-- the schema
abbrev pub schema_text : List ℕ
schema_text =
    codes "CREATE TABLE DEPT (DNO INTEGER PRIMARY KEY, BLDG VARCHAR(4), BUDGET INTEGER);\nCREATE TABLE EMP (ENO INTEGER PRIMARY KEY, DNO INTEGER, BLDG VARCHAR(4), SAL INTEGER);\n"

-- the query: the departments with a budget above 499 and above the number of employees in their building
abbrev pub query_text : List ℕ
query_text =
    codes "SELECT D.DNO FROM DEPT D WHERE D.BUDGET > 499 AND D.BUDGET > (SELECT COUNT(*) FROM EMP E WHERE E.BLDG = D.BLDG)\n"

-- a valid query over the tables that are made, or the report that refuses it
abbrev pub made_query : ℕ → ℕ → Declared → Result s.QueryText ℕ → Request
made_query seed rows catalog (Err number) = Err (QueryRefused number)
made_query seed rows catalog (Ok query) = Ok (record { catalog = catalog; query = query; tables = made seed rows })

abbrev pub made_views : ℕ → ℕ → Declared → Option (List ℕ × ℕ) → Request
made_views seed rows catalog (Some (view, number)) = Err (ViewRefused view number)
made_views seed rows catalog None = made_query seed rows catalog (valid_query catalog (Some query_text))

abbrev pub made_catalog : ℕ → ℕ → Result Declared ℕ → Request
made_catalog seed rows (Err number) = Err (SchemaRefused number)
made_catalog seed rows (Ok catalog) = made_views seed rows catalog (view_refusal catalog)

-- the question of a seed and a number of rows; none of it is refused (`generated_laws`)
unfoldable pub generated : ℕ → ℕ → Request
generated seed rows = made_catalog seed rows (catalog_of (Some schema_text))
