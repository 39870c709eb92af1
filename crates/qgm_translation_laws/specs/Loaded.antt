-- Tables that fit a schema: the graph of a valid query over it is evaluated over them.
use Rattle.std.specs.Prelude.{ℕ, List, Option}
use Rattle.csv_tables.specs.Fits.{FitsSchema}
use Rattle.row_bag.specs.declared.tables.Table.{Table}
use Rattle.sql_ast.specs.Declarations.{Declared}
use Rattle.sql_ast.specs.Syntax as s
use Rattle.sql_value.specs.declared.order_key.OrderKey.{OrderKey}
use Rattle.qgm_core.specs.Boxes.{QueryGraph}
use Rattle.qgm_meaning.specs.Satisfies.{Satisfies}
use Rattle.qgm_translation_laws.specs.Joined.{AreTablesOf, ValidQuery}
use Rattle.qgm_translation_laws.specs.Laid.{IsGraphOf}

-- no rows are there of a table that isn't declared, and each row of a table has a cell for each column
abbrev pub LoadedAreTables : Type 0
LoadedAreTables = (catalog : Declared) (tables : List Table) → FitsSchema catalog.tables tables → AreTablesOf catalog tables

-- of each base of the graph there is a table of its name, which keeps the types, keys and not-null columns that the base declares
abbrev pub LoadedSatisfies : Type 0
LoadedSatisfies =
    (catalog : Declared) (text : s.QueryText) (names : List (Option (List ℕ))) (order : List OrderKey) (g : QueryGraph) (tables : List Table)
    → ValidQuery catalog text → IsGraphOf catalog text names order g → FitsSchema catalog.tables tables → Satisfies tables g.boxes
