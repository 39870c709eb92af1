-- The tables and views that a catalog of the program holds.
use Rattle.std.specs.Prelude.{map}
use Rattle.sql_ast.specs.Shown as shown
use Rattle.sql_catalog.specs.declared.catalog.Catalog.{Catalog}
use Rattle.sql_ast.specs.Declarations.{Declared, declares}

abbrev pub catalog : Catalog → Declared
catalog c = declares c.tables (map shown.view c.views)
