-- What a schema says of the names of its tables and views, as the program holds it.
use Rattle.std.specs.Prelude.{List, ◌++◌, length, map}
use Rattle.sql_ast.specs.Declarations.{columns_of}
use Rattle.sql_ast.specs.declared.schema.TableDecl.{TableDecl}
use Rattle.sql_catalog.specs.Descriptor.{describe}
use Rattle.sql_catalog.specs.declared.catalog.Catalog.{Catalog}
use Rattle.sql_check.specs.declared.checked.Checked.{Checked}
use Rattle.sql_check.specs.declared.checked.Views.{Views}
use Rattle.sql_meaning.specs.ResolvedShown as shown
use Rattle.sql_faults.specs.declared.view.ViewHead.{ViewHead}
use Rattle.qgm_translation_laws.specs.Sources.{stored_table}
use Rattle.qgm_translation_laws.specs.Typing.{known_types}
use Rattle.qgm_core.specs.declared.kinds.BaseTable.{BaseTable}
use Rattle.qgm_translation.specs.Lay.{Laid}
use Rattle.qgm_translation.specs.Sources.{Sources}
use Rattle.qgm_translation.specs.Whole.{lay_whole}
use Rattle.qgm_build_terms.specs.Setting.{told_by}
use Rattle.qgm_build_terms.specs.declared.setting.Named.{Named}

-- a declared table
abbrev pub base_of : TableDecl → BaseTable
base_of table = stored_table table.name (describe table.elements)

abbrev pub named_table : TableDecl → Named
named_table table = record { name = table.name; columns = length (columns_of table.elements) }

abbrev pub named_view : ViewHead → Named
named_view view = record { name = view.name; columns = length (known_types view.columns) }

-- the tables, and then the views
abbrev pub schema_named : Catalog → Views → List Named
schema_named catalog views = map named_table catalog.tables ++ map named_view views.heads.list

-- how many columns names have
abbrev pub schema_told : Catalog → Views → Sources
schema_told catalog views = told_by (schema_named catalog views)

-- all boxes of a checked query
abbrev pub whole : Catalog → Views → Checked → Laid
whole catalog views checked = lay_whole (schema_told catalog views) (map base_of catalog.tables) (shown.views views.schema.views) (shown.query checked.query)
