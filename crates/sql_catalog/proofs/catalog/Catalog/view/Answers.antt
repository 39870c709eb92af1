use Rattle.std.proofs.Common.{◌≡◌, map, List}
use Rattle.std.specs.Prelude.{find, option_map}
use Rattle.sql_ast.specs.Shown as shown
use Rattle.sql_ast.specs.declared.schema.ViewDecl.{ViewDecl}
use Rattle.sql_ast.specs.Names.{same_name}
use Rattle.sql_ast.specs.Declarations.{view_named}
use Rattle.sql_catalog.proofs.LookupLaws.{view_found}
use Rattle.sql_catalog.proofs.catalog.Catalog.view.Goals as goal

pub returns : goal.returns
returns c = view_found c.view_among.result c.args.self.now.views c.args.name.now (rw (← c.as_slice.ensures) c.view_among.ensures)
