use Rattle.sql_ast.specs.Shown as shown
use Rattle.sql_catalog.specs.Shown as catalogs
use Rattle.command_input.proofs.Grammar.{queries-declared}
use Rattle.command_input.proofs.texts.read_catalog.Goals as goal

pub returns-in-Ok-clause-queries : goal.returns-in-Ok-clause-queries
returns-in-Ok-clause-queries c =
    queries-declared (shown.schema c.in_ok-schema.schema) (catalogs.catalog c.in-Ok.catalog) c.in_ok-schema.ensures.grammar c.in-Ok.ensures.built
