use Rattle.std.proofs.lemmas.Grind.{common_steps}
use Rattle.std.proofs.Common.{Ok, arith}
use Rattle.sql_ast.specs.Shown as shown
use Rattle.sql_catalog.specs.Shown as catalogs
use Rattle.command_input.proofs.Steps.{tables-faulted, tables-read, tables-starved}
use Rattle.command_input.proofs.stages.find_tables.Goals as goal

pub returns-in-Ok-clause-comes : goal.returns-in-Ok-clause-comes
returns-in-Ok-clause-comes g c =
    tables-read _ _ c.args.dir.now (catalogs.catalog c.args.catalog) (shown.query_text c.args.valid.query) (Ok c.in-Ok.tables) c.in-Ok.ensures.comes

pub returns-in-Ok-clause-ready : goal.returns-in-Ok-clause-ready
returns-in-Ok-clause-ready g c = record { views = c.requires.ready; checked = c.requires.checked; tables = c.in-Ok.ensures.fits }

pub returns-in-Err-ReadFault-clause-comes : goal.returns-in-Err-ReadFault-clause-comes
returns-in-Err-ReadFault-clause-comes g c =
    tables-faulted _ _ c.args.dir.now (catalogs.catalog c.args.catalog) (shown.query_text c.args.valid.query) _ (rw c.in-Err-ReadFault.field-0-is at c.in-Err-ReadFault.ensures.comes)

pub returns-clause-comes : goal.returns-clause-comes
returns-clause-comes g c =
    tables-starved _ _ c.args.dir.now (catalogs.catalog c.args.catalog) (shown.query_text c.args.valid.query) (rw c.in-Err-Memory.field-0-is at c.in-Err-Memory.ensures.comes)

pub returns-in-Err-Refused-clause-ready : goal.returns-in-Err-Refused-clause-ready
returns-in-Err-Refused-clause-ready g c = grind (arith, common_steps)

pub returns-clause-ready : goal.returns-clause-ready
returns-clause-ready g c = grind (arith, common_steps)

pub returns-in-Err-ReadFault-clause-failed : goal.returns-in-Err-ReadFault-clause-failed
returns-in-Err-ReadFault-clause-failed g c = grind (arith, common_steps)

pub returns-in-Ok-clause-failed : goal.returns-in-Ok-clause-failed
returns-in-Ok-clause-failed g c = grind (arith, common_steps)

pub returns-in-Err-Refused-clause-later : goal.returns-in-Err-Refused-clause-later
returns-in-Err-Refused-clause-later g c = grind (arith, common_steps)

pub returns-clause-later : goal.returns-clause-later
returns-clause-later g c = grind (arith, common_steps)

pub returns-in-Err-ReadFault-clause-line : goal.returns-in-Err-ReadFault-clause-line
returns-in-Err-ReadFault-clause-line g c = grind (arith, common_steps)

pub returns-in-Ok-clause-line : goal.returns-in-Ok-clause-line
returns-in-Ok-clause-line g c = grind (arith, common_steps)

pub returns-clause-failed : goal.returns-clause-failed
returns-clause-failed g c = grind (arith, common_steps)

pub returns-in-Err-Refused-clause-comes : goal.returns-in-Err-Refused-clause-comes
returns-in-Err-Refused-clause-comes g c = grind (arith, common_steps)

pub returns-clause-line : goal.returns-clause-line
returns-clause-line g c = grind (arith, common_steps)

pub returns-in-Err-ReadFault-clause-ready : goal.returns-in-Err-ReadFault-clause-ready
returns-in-Err-ReadFault-clause-ready g c = grind (arith, common_steps)

pub returns-in-Err-Refused-clause-failed : goal.returns-in-Err-Refused-clause-failed
returns-in-Err-Refused-clause-failed g c = grind (arith, common_steps)

pub returns-in-Err-Refused-clause-line : goal.returns-in-Err-Refused-clause-line
returns-in-Err-Refused-clause-line g c = grind (arith, common_steps)

pub returns-in-Ok-clause-later : goal.returns-in-Ok-clause-later
returns-in-Ok-clause-later g c = grind (arith, common_steps)

pub returns-in-Err-ReadFault-clause-later : goal.returns-in-Err-ReadFault-clause-later
returns-in-Err-ReadFault-clause-later g c = grind (arith, common_steps)
