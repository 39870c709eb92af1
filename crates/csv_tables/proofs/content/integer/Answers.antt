use Rattle.std.proofs.Common.{◌∙◌}
use Rattle.csv_tables.proofs.Integers.{integer-parsed, integer-ascii}
use Rattle.csv_tables.proofs.content.integer.Goals as goal

pub returns-in-Ok : goal.returns-in-Ok
returns-in-Ok c = c.ok.ensures.value ∙ integer-parsed c.args.field.now c.parse.result (rw c.in-Ok.ensures.cases.0 at c.parse.ensures.value.0)

pub returns-in-Err : goal.returns-in-Err
returns-in-Err c = integer-ascii c.args.field.now c.in-Err.ensures.cases.0
