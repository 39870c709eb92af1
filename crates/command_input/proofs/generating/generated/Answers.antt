use Rattle.std.proofs.lemmas.Grind.{common_steps}
use Rattle.std.proofs.Common.{Err, Ok, arith}
use Rattle.sql_catalog.specs.Shown as catalogs
use Rattle.command_input.proofs.Asking.{of-schema, schema-asked, schema-refused}
use Rattle.command_input.proofs.Sound.{valid-catalog}
use Rattle.command_input.proofs.generating.generated.Goals as goal

pub question_over-requires-clause-valid : goal.question_over-requires-clause-valid
question_over-requires-clause-valid c = valid-catalog c.in_ok-text.text (catalogs.catalog c.in-Ok.catalog) c.in-Ok.ensures.gives

pub question_over-requires-clause-fixed : goal.question_over-requires-clause-fixed
question_over-requires-clause-fixed c = of-schema c.in_ok-text.text (Ok (catalogs.catalog c.in-Ok.catalog)) c.in_ok-text.ensures c.in-Ok.ensures.gives

pub returns-in-Ok-clause-found : goal.returns-in-Ok-clause-found
returns-in-Ok-clause-found c =
    rw (schema-asked c.args.seed c.args.rows (catalogs.catalog c.in-Ok.catalog)
    (of-schema c.in_ok-text.text (Ok (catalogs.catalog c.in-Ok.catalog)) c.in_ok-text.ensures c.in-Ok.ensures.gives)) c.question_over.ensures.found

pub returns-in-Err-Number-clause-found : goal.returns-in-Err-Number-clause-found
returns-in-Err-Number-clause-found c =
    rw c.in-Err-Number.field-0-is
    (schema-refused c.args.seed c.args.rows c.in-Err-Number.number
    (of-schema c.in_ok-text.text (Err c.in-Err-Number.number) c.in_ok-text.ensures (rw c.in-Err-Number.field-0-is at c.in-Err-Number.ensures.gives)))

pub returns-in-Ok-clause-line : goal.returns-in-Ok-clause-line
returns-in-Ok-clause-line c = grind (arith, common_steps)

pub returns-clause-found : goal.returns-clause-found
returns-clause-found c = grind (arith, common_steps)

pub returns-in-Err-Number-clause-ready : goal.returns-in-Err-Number-clause-ready
returns-in-Err-Number-clause-ready c = grind (arith, common_steps)

pub question_over-requires-clause-seed : goal.question_over-requires-clause-seed
question_over-requires-clause-seed c = grind (arith, common_steps)

pub returns-clause-line : goal.returns-clause-line
returns-clause-line c = grind (arith, common_steps)

pub question_over-requires-clause-queries : goal.question_over-requires-clause-queries
question_over-requires-clause-queries c = grind (arith, common_steps)

pub returns-in-Ok-clause-ready : goal.returns-in-Ok-clause-ready
returns-in-Ok-clause-ready c = grind (arith, common_steps)

pub returns-clause-ready : goal.returns-clause-ready
returns-clause-ready c = grind (arith, common_steps)

pub question_over-requires-clause-rows : goal.question_over-requires-clause-rows
question_over-requires-clause-rows c = grind (arith, common_steps)

pub returns-in-Err-Number-clause-line : goal.returns-in-Err-Number-clause-line
returns-in-Err-Number-clause-line c = grind (arith, common_steps)
