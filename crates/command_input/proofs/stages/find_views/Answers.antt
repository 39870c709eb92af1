use Rattle.std.proofs.Common.{arith}
use Rattle.std.specs.Option.{option_map}
use Rattle.std.proofs.lemmas.Grind.{common_steps}
use Rattle.sql_catalog.specs.Shown as catalogs
use Rattle.command_input.specs.Stages.{request_end}
use Rattle.command_input.proofs.Steps.{view-refused, views-taken}
use Rattle.command_input.proofs.stages.find_views.Goals as goal

pub returns-in-Ok-clause-comes : goal.returns-in-Ok-clause-comes
returns-in-Ok-clause-comes g c =
    views-taken _ _ c.args.query.now (option_map (λ d. d.now) c.args.dir) (catalogs.catalog c.args.catalog) (request_end c.find_query.result) c.in-Ok.ensures.valid c.find_query.ensures.comes

pub returns-in-Err-Refused-clause-comes : goal.returns-in-Err-Refused-clause-comes
returns-in-Err-Refused-clause-comes g c =
    rw c.in-Err-Refused.field-0-is
    (view-refused _ c.args.query.now (option_map (λ d. d.now) c.args.dir) (catalogs.catalog c.args.catalog) c.in-Err-Refused.view c.in-Err-Refused.number
    (c.in-Err-Refused.ensures.refused c.in-Err-Refused.view c.in-Err-Refused.number c.in-Err-Refused.field-0-is))

pub find_query-requires : goal.find_query-requires
find_query-requires g c = record { ready = record { valid = c.requires.valid; queries = c.requires.queries; of_catalog = c.in-Ok.ensures.views } }

pub returns-in-Err-Refused-clause-line : goal.returns-in-Err-Refused-clause-line
returns-in-Err-Refused-clause-line g c = grind (arith, common_steps)

pub returns-in-Err-Refused-clause-later : goal.returns-in-Err-Refused-clause-later
returns-in-Err-Refused-clause-later g c = grind (arith, common_steps)

pub returns-clause-ready : goal.returns-clause-ready
returns-clause-ready g c = grind (arith, common_steps)

pub returns-in-Ok-clause-failed : goal.returns-in-Ok-clause-failed
returns-in-Ok-clause-failed g c = grind (arith, common_steps)

pub returns-clause-line : goal.returns-clause-line
returns-clause-line g c = grind (arith, common_steps)

pub returns-clause-failed : goal.returns-clause-failed
returns-clause-failed g c = grind (arith, common_steps)

pub returns-in-Ok-clause-ready : goal.returns-in-Ok-clause-ready
returns-in-Ok-clause-ready g c = grind (arith, common_steps)

pub returns-in-Ok-clause-line : goal.returns-in-Ok-clause-line
returns-in-Ok-clause-line g c = grind (arith, common_steps)

pub returns-in-Ok-clause-later : goal.returns-in-Ok-clause-later
returns-in-Ok-clause-later g c = grind (arith, common_steps)

pub returns-clause-comes : goal.returns-clause-comes
returns-clause-comes g c = grind (arith, common_steps)

pub returns-in-Err-Refused-clause-ready : goal.returns-in-Err-Refused-clause-ready
returns-in-Err-Refused-clause-ready g c = grind (arith, common_steps)

pub returns-in-Err-Refused-clause-failed : goal.returns-in-Err-Refused-clause-failed
returns-in-Err-Refused-clause-failed g c = grind (arith, common_steps)
