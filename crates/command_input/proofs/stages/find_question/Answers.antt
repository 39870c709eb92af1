use Rattle.std.proofs.lemmas.Grind.{common_steps}
use Rattle.std.proofs.Common.{Err, arith}
use Rattle.std.specs.Option.{option_map}
use Rattle.std.proofs.lemmas.Result.{err_from_is_err_and}
use Rattle.io_edge.specs.Outcome.{answered, read, starved}
use Rattle.io_edge.proofs.Order.{comes-starved}
use Rattle.sql_catalog.specs.Shown as catalogs
use Rattle.command_input.specs.Stages.{request_end, with_catalog}
use Rattle.command_input.specs.Texts.{catalog_of}
use Rattle.command_input.specs.declared.report.Report.TheVariants.{SchemaRefused}
use Rattle.command_input.proofs.Steps.{find-interrupted, schema-refused, schema-taken, text-of-schema}
use Rattle.command_input.proofs.Sound.{valid-catalog}
use Rattle.command_input.proofs.stages.find_question.Goals as goal

pub returns-in_err-text-clause-comes : goal.returns-in_err-text-clause-comes
returns-in_err-text-clause-comes g c =
    let p = err_from_is_err_and c.from_residual.result c.from_residual.ensures.1 in
    rw (p.1, p.2) (find-interrupted _ _ (λ fs. read fs c.args.schema.now 65536)
    (λ x fs. with_catalog c.args.query.now (option_map (λ d. d.now) c.args.dir) fs (catalog_of x)) c.in_err-text.field-0.0 c.in_err-text.ensures.comes)

pub returns-in-Ok-clause-comes : goal.returns-in-Ok-clause-comes
returns-in-Ok-clause-comes g c =
    text-of-schema _ _ _ c.args.schema.now c.args.query.now (option_map (λ d. d.now) c.args.dir) c.in_ok-text.text (request_end c.find_views.result) c.in_ok-text.ensures.comes
    (schema-taken _ _ c.args.query.now (option_map (λ d. d.now) c.args.dir) c.in_ok-text.text (catalogs.catalog c.in-Ok.catalog) (request_end c.find_views.result) c.in-Ok.ensures.gives c.find_views.ensures.comes)

pub returns-in-Err-Number-clause-comes : goal.returns-in-Err-Number-clause-comes
returns-in-Err-Number-clause-comes g c =
    rw c.in-Err-Number.field-0-is
    (text-of-schema _ _ _ c.args.schema.now c.args.query.now (option_map (λ d. d.now) c.args.dir) c.in_ok-text.text (answered (Err (SchemaRefused c.in-Err-Number.number))) c.in_ok-text.ensures.comes
    (schema-refused _ c.args.query.now (option_map (λ d. d.now) c.args.dir) c.in_ok-text.text c.in-Err-Number.number (rw c.in-Err-Number.field-0-is at c.in-Err-Number.ensures.gives)))

pub returns-clause-comes : goal.returns-clause-comes
returns-clause-comes g c =
    text-of-schema _ _ _ c.args.schema.now c.args.query.now (option_map (λ d. d.now) c.args.dir) c.in_ok-text.text starved c.in_ok-text.ensures.comes (comes-starved _ _)

pub find_views-requires : goal.find_views-requires
find_views-requires g c = record { valid = valid-catalog c.in_ok-text.text (catalogs.catalog c.in-Ok.catalog) c.in-Ok.ensures.gives; queries = c.in-Ok.ensures.queries }

pub returns-in-Ok-clause-ready : goal.returns-in-Ok-clause-ready
returns-in-Ok-clause-ready g c = grind (arith, common_steps)

pub returns-clause-later : goal.returns-clause-later
returns-clause-later g c = grind (arith, common_steps)

pub returns-in-Err-Number-clause-line : goal.returns-in-Err-Number-clause-line
returns-in-Err-Number-clause-line g c = grind (arith, common_steps)

pub returns-clause-line : goal.returns-clause-line
returns-clause-line g c = grind (arith, common_steps)

pub returns-in-Err-Number-clause-ready : goal.returns-in-Err-Number-clause-ready
returns-in-Err-Number-clause-ready g c = grind (arith, common_steps)

pub returns-clause-failed : goal.returns-clause-failed
returns-clause-failed g c = grind (arith, common_steps)

pub returns-in-Err-Number-clause-failed : goal.returns-in-Err-Number-clause-failed
returns-in-Err-Number-clause-failed g c = grind (arith, common_steps)

pub returns-in_err-text-clause-failed : goal.returns-in_err-text-clause-failed
returns-in_err-text-clause-failed g c = grind (arith, common_steps)

pub returns-in_err-text-clause-ready : goal.returns-in_err-text-clause-ready
returns-in_err-text-clause-ready g c = grind (arith, common_steps)

pub returns-in-Ok-clause-failed : goal.returns-in-Ok-clause-failed
returns-in-Ok-clause-failed g c = grind (arith, common_steps)

pub returns-in-Ok-clause-line : goal.returns-in-Ok-clause-line
returns-in-Ok-clause-line g c = grind (arith, common_steps)

pub returns-in_err-text-clause-later : goal.returns-in_err-text-clause-later
returns-in_err-text-clause-later g c = grind (arith, common_steps)

pub returns-in-Ok-clause-later : goal.returns-in-Ok-clause-later
returns-in-Ok-clause-later g c = grind (arith, common_steps)

pub returns-clause-ready : goal.returns-clause-ready
returns-clause-ready g c = grind (arith, common_steps)

pub returns-in-Err-Number-clause-later : goal.returns-in-Err-Number-clause-later
returns-in-Err-Number-clause-later g c = grind (arith, common_steps)

pub returns-in_err-text-clause-line : goal.returns-in_err-text-clause-line
returns-in_err-text-clause-line g c = grind (arith, common_steps)
