use Rattle.std.proofs.lemmas.Grind.{common_steps}
use Rattle.std.proofs.Common.{Err, arith}
use Rattle.std.specs.Option.{option_map}
use Rattle.std.proofs.lemmas.Result.{err_from_is_err_and}
use Rattle.io_edge.specs.Outcome.{answered, read, starved}
use Rattle.io_edge.proofs.Order.{comes-starved}
use Rattle.sql_ast.specs.Shown as shown
use Rattle.sql_catalog.specs.Shown as catalogs
use Rattle.command_input.specs.Stages.{request_end, with_query}
use Rattle.command_input.specs.Texts.{valid_query}
use Rattle.command_input.specs.declared.report.Report.TheVariants.{QueryRefused}
use Rattle.command_input.proofs.Steps.{find-interrupted, query-refused, query-taken, text-of-query}
use Rattle.command_input.proofs.stages.find_query.Goals as goal

pub returns-in_err-text-clause-comes : goal.returns-in_err-text-clause-comes
returns-in_err-text-clause-comes g c =
    let p = err_from_is_err_and c.from_residual.result c.from_residual.ensures.1 in
    rw (p.1, p.2) (find-interrupted _ _ (λ fs. read fs c.args.query.now 65536)
    (λ x fs. with_query (option_map (λ d. d.now) c.args.dir) (catalogs.catalog c.args.catalog) fs (valid_query (catalogs.catalog c.args.catalog) x)) c.in_err-text.field-0.0 c.in_err-text.ensures.comes)

pub returns-in-Ok-clause-comes : goal.returns-in-Ok-clause-comes
returns-in-Ok-clause-comes g c =
    text-of-query _ _ _ c.args.query.now (option_map (λ d. d.now) c.args.dir) (catalogs.catalog c.args.catalog) c.in_ok-text.text (request_end c.find_folder.result) c.in_ok-text.ensures.comes
    (query-taken _ _ (option_map (λ d. d.now) c.args.dir) (catalogs.catalog c.args.catalog) c.in_ok-text.text (shown.query_text c.in-Ok.valid.query) (request_end c.find_folder.result) c.in-Ok.ensures.gives c.find_folder.ensures.comes)

pub returns-in-Err-Number-clause-comes : goal.returns-in-Err-Number-clause-comes
returns-in-Err-Number-clause-comes g c =
    rw c.in-Err-Number.field-0-is
    (text-of-query _ _ _ c.args.query.now (option_map (λ d. d.now) c.args.dir) (catalogs.catalog c.args.catalog) c.in_ok-text.text (answered (Err (QueryRefused c.in-Err-Number.number))) c.in_ok-text.ensures.comes
    (query-refused _ (option_map (λ d. d.now) c.args.dir) (catalogs.catalog c.args.catalog) c.in_ok-text.text c.in-Err-Number.number (rw c.in-Err-Number.field-0-is at c.in-Err-Number.ensures.gives)))

pub returns-clause-comes : goal.returns-clause-comes
returns-clause-comes g c =
    text-of-query _ _ _ c.args.query.now (option_map (λ d. d.now) c.args.dir) (catalogs.catalog c.args.catalog) c.in_ok-text.text starved c.in_ok-text.ensures.comes (comes-starved _ _)

pub returns-in-Err-Number-clause-failed : goal.returns-in-Err-Number-clause-failed
returns-in-Err-Number-clause-failed g c = grind (arith, common_steps)

pub returns-in-Ok-clause-ready : goal.returns-in-Ok-clause-ready
returns-in-Ok-clause-ready g c = grind (arith, common_steps)

pub find_folder-requires-clause-checked : goal.find_folder-requires-clause-checked
find_folder-requires-clause-checked g c = grind (arith, common_steps)

pub returns-in-Ok-clause-line : goal.returns-in-Ok-clause-line
returns-in-Ok-clause-line g c = grind (arith, common_steps)

pub returns-in-Err-Number-clause-later : goal.returns-in-Err-Number-clause-later
returns-in-Err-Number-clause-later g c = grind (arith, common_steps)

pub returns-in-Err-Number-clause-line : goal.returns-in-Err-Number-clause-line
returns-in-Err-Number-clause-line g c = grind (arith, common_steps)

pub find_folder-requires-clause-ready : goal.find_folder-requires-clause-ready
find_folder-requires-clause-ready g c = grind (arith, common_steps)

pub returns-clause-line : goal.returns-clause-line
returns-clause-line g c = grind (arith, common_steps)

pub read_query-requires : goal.read_query-requires
read_query-requires g c = grind (arith, common_steps)

pub returns-in_err-text-clause-later : goal.returns-in_err-text-clause-later
returns-in_err-text-clause-later g c = grind (arith, common_steps)

pub returns-in-Ok-clause-later : goal.returns-in-Ok-clause-later
returns-in-Ok-clause-later g c = grind (arith, common_steps)

pub returns-in_err-text-clause-ready : goal.returns-in_err-text-clause-ready
returns-in_err-text-clause-ready g c = grind (arith, common_steps)

pub returns-in_err-text-clause-failed : goal.returns-in_err-text-clause-failed
returns-in_err-text-clause-failed g c = grind (arith, common_steps)

pub returns-clause-later : goal.returns-clause-later
returns-clause-later g c = grind (arith, common_steps)

pub returns-in-Err-Number-clause-ready : goal.returns-in-Err-Number-clause-ready
returns-in-Err-Number-clause-ready g c = grind (arith, common_steps)

pub returns-in_err-text-clause-line : goal.returns-in_err-text-clause-line
returns-in_err-text-clause-line g c = grind (arith, common_steps)

pub returns-clause-ready : goal.returns-clause-ready
returns-clause-ready g c = grind (arith, common_steps)

pub returns-clause-failed : goal.returns-clause-failed
returns-clause-failed g c = grind (arith, common_steps)
