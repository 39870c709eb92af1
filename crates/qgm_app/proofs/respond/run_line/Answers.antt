use Rattle.std.proofs.lemmas.Grind.{common_steps}
use Rattle.std.proofs.Common.{refl, arith}
use Rattle.std.proofs.lemmas.Result.{err_from_is_err_and}
use Rattle.command_line.specs.Line.{line_text, task_text}
use Rattle.command_input.specs.Questions.{request_of}
use Rattle.qgm_app.proofs.Fitting.{fit-asked}
use Rattle.qgm_app.proofs.Made.{interrupted, not-refused}
use Rattle.qgm_app.proofs.Steps.{line-counts, line-interrupted, line-starved, line-told}
use Rattle.qgm_app.proofs.respond.run_line.Goals as goal

pub returns-in_err-question-clause-comes : goal.returns-in_err-question-clause-comes
returns-in_err-question-clause-comes g c =
    let p = err_from_is_err_and c.from_residual.result c.from_residual.ensures.1 in
    rw (p.1, p.2) (line-interrupted _ _ (line_text c.args.line.now) c.in_err-question.field-0.0 c.in_err-question.ensures.comes)

pub returns-in_err-tell-in-Asked-clause-comes : goal.returns-in_err-tell-in-Asked-clause-comes
returns-in_err-tell-in-Asked-clause-comes g c =
    let p = err_from_is_err_and c.from_residual-in_err-tell-in-Asked.result c.from_residual-in_err-tell-in-Asked.ensures.1 in
    rw (p.1, p.2) (line-starved _ _ (line_text c.args.line.now) (request_of c.in_ok-question.field-0) c.in_ok-question.ensures.comes)

pub returns-in_ok-tell-in-Asked-clause-comes : goal.returns-in_ok-tell-in-Asked-clause-comes
returns-in_ok-tell-in-Asked-clause-comes g c =
    line-told _ _ (line_text c.args.line.now) (request_of c.in_ok-question.field-0) c.in_ok-tell-in-Asked.field-0 c.in_ok-question.ensures.comes
    (rw c.in-Asked.is c.in_ok-tell-in-Asked.ensures.tells)

pub returns-in_ok-tell-in-Asked-clause-counts : goal.returns-in_ok-tell-in-Asked-clause-counts
returns-in_ok-tell-in-Asked-clause-counts g c =
    line-counts _ _ (line_text c.args.line.now) (request_of c.in_ok-question.field-0) c.in_ok-tell-in-Asked.field-0 _ _ c.in_ok-question.ensures.comes
    (rw c.in-Asked.is c.in_ok-tell-in-Asked.ensures.counts)

pub returns-in-Refused-clause-comes : goal.returns-in-Refused-clause-comes
returns-in-Refused-clause-comes g c =
    line-told _ _ (line_text c.args.line.now) (request_of c.in_ok-question.field-0) c.in-Refused.report c.in_ok-question.ensures.comes (rw c.in-Refused.is refl)

pub returns-in-Refused-clause-counts : goal.returns-in-Refused-clause-counts
returns-in-Refused-clause-counts g c =
    line-counts _ _ (line_text c.args.line.now) (request_of c.in_ok-question.field-0) c.in-Refused.report _ _ c.in_ok-question.ensures.comes (rw c.in-Refused.is (refl, refl))

pub returns-in-Refused-clause-failed : goal.returns-in-Refused-clause-failed
returns-in-Refused-clause-failed g c = grind (arith, common_steps)

pub returns-in_ok-tell-in-Asked-clause-later : goal.returns-in_ok-tell-in-Asked-clause-later
returns-in_ok-tell-in-Asked-clause-later g c = grind (arith, common_steps)

pub find-requires : goal.find-requires
find-requires g c = grind (arith, common_steps)

pub returns-in_ok-tell-in-Asked-clause-failed : goal.returns-in_ok-tell-in-Asked-clause-failed
returns-in_ok-tell-in-Asked-clause-failed g c = grind (arith, common_steps)

pub returns-in-Refused-clause-line : goal.returns-in-Refused-clause-line
returns-in-Refused-clause-line g c = grind (arith, common_steps)

pub returns-in-Refused-clause-later : goal.returns-in-Refused-clause-later
returns-in-Refused-clause-later g c = grind (arith, common_steps)

pub returns-in-Refused-clause-unread : goal.returns-in-Refused-clause-unread
returns-in-Refused-clause-unread g c = grind (arith, common_steps)

pub returns-in_ok-tell-in-Asked-clause-line : goal.returns-in_ok-tell-in-Asked-clause-line
returns-in_ok-tell-in-Asked-clause-line g c = grind (arith, common_steps)

pub returns-in_err-question-clause-made : goal.returns-in_err-question-clause-made
returns-in_err-question-clause-made g c =
    let p = err_from_is_err_and c.from_residual.result c.from_residual.ensures.1 in
    rw (p.1, p.2) (interrupted c.in_err-question.field-0.0 _ c.in_err-question.ensures.made)

pub returns-in_err-tell-in-Asked-clause-made : goal.returns-in_err-tell-in-Asked-clause-made
returns-in_err-tell-in-Asked-clause-made g c =
    let p = err_from_is_err_and c.from_residual-in_err-tell-in-Asked.result c.from_residual-in_err-tell-in-Asked.ensures.1 in
    rw (p.1, p.2) (λ m. tt)

pub returns-in-Refused-clause-made : goal.returns-in-Refused-clause-made
returns-in-Refused-clause-made g c = λ m. absurd (not-refused c.in_ok-question.field-0 c.in-Refused.report c.in-Refused.is (c.in_ok-question.ensures.made m))

pub tell-requires : goal.tell-requires
tell-requires g c = fit-asked (task_text c.args.line.now.task) c.in_ok-question.field-0 c.in-Asked.question c.in-Asked.is c.in_ok-question.ensures.ready
