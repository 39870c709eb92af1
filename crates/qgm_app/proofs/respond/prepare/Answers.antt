use Rattle.std.proofs.lemmas.Grind.{common_steps}
use Rattle.std.proofs.Common.{Err, ap, map, refl, arith}
use Rattle.std.proofs.lemmas.Result.{IfOk-weaker}
use Rattle.std.specs.String.{string_bytes}
use Rattle.command_line.specs.Line.{line_text}
use Rattle.qgm_app.proofs.Steps.{line-taken, line-taken-counts, no-line, no-line-counts}
use Rattle.qgm_app.proofs.respond.prepare.Goals as goal

pub returns-in-Ok-clause-comes : goal.returns-in-Ok-clause-comes
returns-in-Ok-clause-comes g c =
    line-taken _ _ (map (λ w. string_bytes w) c.args.words.now) (line_text c.in-Ok.line) c.run_line.result c.in-Ok.ensures.ok c.run_line.ensures.comes

pub returns-in-Err-Usage-clause-comes : goal.returns-in-Err-Usage-clause-comes
returns-in-Err-Usage-clause-comes g c = no-line _ (map (λ w. string_bytes w) c.args.words.now) (c.in-Err-Usage.ensures.usage (ap (λ e. Err e) c.in-Err-Usage.field-0-is))

pub returns-in-Ok-clause-counts : goal.returns-in-Ok-clause-counts
returns-in-Ok-clause-counts g c = IfOk-weaker c.run_line.result _ _
    (λ report h. line-taken-counts _ (map (λ w. string_bytes w) c.args.words.now) (line_text c.in-Ok.line) report _ _ c.in-Ok.ensures.ok h) c.run_line.ensures.counts

pub returns-in-Err-Usage-clause-counts : goal.returns-in-Err-Usage-clause-counts
returns-in-Err-Usage-clause-counts g c =
    no-line-counts _ (map (λ w. string_bytes w) c.args.words.now) _ _ (c.in-Err-Usage.ensures.usage (ap (λ e. Err e) c.in-Err-Usage.field-0-is)) refl

pub returns-in-Ok-clause-no_line : goal.returns-in-Ok-clause-no_line
returns-in-Ok-clause-no_line g c = grind (arith, common_steps)

pub returns-in-Err-Memory-clause-unread : goal.returns-in-Err-Memory-clause-unread
returns-in-Err-Memory-clause-unread g c = grind (arith, common_steps)

pub returns-in-Ok-clause-line : goal.returns-in-Ok-clause-line
returns-in-Ok-clause-line g c = grind (arith, common_steps)

pub returns-in-Err-Memory-clause-comes : goal.returns-in-Err-Memory-clause-comes
returns-in-Err-Memory-clause-comes g c = grind (arith, common_steps)
