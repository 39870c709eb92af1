use Rattle.std.proofs.Common.{ap, ap₂, ◌∙◌}
use Rattle.std.proofs.lemmas.Result.{IfOk-weaker}
use Rattle.clap.specs.Words.{app_of, with_rule}
use Rattle.command_line.proofs.command.with_options.Goals as goal

pub returns-clause-shape : goal.returns-clause-shape
returns-clause-shape c =
    let a1 = c.in_ok-first.ensures.shape ∙ ap (with_rule (app_of c.args.command.value)) c.number_option.ensures.rule in
    let a2 = c.in_ok-second.ensures.shape ∙ ap₂ with_rule a1 c.text_option.ensures.rule in
    let a3 = c.in_ok-third.ensures.shape ∙ ap₂ with_rule a2 c.text_option-2.ensures.rule in
    let a4 = c.in_ok-fourth.ensures.shape ∙ ap₂ with_rule a3 c.text_option-3.ensures.rule in
    IfOk-weaker c.with_arg-5.result _ _ (λ r h. h ∙ ap₂ with_rule a4 c.number_option-2.ensures.rule) c.with_arg-5.ensures.shape
