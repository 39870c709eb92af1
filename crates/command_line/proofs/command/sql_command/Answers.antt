use Rattle.std.proofs.Common.{ap, ap₂, ◌∙◌}
use Rattle.std.proofs.lemmas.Result.{IfOk-weaker}
use Rattle.clap.specs.Words.{with_rule}
use Rattle.command_line.specs.Command.{sql_app, with_option_rules}
use Rattle.command_line.proofs.command.sql_command.Goals as goal

pub returns-clause-shape : goal.returns-clause-shape
unfolding sql_app
returns-clause-shape c =
    let a1 = c.in_ok-first.ensures.shape ∙ ap₂ with_rule c.in_ok-bare.ensures.shape c.text_place.ensures.rule in
    let a2 = c.in_ok-second.ensures.shape ∙ ap₂ with_rule a1 c.text_place-2.ensures.rule in
    let a3 = c.in_ok-third.ensures.shape ∙ ap with_option_rules a2 in
    IfOk-weaker c.with_arg-3.result _ _ (λ r h. h ∙ ap₂ with_rule a3 c.text_option.ensures.rule) c.with_arg-3.ensures.shape
