use Rattle.std.proofs.Common.{ap, ap₂, ◌∙◌}
use Rattle.std.proofs.lemmas.Result.{IfOk-weaker}
use Rattle.clap.specs.Words.{with_rule}
use Rattle.command_line.specs.Command.{gen_app, with_option_rules}
use Rattle.command_line.proofs.command.gen_command.Goals as goal

pub returns-clause-shape : goal.returns-clause-shape
unfolding gen_app
returns-clause-shape c =
    let a1 = c.in_ok-first.ensures.shape ∙ ap₂ with_rule c.in_ok-bare.ensures.shape c.number_place.ensures.rule in
    let a2 = c.in_ok-second.ensures.shape ∙ ap₂ with_rule a1 c.number_place-2.ensures.rule in
    IfOk-weaker c.with_options.result _ _ (λ r h. h ∙ ap with_option_rules a2) c.with_options.ensures.shape
