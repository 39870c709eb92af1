use Rattle.std.proofs.Common.{ap, ap₂, ◌≡◌, ◌∙◌}
use Rattle.std.proofs.lemmas.Result.{IfOk-weaker}
use Rattle.clap.specs.Words.{App, Shape, with_subcommand}
use Rattle.command_line.specs.Command.{line_app}
use Rattle.command_line.proofs.command.line_command.Goals as goal

pub returns : goal.returns
unfolding line_app
returns c =
    let top_of : App → Shape = λ a. a.top in
    let a1 = c.in_ok-first.ensures ∙ ap₂ with_subcommand c.in_ok-top.ensures (ap top_of c.in_ok-run.ensures.shape) in
    let a2 = c.in_ok-second.ensures ∙ ap₂ with_subcommand a1 (ap top_of c.in_ok-explain.ensures.shape) in
    let a3 = c.in_ok-third.ensures ∙ ap₂ with_subcommand a2 (ap top_of c.in_ok-sql.ensures.shape) in
    IfOk-weaker c.with_command-4.result _ _ (λ r h. h ∙ ap₂ with_subcommand a3 (ap top_of c.in_ok-generate.ensures.shape)) c.with_command-4.ensures
