use Rattle.std.proofs.Common.{ap, refl, true, ◌≡◌, ◌∙◌}
use Rattle.clap.specs.Words.{App, app_of}
use Rattle.clap.specs.Simple.{app_of_fields}
use Rattle.clap.specs.declared.builder.command.Command.TheViews.{out-Command as fields_of}
use Rattle.command_line.proofs.command.top_command.Goals as goal

pub returns : goal.returns
returns c =
    let settled : App → App = λ a. record a { top = record a.top { no_binary_name = true; disable_help_flag = true; disable_help_subcommand = true; disable_version_flag = true } } in
    let made : fields_of c.disable_version_flag.result ≡ record (fields_of c.new.result) { no_binary_name = true; disable_help_flag = true; disable_help_subcommand = true; disable_version_flag = true } =
    rw (c.disable_version_flag.ensures, c.disable_help_subcommand.ensures, c.disable_help_flag.ensures, c.no_binary_name.ensures) refl in
    let bare : app_of c.disable_version_flag.result ≡ settled (app_of c.new.result) = ap app_of_fields made in
    bare ∙ ap settled c.new.ensures.app
