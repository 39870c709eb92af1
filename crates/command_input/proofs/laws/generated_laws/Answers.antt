use Rattle.command_input.proofs.NeverRefused.{none-refused}
use Rattle.command_input.proofs.laws.generated_laws.Goals as goal

pub returns : goal.returns
returns c = none-refused
