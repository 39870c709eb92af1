use Rattle.rule_magic.proofs.CalmFires.{calm-fires}
use Rattle.rule_magic.proofs.laws.calm_laws.Goals as goal

pub returns : goal.returns
returns c = record { fires = calm-fires }
