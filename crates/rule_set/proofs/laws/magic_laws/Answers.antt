-- The laws of class magic.
use Rattle.rule_set.proofs.laws.magic_laws.Goals as goal
use Rattle.rule_set.proofs.MagicEnds.{magic-ends, magic-lowers}

pub returns-clause-lowers : goal.returns-clause-lowers
returns-clause-lowers c = magic-lowers

pub returns-clause-ends : goal.returns-clause-ends
returns-clause-ends c = magic-ends
