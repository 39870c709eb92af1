use Rattle.std.proofs.Common.{arith}
use Rattle.std.proofs.lemmas.Grind.{common_steps}
use Rattle.rule_facts.proofs.fed.any_fed_closed.Goals as goal

pub loop-node-preserved : goal.loop-node-preserved
loop-node-preserved c = grind (arith, common_steps)

pub returns-then-branch : goal.returns-then-branch
returns-then-branch c = grind (arith, common_steps)
