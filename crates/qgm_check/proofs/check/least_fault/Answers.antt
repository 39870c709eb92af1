use Rattle.std.proofs.Common.{◌-◌, arith}
use Rattle.std.proofs.lemmas.Grind.{common_steps}
use Rattle.qgm_check.proofs.Apart.{at-in}
use Rattle.qgm_check.proofs.check.least_fault.Goals as goal

pub loop-i-preserved : goal.loop-i-preserved
loop-i-preserved c = grind (arith, common_steps)

pub loop-i-preserved-then-not-branch : goal.loop-i-preserved-then-not-branch
loop-i-preserved-then-not-branch c = grind (arith, common_steps)

pub keeps-requires-clause-among : goal.keeps-requires-clause-among
keeps-requires-clause-among c = at-in c.args.nodes.now (c.loop-i.i - 1) c.index-nodes-i.result (omega (arith, c.loop-i.invariant.within, c.loop-i-test.true)) c.index-nodes-i.is
