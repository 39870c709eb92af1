use Rattle.std.proofs.lemmas.Grind.{common_steps}
use Rattle.std.proofs.Common.{arith}
use Rattle.qgm_core.proofs.Shifts.{over-more}
use Rattle.qgm_core.proofs.shifted.shift_over.Goals as goal

pub loop-i-preserved : goal.loop-i-preserved
loop-i-preserved c =
    let same = c.loop-i.invariant.same in
    over-more c.args.b c.args.k c.loop-i.i c.args.nodes.now.items c.loop-i.nodes.items c.shift_owned.new.nodes.items (omega (arith, same, c.loop-i-test.true)) c.shift_owned.ensures c.loop-i.invariant

pub returns : goal.returns
returns c = grind (arith, common_steps)
