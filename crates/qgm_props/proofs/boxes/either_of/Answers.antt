use Rattle.std.proofs.Common.{arith}
use Rattle.std.proofs.lemmas.Grind.{common_steps}
use Rattle.qgm_props.proofs.TableLaws.{either-end}
use Rattle.qgm_props.proofs.boxes.either_of.Goals as goal

pub returns : goal.returns
returns c =
    let e = either-end c.args.old.now c.args.now.now c.loop-i.i (omega (arith, c.loop-i-test.false, c.min-i-end.ensures)) in
    grind (arith, common_steps, e, c.loop-i.invariant)

pub loop-i-preserved : goal.loop-i-preserved
loop-i-preserved c = grind (arith, common_steps)
