use Rattle.std.proofs.Common.{◌≡◌, length, arith}
use Rattle.qgm_core.specs.Made.{boxes_of}
use Rattle.qgm_core.proofs.Stacked.{made-more}
use Rattle.std.proofs.lemmas.Grind.{common_steps}
use Rattle.qgm_core.proofs.made.numbered.Goals as goal

pub loop-new-preserved : goal.loop-new-preserved
loop-new-preserved c =
    let now = c.pop.new.self in
    let k : c.len.result ≡ length now.items = omega (arith, c.len.ensures, now.ok) in
    made-more c.loop-new.nodes.items c.loop-new.left.items now.items c.in-Some.new c.len.result (boxes_of c.args.made.items) c.push.new.self.items c.in-Some.ensures.items k c.in_ok-push.ensures.items c.loop-new.invariant

pub loop-new-init : goal.loop-new-init
loop-new-init c = grind (arith, common_steps)

pub returns : goal.returns
returns c = grind (arith, common_steps)
