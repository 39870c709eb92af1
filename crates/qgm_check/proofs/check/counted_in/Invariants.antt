use Rattle.std.proofs.Common.{◌≡◌, take}
use Rattle.qgm_check.specs.Survey.{counted_in}
use Rattle.qgm_check.proofs.check.counted_in.Given as goal

abbrev pub invariant-loop-node : goal.invariant-loop-node
invariant-loop-node l = l.marks ≡ counted_in (take l.node-index l.nodes)
