use Rattle.std.proofs.Common.{◌≡◌, ◌++◌, drop}
use Rattle.qgm_props.specs.Table.{either_flags}
use Rattle.qgm_props.proofs.boxes.either_of.Given as goal

abbrev pub invariant-loop-i : goal.invariant-loop-i
invariant-loop-i l = l.all ++ either_flags (drop l.i l.old) (drop l.i l.now) ≡ either_flags l.old l.now
