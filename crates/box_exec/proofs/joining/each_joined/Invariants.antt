use Rattle.std.proofs.Common.{take}
use Rattle.row_bag.specs.Bags.{Alike}
use Rattle.box_exec.specs.Bound.{env_of}
use Rattle.box_exec.specs.Outer.{joined_rows}
use Rattle.box_exec.proofs.joining.each_joined.Given as goal

abbrev pub invariant-loop-i : goal.invariant-loop-i
invariant-loop-i l = Alike l.made (joined_rows l.join.node.now l.join.left l.join.right (take l.i l.xs) l.right.rows.now (env_of l.env))
