use Rattle.std.proofs.Common.{◌≡◌, ◌-◌, take}
use Rattle.row_bag.specs.Bags.{Alike}
use Rattle.box_exec.specs.Bound.{env_of}
use Rattle.row_index.specs.Ways.{StandsFrom, place}
use Rattle.box_exec.specs.Outer.{partner_rows}
use Rattle.box_exec.proofs.joining.partners.Given as goal

abbrev pub invariant-loop-i : goal.invariant-loop-i
invariant-loop-i l = record {
  rows : Alike l.made (partner_rows l.join.node.now l.join.left l.join.right l.left (take l.i l.right.rows.now) (env_of l.env));
  stands : StandsFrom l.way (place l.c) l.c;
  at : l.i ≡ place l.c;
}

abbrev pub decreases-loop-i : goal.decreases-loop-i
decreases-loop-i l = l.way.end - l.i
