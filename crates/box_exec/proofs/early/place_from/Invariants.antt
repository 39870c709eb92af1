use Rattle.std.proofs.Common.{◌≡◌, ◌≤◌, drop, false, length}
use Rattle.qgm_terms.specs.Shown.{cond}
use Rattle.box_exec.specs.Early.{reads_any}
use Rattle.box_exec.proofs.early.place_from.Given as goal

abbrev pub invariant-loop-place : goal.invariant-loop-place
invariant-loop-place l = record {
  within : l.place ≤ length l.ranges;
  none : reads_any (cond l.c) (drop l.place l.ranges) ≡ false;
}

abbrev pub decreases-loop-place : goal.decreases-loop-place
decreases-loop-place l = l.place
