use Rattle.std.proofs.Common.{ℕ, Bool, ◌≡◌, ◌+◌, ◌-◌, ◌++◌, take, length}
use Rattle.row_bag.specs.Bags.{Alike, bind, keep}
use Rattle.qgm_meaning.specs.Values.{bound}
use Rattle.box_exec.specs.Bound.{env_of}
use Rattle.row_index.specs.Ways.{StandsFrom, place}
use Rattle.box_exec.specs.Costs.{Between}
use Rattle.box_exec.specs.Plans.{SoughtAt, family, left_at, ranges}
use Rattle.box_exec.proofs.Evaluations.{each_row}
use Rattle.box_exec.proofs.Seeking.{row_ways}
use Rattle.box_exec.proofs.hashed.+over_kept.Given as goal

abbrev pub decreases-over_kept : goal.decreases-over_kept
decreases-over_kept l = length l.whole.now.at.now.loops.now - l.place

abbrev pub invariant-loop-i : goal.invariant-loop-i
invariant-loop-i l = record {
  rows : Alike l.out (l.initial.out ++ keep l.level (bind (take l.i l.rows) (λ cells. left_at l.whole.at.now (l.place + 1) (bound l.l.range.id cells (env_of l.env)))));
  took : (closed : ℕ → Bool) → SoughtAt l.whole.at.now → Between 0 (each_row (row_ways closed l.whole.at.now.node.now (ranges l.whole.at.now.loops.now) (family l.whole.at.now) l.place l.l.range (env_of l.env)) (take l.i l.rows)) l.initial.taken l.taken;
  stands : StandsFrom l.way (place l.c) l.c;
  at : l.i ≡ place l.c;
}

abbrev pub decreases-loop-i : goal.decreases-loop-i
decreases-loop-i l = l.way.end - l.i
