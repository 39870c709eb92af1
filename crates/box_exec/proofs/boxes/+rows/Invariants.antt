use Rattle.std.proofs.Common.{ℕ, ◌≡◌, ◌+◌, ◌-◌, ◌++◌, Bool, List, filter, take, length}
use Rattle.row_bag.specs.Bags.{Alike, bind, keep}
use Rattle.qgm_meaning.specs.Values.{bound}
use Rattle.sql_value.specs.declared.cell.Cell.{Cell}
use Rattle.box_exec.specs.Bound.{env_of}
use Rattle.box_exec.specs.Counted.{Counted}
use Rattle.box_exec.specs.Plans.{KeepsAt, SeeksAt, SoughtAt, asked_at, asked_takings_at, cost_left, family, left_at, ranges}
use Rattle.box_exec.specs.Costs.{Between}
use Rattle.qgm_meaning.specs.Plain.{under_others}
use Rattle.box_exec.proofs.Evaluations.{each_row}
use Rattle.box_exec.proofs.Rows.{row_takings}
use Rattle.row_index.specs.Ways.{StandsFrom, place}
use Rattle.box_exec.specs.Ready.{SubsOf, isnt_F, weight, weight_under}
use Rattle.box_exec.proofs.boxes.+rows.Given as goal

abbrev pub decreases-evaluated : goal.decreases-evaluated
decreases-evaluated g l = weight l.below.now + length l.node.now.quants + 6

abbrev pub decreases-of_kind : goal.decreases-of_kind
decreases-of_kind g l = weight l.at.now.below.now + length l.at.now.loops.now + 5

abbrev pub decreases-selected : goal.decreases-selected
decreases-selected g l = weight l.at.now.below.now + length l.at.now.loops.now + 4

abbrev pub decreases-groups : goal.decreases-groups
decreases-groups g l = weight l.at.now.below.now + 1

abbrev pub decreases-put_together : goal.decreases-put_together
decreases-put_together g l = weight l.at.now.below.now + 1

abbrev pub decreases-joined : goal.decreases-joined
decreases-joined g l = weight l.at.now.below.now + 1

abbrev pub decreases-each : goal.decreases-each
decreases-each g l = weight l.at.now.below.now + (length l.at.now.loops.now - l.k) + 3

abbrev pub decreases-add_head : goal.decreases-add_head
decreases-add_head g l = weight l.at.now.below.now + 2

abbrev pub decreases-subs : goal.decreases-subs
decreases-subs g l = weight l.at.now.below.now + 1

abbrev pub decreases-rows_under : goal.decreases-rows_under
decreases-rows_under g l = weight_under l.l.now.under - 1

abbrev pub decreases-sub_under : goal.decreases-sub_under
decreases-sub_under g l = weight_under l.l.now.under

abbrev pub decreases-each-loop-i : goal.decreases-each-loop-i
decreases-each-loop-i g l = l.way.end - l.i

abbrev pub invariant-each-loop-i : goal.invariant-each-loop-i
invariant-each-loop-i g l = record {
  rows : Alike l.out (l.initial.out ++ keep l.level (bind (take l.i l.rows) (λ (cells : List Cell). left_at l.at (l.k + 1) (bound l.l.range.id cells (env_of l.env)))));
  took : (kept : ℕ → Bool) → KeepsAt l.at kept → Between 0 (each_row (λ (cells : List Cell). cost_left l.at kept (l.k + 1) (bound l.l.range.id cells (env_of l.env))) (take l.i l.rows)) l.initial.steps l.steps;
  taken : (kept : ℕ → Bool) → SeeksAt l.at kept → SoughtAt l.at → Between 0 (each_row (row_takings l.at kept l.k l.l.range (env_of l.env)) (take l.i l.rows)) l.initial.tally.taken l.tally.taken;
  stands : StandsFrom l.way (place l.c) l.c;
  at : l.i ≡ place l.c;
  counted : (start : ℕ) → Counted start l.initial.steps l.initial.tally.count → Counted start l.steps l.tally.count;
}

abbrev pub invariant-subs-loop-i : goal.invariant-subs-loop-i
invariant-subs-loop-i g l = record {
  rows : SubsOf (family l.at) (env_of l.env) (filter isnt_F (take l.i (ranges l.at.loops.now))) l.subs.items;
  took : (kept : ℕ → Bool) → KeepsAt l.at kept → Between 0 (under_others (take l.i (ranges l.at.loops.now)) (asked_at l.at kept) (env_of l.env)) l.initial.steps l.steps;
  taken : (kept : ℕ → Bool) → SeeksAt l.at kept → Between 0 (under_others (take l.i (ranges l.at.loops.now)) (asked_takings_at l.at kept) (env_of l.env)) l.initial.tally.taken l.tally.taken;
  counted : (start : ℕ) → Counted start l.initial.steps l.initial.tally.count → Counted start l.steps l.tally.count;
}
