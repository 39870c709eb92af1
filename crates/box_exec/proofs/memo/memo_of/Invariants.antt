use Rattle.std.proofs.Common.{ℕ, ◌≡◌, ◌≤◌, Bool, true, drop, length, map}
use Rattle.box_exec.specs.Beyond.{beyonds}
use Rattle.box_exec.specs.Costs.{Between, Keeps}
use Rattle.box_exec.specs.Counted.{Counted}
use Rattle.box_exec.specs.Kept.{KeptAs, kept_costs, kept_number}
use Rattle.box_exec.specs.Lasting.{AllPlanned}
use Rattle.box_exec.specs.Ready.{Ready}
use Rattle.box_exec.specs.Takings.{AllSeek, kept_takings}
use Rattle.qgm_core.specs.Boxes.{Ordered}
use Rattle.box_exec.proofs.memo.memo_of.Given as goal

abbrev pub decreases-boxes : goal.decreases-boxes
decreases-boxes g l = l.i

abbrev pub invariant-boxes : goal.invariant-boxes
invariant-boxes g l = record {
  within : l.i ≤ length l.nodes;
  ready : Ready l.tables l.memo.items (drop l.i l.nodes);
  long : length l.memo.items ≡ length (drop l.i l.nodes);
  plans : AllPlanned l.memo.items l.plans.items (drop l.i l.nodes);
  many : length l.plans.items ≡ length (drop l.i l.nodes);
  names : map (λ v. v.items) l.named.items ≡ beyonds (drop l.i l.nodes);
  keeps : (kept : ℕ → Bool) → KeptAs kept l.marks l.nodes → Keeps l.memo.items kept (drop l.i l.nodes);
  took : (kept : ℕ → Bool) → KeptAs kept l.marks l.nodes → Between (kept_number kept (drop l.i l.nodes)) (kept_costs l.tables kept (drop l.i l.nodes)) l.initial.steps l.steps;
  seeks : (kept : ℕ → Bool) → KeptAs kept l.marks l.nodes → l.indexed ≡ true → Ordered l.nodes → AllSeek kept l.plans.items (drop l.i l.nodes);
  taken : (kept : ℕ → Bool) → KeptAs kept l.marks l.nodes → l.indexed ≡ true → Ordered l.nodes → Between 0 (kept_takings l.tables kept (drop l.i l.nodes)) l.initial.tally.taken l.tally.taken;
  counted : (start : ℕ) → Counted start l.initial.steps l.initial.tally.count → Counted start l.steps l.tally.count;
}
