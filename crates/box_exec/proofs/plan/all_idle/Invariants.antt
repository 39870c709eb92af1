use Rattle.std.proofs.Common.{◌≡◌, length}
use Rattle.box_exec.specs.Hashed.{AllIdleUnder}
use Rattle.box_exec.proofs.plan.all_idle.Given as goal

abbrev pub invariant-loop-i : goal.invariant-loop-i
invariant-loop-i l = record {
  long : length l.made.items ≡ l.i;
  indexed : AllIdleUnder l.over l.made.items;
}
