use Rattle.std.proofs.Common.{All}
use Rattle.box_exec.specs.Lookup.{RejectsBy}
use Rattle.box_exec.specs.Outer.{rejects_on}
use Rattle.box_exec.proofs.joining.keys_on.Given as goal

abbrev pub invariant-loop-c : goal.invariant-loop-c
invariant-loop-c l = All (λ k. RejectsBy (rejects_on l.node) l.right k) l.made.items
