use Rattle.std.proofs.Common.{◌≡◌, ◌++◌, drop}
use Rattle.graph_print.specs.TermText.{doubled}
use Rattle.graph_print.proofs.writing.put_doubled.Given as goal

-- what is left adds the rest
abbrev pub invariant-loop-c : goal.invariant-loop-c
invariant-loop-c l = l.out ++ doubled l.mark (drop l.c-index l.c-items) ≡ l.initial.out ++ doubled l.mark l.c-items
