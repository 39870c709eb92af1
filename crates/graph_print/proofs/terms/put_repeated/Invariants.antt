use Rattle.std.proofs.Common.{◌≡◌, ◌++◌}
use Rattle.graph_print.specs.TermText.{repeated}
use Rattle.graph_print.proofs.terms.put_repeated.Given as goal

abbrev pub invariant-loop-again : goal.invariant-loop-again
invariant-loop-again l = l.out ≡ l.initial.out ++ repeated l.word l._again
