use Rattle.std.proofs.Common.{◌≡◌, ◌++◌, take}
use Rattle.graph_print.proofs.writing.put_word.Given as goal

abbrev pub invariant-loop-b : goal.invariant-loop-b
invariant-loop-b l = l.out ≡ l.initial.out ++ take l.b-index l.word
