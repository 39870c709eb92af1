use Rattle.std.proofs.Common.{◌≡◌, ◌++◌, drop}
use Rattle.qgm_build.proofs.finish.append.Given as goal

abbrev pub invariant-loop-o : goal.invariant-loop-o
invariant-loop-o l = l.out ++ drop l.o-index l.more ≡ l.fn.out ++ l.more
