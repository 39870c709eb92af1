use Rattle.std.proofs.Common.{◌≡◌, ◌++◌, drop}
use Rattle.qgm_build.proofs.whole.copied_names.Given as goal

abbrev pub invariant-loop-name : goal.invariant-loop-name
invariant-loop-name l =
    l.out ++ drop l.name-index l.name-items ≡ l.name-items
