use Rattle.std.proofs.Common.{◌≡◌}
use Rattle.qgm_terms.specs.Shown.{terms}
use Rattle.qgm_build_terms.proofs.heads.head_of.Given as goal

abbrev pub invariant-loop-x : goal.invariant-loop-x
invariant-loop-x l = l.head ≡ terms l.yielded
