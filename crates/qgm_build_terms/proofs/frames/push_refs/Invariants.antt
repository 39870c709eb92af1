use Rattle.std.proofs.Common.{◌≡◌, ◌++◌, ◌+◌, ◌-◌}
use Rattle.qgm_translation.specs.Shown.{refs}
use Rattle.qgm_build_terms.specs.Written.{frame_of}
use Rattle.qgm_build_terms.proofs.frames.push_refs.Given as goal

abbrev pub invariant-loop-k : goal.invariant-loop-k
invariant-loop-k l = frame_of l.frame.items ++ refs l.q (l.k + 1) (l.n - l.k) ≡ frame_of l.fn.frame.items ++ refs l.q 1 l.n
