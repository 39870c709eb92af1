use Rattle.std.proofs.Common.{◌≡◌, ◌++◌, ◌-◌}
use Rattle.qgm_translation.specs.Shown as w
use Rattle.qgm_build_terms.specs.Written.{frame_of}
use Rattle.qgm_build_terms.proofs.groups.key_frame.Given as goal

abbrev pub invariant-loop-i : goal.invariant-loop-i
invariant-loop-i l = frame_of l.out.items ++ w.key_frame l.u l.places l.i (l.n - l.i) ≡ w.key_frame l.u l.places 0 l.n
