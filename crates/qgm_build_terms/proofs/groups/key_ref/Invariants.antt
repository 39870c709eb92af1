use Rattle.std.proofs.Common.{◌≡◌, ◌+◌, drop}
use Rattle.qgm_translation.specs.Shown as w
use Rattle.qgm_build_terms.proofs.groups.key_ref.Given as goal

abbrev pub invariant-loop-k : goal.invariant-loop-k
invariant-loop-k l = w.key_ref l.u (l.k + 1) (drop l.k l.places) l.i ≡ w.key_ref l.u 1 l.places l.i
