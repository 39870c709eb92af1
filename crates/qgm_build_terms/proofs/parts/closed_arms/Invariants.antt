use Rattle.std.proofs.Common.{◌≡◌, map}
use Rattle.qgm_terms.specs.Shown.{choices}
use Rattle.qgm_build_terms.specs.Opened.{opened}
use Rattle.qgm_build_terms.specs.Parts as spec
use Rattle.qgm_build_terms.proofs.parts.closed_arms.Given as goal

abbrev pub invariant-loop-arm : goal.invariant-loop-arm
invariant-loop-arm l = choices l.arms.items ≡ map (spec.closed_choice l.of) (opened l.yielded)
