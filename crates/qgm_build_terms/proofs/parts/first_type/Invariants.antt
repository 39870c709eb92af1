use Rattle.std.proofs.Common.{◌≡◌, drop}
use Rattle.qgm_build_terms.specs.Opened.{opened}
use Rattle.qgm_build_terms.specs.Parts as spec
use Rattle.qgm_build_terms.proofs.parts.first_type.Given as goal

abbrev pub invariant-loop-arm : goal.invariant-loop-arm
invariant-loop-arm l = spec.first_type l.rows (opened (drop l.arm-index l.list)) l.other ≡ spec.first_type l.rows (opened l.list) l.other
