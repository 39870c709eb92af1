use Rattle.std.proofs.Common.{◌≡◌, drop}
use Rattle.qgm_terms.specs.Shown.{links}
use Rattle.qgm_translation.specs.Typing as spec
use Rattle.qgm_build_terms.proofs.types.chain_type.Given as goal

abbrev pub invariant-loop-link : goal.invariant-loop-link
invariant-loop-link l = spec.chain_type l.last (links (drop l.link-index l.list)) ≡ spec.chain_type l.fn.first (links l.list)
