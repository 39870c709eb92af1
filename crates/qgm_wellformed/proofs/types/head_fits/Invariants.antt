use Rattle.std.proofs.Common.{◌≡◌, drop}
use Rattle.std.specs.List.{list_all}
use Rattle.qgm_terms.specs.Shown.{terms}
use Rattle.qgm_wellformed.specs.Types as spec
use Rattle.qgm_wellformed.proofs.types.head_fits.Given as goal

-- what is left decides
abbrev pub invariant-loop-x : goal.invariant-loop-x
invariant-loop-x l =
    list_all (λ x. spec.is_known (spec.term_type (spec.type_at l.table l.places) x)) (terms (drop l.x-index l.list))
    ≡ list_all (λ x. spec.is_known (spec.term_type (spec.type_at l.table l.places) x)) (terms l.list)
