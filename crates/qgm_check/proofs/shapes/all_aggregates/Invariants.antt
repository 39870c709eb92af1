use Rattle.std.proofs.Common.{◌≡◌, drop}
use Rattle.std.specs.List.{list_all}
use Rattle.qgm_terms.specs.Shown.{terms}
use Rattle.qgm_wellformed.specs.Shapes as spec
use Rattle.qgm_check.proofs.shapes.all_aggregates.Given as goal

-- what is left decides
abbrev pub invariant-loop-x : goal.invariant-loop-x
invariant-loop-x l = list_all spec.is_aggregate (terms (drop l.x-index l.list)) ≡ list_all spec.is_aggregate (terms l.list)
