use Rattle.std.proofs.Common.{◌≡◌, drop}
use Rattle.std.specs.List.{list_all}
use Rattle.qgm_props.specs.Calm as spec
use Rattle.qgm_props.specs.Table.{facts_of}
use Rattle.qgm_props.proofs.calm.are_scalars_calm.Given as goal

-- what is left decides
abbrev pub invariant-loop-range : goal.invariant-loop-range
invariant-loop-range l = list_all (spec.calm_scalar l.boxes (facts_of l.table)) l.ranges ≡ list_all (spec.calm_scalar l.boxes (facts_of l.table)) (drop l.range-index l.ranges)
