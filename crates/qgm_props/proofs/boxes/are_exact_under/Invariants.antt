use Rattle.std.proofs.Common.{◌≡◌, drop}
use Rattle.qgm_props.specs.Inferred.{all_under_F}
use Rattle.qgm_props.specs.Table.{facts_of}
use Rattle.qgm_props.proofs.boxes.are_exact_under.Given as goal

-- what is left decides
abbrev pub invariant-loop-range : goal.invariant-loop-range
invariant-loop-range l = all_under_F (facts_of l.table).exactly_one l.ranges ≡ all_under_F (facts_of l.table).exactly_one (drop l.range-index l.ranges)
