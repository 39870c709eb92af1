use Rattle.std.proofs.Common.{◌≡◌, drop}
use Rattle.qgm_props.specs.Calm.{is_closed}
use Rattle.qgm_props.specs.Inferred.{all_under}
use Rattle.qgm_props.proofs.calm.are_closed_under.Given as goal

-- what is left decides
abbrev pub invariant-loop-range : goal.invariant-loop-range
invariant-loop-range l = all_under (is_closed l.boxes) l.ranges ≡ all_under (is_closed l.boxes) (drop l.range-index l.ranges)
