use Rattle.std.proofs.Common.{◌≡◌}
use Rattle.qgm_props.specs.Keys.{all_within}
use Rattle.qgm_props.proofs.keys.are_all_within.Given as goal

-- what is left decides
abbrev pub invariant-loop-k : goal.invariant-loop-k
invariant-loop-k l = all_within l.width l.columns ≡ all_within l.k l.columns

abbrev pub decreases-loop-k : goal.decreases-loop-k
decreases-loop-k l = l.k
