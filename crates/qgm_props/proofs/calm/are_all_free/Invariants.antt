use Rattle.std.proofs.Common.{◌≡◌}
use Rattle.qgm_props.specs.Inferred.{all_places}
use Rattle.qgm_props.specs.Table.{facts_of}
use Rattle.qgm_props.proofs.calm.are_all_free.Given as goal

-- what is left decides
abbrev pub invariant-loop-k : goal.invariant-loop-k
invariant-loop-k l = all_places l.width ((facts_of l.table).error_free l.b) ≡ all_places l.k ((facts_of l.table).error_free l.b)

abbrev pub decreases-loop-k : goal.decreases-loop-k
decreases-loop-k l = l.k
