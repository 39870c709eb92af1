use Rattle.std.proofs.Common.{◌≡◌}
use Rattle.qgm_props.specs.Inferred.{all_places}
use Rattle.qgm_props.specs.Table.{facts_of}
use Rattle.rule_magic.proofs.fed.all_free.Given as goal

-- what is left tells all
abbrev pub invariant-loop-left : goal.invariant-loop-left
invariant-loop-left l = all_places l.left ((facts_of l.facts).error_free l.b) ≡ all_places l.w ((facts_of l.facts).error_free l.b)

abbrev pub decreases-loop-left : goal.decreases-loop-left
decreases-loop-left l = l.left
