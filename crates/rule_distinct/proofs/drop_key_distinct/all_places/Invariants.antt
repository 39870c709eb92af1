use Rattle.std.proofs.Common.{◌≡◌, ◌++◌}
use Rattle.qgm_props.specs.InferredKeys.{places_to}
use Rattle.rule_distinct.proofs.drop_key_distinct.all_places.Given as goal

abbrev pub invariant-loop-k : goal.invariant-loop-k
invariant-loop-k l = l.out.items ++ places_to l.k ≡ places_to l.width

abbrev pub decreases-loop-k : goal.decreases-loop-k
decreases-loop-k l = l.k
