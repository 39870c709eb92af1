use Rattle.std.proofs.Common.{◌-◌, ◌++◌, ◌∙◌, ap, arith}
use Rattle.std.proofs.lemmas.Grind.{common_steps}
use Rattle.qgm_props.specs.InferredKeys.{places_to}
use Rattle.rule_subquery.proofs.ExistsToJoinTerms.{places-step}
use Rattle.rule_subquery.proofs.exists_to_join.condition.places_to.Goals as goal

pub loop-left-preserved : goal.loop-left-preserved
loop-left-preserved c = ap (λ z. z ++ places_to (c.loop-left.left - 1)) c.in_ok-push.ensures.items ∙ places-step c.loop-left.out.items c.loop-left.left (grind (arith, common_steps)) ∙ c.loop-left.invariant
