use Rattle.std.proofs.Common.{◌≡◌, ◌<◌, List, true, false, length, map, rules, is_some}
use Rattle.std.specs.Prelude.{slice_get}
use Rattle.rule_api.specs.Rules.{place_at}
use Rattle.rule_api.specs.declared.place.Firing.{Firing}
use Rattle.rule_api.specs.declared.rule_id.RuleId.{RuleId}
use Rattle.rule_api.specs.declared.rule_id.RuleId.TheVariants.{M1}
use Rattle.rule_engine.specs.Control.{at_box, firing}
use Rattle.rule_engine.proofs.First.{found-behind, found-here}
use Rattle.rule_engine.proofs.selection.first_at_box.Goals as goal

pub returns-then-is_some-clause-found : goal.returns-then-is_some-clause-found
returns-then-is_some-clause-found g c =
    let f : RuleId → List Firing = λ r. map (firing r) (map (place_at c.args.b) (g.T.Rules.pairs c.args.table.now r c.args.graph.now c.args.b)) in
    let within : c.loop-rule.rule-index < length c.args.rules.now = search rules in
    let found : is_some c.in_ok-found.found ≡ true = search rules in
    found-here f c.loop-rule.rule-index c.args.rules.now M1 c.in_ok-found.found (slice_get (at_box (g.T.Rules.pairs c.args.table.now) c.args.rules.now c.args.graph.now c.args.b) 0)
    within c.in_ok-found.ensures.found found c.loop-rule.invariant.found

pub loop-rule-preserved : goal.loop-rule-preserved
loop-rule-preserved g c =
    let f : RuleId → List Firing = λ r. map (firing r) (map (place_at c.args.b) (g.T.Rules.pairs c.args.table.now r c.args.graph.now c.args.b)) in
    let within : c.loop-rule.rule-index < length c.args.rules.now = search rules in
    let none : is_some c.in_ok-found.found ≡ false = search rules in
    record {
      found = found-behind f c.loop-rule.rule-index c.args.rules.now M1 c.in_ok-found.found (slice_get (at_box (g.T.Rules.pairs c.args.table.now) c.args.rules.now c.args.graph.now c.args.b) 0)
          within c.in_ok-found.ensures.found none c.loop-rule.invariant.found;
      known = c.in_ok-found.ensures.known;
    }
