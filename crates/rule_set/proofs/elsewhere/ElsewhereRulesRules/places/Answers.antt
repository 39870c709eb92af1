use Rattle.std.proofs.Common.{filter, not, ap, ◌∙◌}
use Rattle.std.proofs.lemmas.Result.{IfOk-weaker}
use Rattle.rule_api.specs.Rules.{place_at}
use Rattle.rule_api.specs.declared.place.Place.{Place}
use Rattle.rule_set.specs.Built.{built_pairs}
use Rattle.rule_set.specs.Elsewhere.{feeds_asked}
use Rattle.rule_set.proofs.Filters.{filter-map}
use Rattle.rule_set.proofs.elsewhere.ElsewhereRulesRules.places.Goals as goal

pub returns-clause-list : goal.returns-clause-list
returns-clause-list c =
    IfOk-weaker c.others.result _ _
    (λ v is.
    is
    ∙ ap (filter (λ (p : Place). not (feeds_asked c.args.rule c.args.graph.now p))) (c.deref.ensures.value ∙ c.in_ok-places.ensures.list)
    ∙ filter-map (place_at c.args.b) (λ (p : Place). not (feeds_asked c.args.rule c.args.graph.now p)) (built_pairs c.args.rule c.args.graph.now c.args.b))
    c.others.ensures
