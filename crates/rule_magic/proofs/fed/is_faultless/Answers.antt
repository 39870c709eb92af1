use Rattle.std.proofs.Common.{◌&&◌, ◌∙◌, ap, ap₂}
use Rattle.qgm_props.specs.Inferred.{all_places}
use Rattle.qgm_props.specs.Table.{facts_of}
use Rattle.rule_magic.proofs.FedCondition.{faultless-told}
use Rattle.rule_magic.proofs.fed.is_faultless.Goals as goal

pub returns-clause-test : goal.returns-clause-test
returns-clause-test c =
    let known = facts_of c.in_ok-facts.facts in
    c.both-fits.ensures
    ∙ ap₂ (λ x y. x && y) c.clean.ensures (c.all_free.ensures ∙ ap (λ w. all_places w (known.error_free c.args.m.now.id)) c.width.ensures)
    ∙ faultless-told c.args.graph.now.boxes known c.in_ok-facts.ensures.told c.args.m.now
