use Rattle.std.proofs.Common.{◌&&◌, ◌∙◌, ap₂}
use Rattle.qgm_props.specs.Inferred.{clean, exactly_one}
use Rattle.qgm_props.specs.Table.{facts_of}
use Rattle.rule_facts.specs.Told.{told-is}
use Rattle.rule_prune.proofs.drop_quantifier.condition.has_one_row.Goals as goal

pub returns : goal.returns
returns c =
    c.both.ensures
    ∙ ap₂ (λ x y. x && y) (c.clean.ensures ∙ told-is c.args.graph.now.boxes (facts_of c.args.facts.now) c.requires (clean c.args.b)) (c.exactly_one.ensures ∙ told-is c.args.graph.now.boxes (facts_of c.args.facts.now) c.requires (exactly_one c.args.b))
