use Rattle.std.proofs.Common.{◌&&◌, false, ap, ◌∙◌}
use Rattle.qgm_props.specs.Inferred.{Facts, cond_free}
use Rattle.qgm_props.specs.Table.{facts_of}
use Rattle.qgm_terms.specs.Shown.{cond}
use Rattle.rule_push.specs.Decided.{facts-are}
use Rattle.rule_push.proofs.decided.is_decided.Goals as goal

pub returns-clause-test : goal.returns-clause-test
returns-clause-test c = c.in_ok-told.ensures
    ∙ ap (λ (k : Facts). k.clean c.args.c.now.id && cond_free c.args.graph.now.boxes k false (cond c.args.p.now)) (facts-are c.args.graph.now.boxes (facts_of c.in_ok-facts.facts) c.in_ok-facts.ensures.told)
