use Rattle.std.proofs.Common.{◌∙◌}
use Rattle.qgm_props.specs.Inferred as spec
use Rattle.qgm_props.specs.Table.{facts_of}
use Rattle.rule_facts.specs.Told.{told-is}
use Rattle.rule_facts.proofs.told.infers_clean.Goals as goal

pub returns-clause-told : goal.returns-clause-told
returns-clause-told c = c.clean-told.ensures ∙ told-is c.args.graph.now.boxes (facts_of c.in_ok-facts.facts) c.in_ok-facts.ensures.told (spec.clean c.args.b)
