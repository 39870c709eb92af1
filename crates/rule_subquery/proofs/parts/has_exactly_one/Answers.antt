use Rattle.std.proofs.Common.{◌∙◌}
use Rattle.qgm_props.specs.Inferred.{exactly_one}
use Rattle.qgm_props.specs.Table.{facts_of}
use Rattle.rule_facts.specs.Told.{told-is}
use Rattle.rule_subquery.proofs.parts.has_exactly_one.Goals as goal

pub returns : goal.returns
returns c = c.exactly_one.ensures ∙ told-is c.args.k.now.graph.now.boxes (facts_of c.args.k.now.props.now) c.requires (exactly_one c.args.b)
