use Rattle.std.proofs.Common.{◌∙◌}
use Rattle.qgm_props.specs.Inferred.{at_most_one}
use Rattle.qgm_props.specs.Table.{facts_of}
use Rattle.rule_facts.specs.Told.{told-is}
use Rattle.rule_subquery.proofs.parts.has_at_most_one.Goals as goal

pub returns : goal.returns
returns c = c.at_most_one.ensures ∙ told-is c.args.k.now.graph.now.boxes (facts_of c.args.k.now.props.now) c.requires (at_most_one c.args.b)
