use Rattle.std.proofs.Common.{◌∙◌}
use Rattle.qgm_props.specs.Inferred.{error_free}
use Rattle.qgm_props.specs.Table.{facts_of}
use Rattle.rule_facts.specs.Told.{told-is}
use Rattle.rule_subquery.proofs.parts.is_error_free.Goals as goal

pub returns : goal.returns
returns c = c.error_free.ensures ∙ told-is c.args.k.now.graph.now.boxes (facts_of c.args.k.now.props.now) c.requires (error_free c.args.b c.args.column)
