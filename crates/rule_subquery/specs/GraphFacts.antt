-- What is known of a graph is what is inferred of it.
use Rattle.qgm_props.specs.Laws.{Tells}
use Rattle.qgm_props.specs.Table.{facts_of}
use Rattle.rule_subquery.specs.declared.parts.GraphFacts.{GraphFacts}

abbrev pub AreFacts : GraphFacts → Type 0
AreFacts k = Tells (facts_of k.props.now) k.graph.now.boxes
