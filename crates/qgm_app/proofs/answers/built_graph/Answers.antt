use Rattle.qgm_app.proofs.Asked.{is-built, is-query}
use Rattle.qgm_app.proofs.answers.built_graph.Goals as goal

pub build-requires : goal.build-requires
build-requires c = record { query = is-query c.args.question.now c.requires }

pub returns-clause-built : goal.returns-clause-built
returns-clause-built c = is-built c.args.question.now c.requires c.in_ok-graph.graph c.in_ok-graph.ensures.built

pub returns-clause-its : goal.returns-clause-its
returns-clause-its c = c.in_ok-graph.ensures.built

pub returns-clause-rows : goal.returns-clause-rows
returns-clause-rows c = c.in_ok-graph.ensures.rows

pub returns-clause-formed : goal.returns-clause-formed
returns-clause-formed c = (c.fault_laws.ensures.none c.in_ok-graph.graph c.each_number_once.ensures).0 c.in_ok-graph.ensures.formed
