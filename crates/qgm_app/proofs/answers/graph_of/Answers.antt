use Rattle.qgm_app.proofs.Asked.{has-tables, satisfies, sound-of}
use Rattle.qgm_app.proofs.answers.graph_of.Goals as goal

pub built_graph-requires : goal.built_graph-requires
built_graph-requires c = sound-of c.args.question.now c.requires.ready

pub returns-clause-satisfied : goal.returns-clause-satisfied
returns-clause-satisfied c = satisfies c.loaded_laws.ensures.satisfied c.args.question.now c.requires.ready c.in_ok-graph.graph c.in_ok-graph.ensures.its

pub returns-clause-rows : goal.returns-clause-rows
returns-clause-rows c = c.in_ok-graph.ensures.rows c.args.question.now.tables (has-tables c.loaded_laws.ensures.tables c.args.question.now c.requires.ready)
