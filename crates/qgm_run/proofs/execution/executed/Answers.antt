use Rattle.qgm_run.proofs.Fit.{evaluates_of_formed}
use Rattle.qgm_run.proofs.execution.executed.Goals as goal

pub returns-clause-evaluates : goal.returns-clause-evaluates
returns-clause-evaluates g c =
    let count = c.in_ok-rows.ensures in
    evaluates_of_formed c.execution_laws.ensures.bound c.args.tables c.args.graph.now c.args.steps.now c.execute_owned.new.steps c.each_number_once.ensures c.requires count.exact count.at_least_closed count.at_most_plain
