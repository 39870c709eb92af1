use Rattle.std.proofs.Common.{arith}
use Rattle.std.proofs.lemmas.Grind.{common_steps}
use Rattle.sql_catalog.proofs.declare.add.Goals as goal

pub returns-in_ok-push-in-Table-clause-views : goal.returns-in_ok-push-in-Table-clause-views
returns-in_ok-push-in-Table-clause-views c = grind (arith, common_steps)

pub returns-in_ok-push-in-View-clause-views : goal.returns-in_ok-push-in-View-clause-views
returns-in_ok-push-in-View-clause-views c = grind (arith, common_steps)

pub returns-in_ok-push-in-Table-clause-tables : goal.returns-in_ok-push-in-Table-clause-tables
returns-in_ok-push-in-Table-clause-tables c = grind (arith, common_steps)

pub returns-in_ok-push-in-View-clause-tables : goal.returns-in_ok-push-in-View-clause-tables
returns-in_ok-push-in-View-clause-tables c = grind (arith, common_steps)
