use Rattle.std.proofs.Common.{arith}
use Rattle.std.proofs.lemmas.Grind.{common_steps}
use Rattle.std.proofs.lemmas.Result.{IfOk-weaker}
use Rattle.qgm_app.proofs.Steps.{told-prepares}
use Rattle.qgm_app.proofs.respond.respond.Goals as goal

pub returns-in-Ok-clause-prepares : goal.returns-in-Ok-clause-prepares
returns-in-Ok-clause-prepares g c = told-prepares _ _ _ c.in-Ok.report c.said.result c.in-Ok.ensures.comes c.said.ensures

pub returns-in-Ok-clause-counts : goal.returns-in-Ok-clause-counts
returns-in-Ok-clause-counts g c = IfOk-weaker c.said.result _ _ (λ said h less. (c.in-Ok.report, h, c.in-Ok.ensures.counts)) c.said.ensures

pub returns-in-Err-ReadFault-clause-counts : goal.returns-in-Err-ReadFault-clause-counts
returns-in-Err-ReadFault-clause-counts g c = grind (arith, common_steps)

pub returns-in-Ok-clause-usage : goal.returns-in-Ok-clause-usage
returns-in-Ok-clause-usage g c = grind (arith, common_steps)

pub returns-in-Ok-clause-failed : goal.returns-in-Ok-clause-failed
returns-in-Ok-clause-failed g c = grind (arith, common_steps)

pub returns-in-Ok-clause-no_line : goal.returns-in-Ok-clause-no_line
returns-in-Ok-clause-no_line g c = grind (arith, common_steps)

pub returns-in-Err-ReadFault-clause-usage : goal.returns-in-Err-ReadFault-clause-usage
returns-in-Err-ReadFault-clause-usage g c = grind (arith, common_steps)

pub returns-in-Err-ReadFault-clause-failed : goal.returns-in-Err-ReadFault-clause-failed
returns-in-Err-ReadFault-clause-failed g c = grind (arith, common_steps)

pub returns-in-Err-Memory-clause-no_line : goal.returns-in-Err-Memory-clause-no_line
returns-in-Err-Memory-clause-no_line g c = grind (arith, common_steps)

pub returns-in-Err-ReadFault-clause-no_line : goal.returns-in-Err-ReadFault-clause-no_line
returns-in-Err-ReadFault-clause-no_line g c = grind (arith, common_steps)

pub returns-in-Err-Memory-clause-prepares : goal.returns-in-Err-Memory-clause-prepares
returns-in-Err-Memory-clause-prepares g c = grind (arith, common_steps)

pub returns-in-Err-ReadFault-clause-status : goal.returns-in-Err-ReadFault-clause-status
returns-in-Err-ReadFault-clause-status g c = grind (arith, common_steps)

pub returns-in-Ok-clause-status : goal.returns-in-Ok-clause-status
returns-in-Ok-clause-status g c = grind (arith, common_steps)
