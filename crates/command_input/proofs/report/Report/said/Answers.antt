use Rattle.std.proofs.Common.{arith}
use Rattle.std.proofs.lemmas.Grind.{common_steps}
use Rattle.command_input.proofs.report.Report.said.Goals as goal

pub returns-in_ok-line-in-QueryRefused : goal.returns-in_ok-line-in-QueryRefused
returns-in_ok-line-in-QueryRefused c = grind (arith, common_steps)

pub returns-in_ok-line-in-SchemaRefused : goal.returns-in_ok-line-in-SchemaRefused
returns-in_ok-line-in-SchemaRefused c = grind (arith, common_steps)
