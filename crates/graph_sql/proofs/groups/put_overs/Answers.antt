use Rattle.std.proofs.Common.{arith}
use Rattle.std.proofs.lemmas.Grind.{common_steps}
use Rattle.graph_sql.proofs.groups.put_overs.Goals as goal

pub loop-i-preserved : goal.loop-i-preserved
loop-i-preserved c = λ n. grind (arith, common_steps, c.loop-i.invariant n, c.put_over.ensures n)

pub returns : goal.returns
returns c = λ n. grind (arith, common_steps, c.loop-i.invariant n)
