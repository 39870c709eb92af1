use Rattle.std.proofs.Common.{arith}
use Rattle.std.proofs.lemmas.Grind.{common_steps}
use Rattle.graph_sql.proofs.groups.is_any_wrapped.Goals as goal

pub loop-x-preserved : goal.loop-x-preserved
loop-x-preserved c = λ n. grind (arith, common_steps, c.loop-x.invariant n, c.is_wrapped.ensures n)

pub returns-then-is_wrapped : goal.returns-then-is_wrapped
returns-then-is_wrapped c = λ n. grind (arith, common_steps, c.loop-x.invariant n, c.is_wrapped.ensures n)

pub returns : goal.returns
returns c = λ n. grind (arith, common_steps, c.loop-x.invariant n)
