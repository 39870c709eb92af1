use Rattle.std.proofs.Common.{arith}
use Rattle.std.proofs.lemmas.Grind.{common_steps}
use Rattle.qgm_wellformed.proofs.Tables.{unequal-columns}
use Rattle.qgm_wellformed.proofs.types.same_columns.Goals as goal

pub returns-then-a-b : goal.returns-then-a-b
returns-then-a-b c = unequal-columns c.args.a.now c.args.b.now (λ p. grind (arith, common_steps, p, c.if-a-b.true))

pub loop-i-preserved : goal.loop-i-preserved
loop-i-preserved c = grind (arith, common_steps)

pub returns-then-not-same_type : goal.returns-then-not-same_type
returns-then-not-same_type c = grind (arith, common_steps)

pub returns : goal.returns
returns c = grind (arith, common_steps)
