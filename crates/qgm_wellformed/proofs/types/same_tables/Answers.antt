use Rattle.std.proofs.Common.{arith}
use Rattle.std.proofs.lemmas.Grind.{common_steps}
use Rattle.qgm_wellformed.proofs.Tables.{unequal-tables}
use Rattle.qgm_wellformed.proofs.types.same_tables.Goals as goal

pub returns-then-a-b : goal.returns-then-a-b
returns-then-a-b c = unequal-tables c.args.a.now c.args.b.now (λ p. grind (arith, common_steps, p, c.if-a-b.true))

pub returns : goal.returns
returns c = grind (arith, common_steps)

pub returns-then-not-same_typed : goal.returns-then-not-same_typed
returns-then-not-same_typed c = grind (arith, common_steps)

pub loop-i-preserved : goal.loop-i-preserved
loop-i-preserved c = grind (arith, common_steps)
