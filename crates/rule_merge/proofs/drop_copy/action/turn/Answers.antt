use Rattle.std.proofs.lemmas.Grind.{common_steps}
use Rattle.std.proofs.Common.{slice_index_or, arith}
use Rattle.rule_merge.proofs.DropCopyTurned.{in_index}
use Rattle.rule_merge.proofs.drop_copy.action.turn.Goals as goal

pub redirect-requires-clause-quant : goal.redirect-requires-clause-quant
redirect-requires-clause-quant c = c.loop-q.invariant.owned (slice_index_or c.args.list.now c.loop-q.q-index 0) (in_index c.args.list.now c.loop-q.q-index c.loop-q-test.true)

pub loop-q-preserved : goal.loop-q-preserved
loop-q-preserved c = grind (arith, common_steps)
