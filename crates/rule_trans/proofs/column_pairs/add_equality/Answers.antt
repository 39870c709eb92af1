use Rattle.std.proofs.Common.{arith}
use Rattle.std.proofs.lemmas.Grind.{common_steps}
use Rattle.rule_trans.specs.ColumnPairs.{has}
use Rattle.rule_trans.proofs.PairSets.{both_added}
use Rattle.rule_trans.proofs.column_pairs.add_equality.Goals as goal

pub returns : goal.returns
returns c = λ a z. let h = both_added a z c.args.e (has c.args.pairs.now a z) in grind (arith, common_steps, h, c.in_ok-add_pair.ensures a z, c.in_ok-add_pair-2.ensures a z)
