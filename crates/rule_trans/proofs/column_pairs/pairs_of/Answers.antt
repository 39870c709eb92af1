use Rattle.std.proofs.Common.{◌+◌, arith, drop}
use Rattle.std.proofs.lemmas.Grind.{common_steps}
use Rattle.rule_trans.specs.ColumnPairs.{has}
use Rattle.rule_trans.specs.Equalities.{is_of, is_there}
use Rattle.qgm_terms.specs.Shown.{conds}
use Rattle.rule_trans.proofs.PairSets.{rest_added}
use Rattle.rule_trans.proofs.column_pairs.pairs_of.Goals as goal
use Rattle.rule_trans.proofs.column_pairs.pairs_of.Goals.{in-Some+in_ok-add_equality, in_default}

pub loop-c-preserved : goal.loop-c-preserved
loop-c-preserved c = λ a z. elim c.match-equated.branch [
  | in-Some+in_ok-add_equality w ↦ (
      let h = rest_added (is_of a z w.in-Some.e) (has c.loop-c.pairs a z) (is_there a z (conds (drop (c.loop-c.c-index + 1) c.args.list.now))) in
      grind (arith, common_steps, h, c.loop-c.invariant a z, w.in_ok-add_equality.ensures a z))
  | in_default w ↦ grind (arith, common_steps, c.loop-c.invariant a z)
]
