use Rattle.std.proofs.Common.{◌≡◌, take}
use Rattle.qgm_terms.specs.Shown.{conds}
use Rattle.rule_subquery.specs.ExistsToJoinSteps.{joined_conds}
use Rattle.rule_subquery.proofs.exists_to_join.conjunct.joined_conds.Given as goal

abbrev pub invariant-loop-x : goal.invariant-loop-x
invariant-loop-x l = record {
  so_far : l.all.items ≡ joined_conds l.q (conds (take l.x-index l.x-items));
  none_spare : l.all.spare ≡ 0;
}
