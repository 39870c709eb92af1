use Rattle.std.proofs.Common.{◌≡◌, drop}
use Rattle.qgm_terms.specs.Shown.{conds}
use Rattle.rule_subquery.specs.ExistsToJoin.{one_whole}
use Rattle.rule_subquery.proofs.exists_to_join.conjunct.one_whole.Given as goal

-- what is left tells all
abbrev pub invariant-loop-i : goal.invariant-loop-i
invariant-loop-i l = one_whole l.q (conds (drop l.i l.list)) ≡ one_whole l.q (conds l.list)
