use Rattle.std.proofs.Common.{◌≡◌, cond, drop}
use Rattle.std.specs.List.{list_any}
use Rattle.qgm_terms.specs.Shown.{conds}
use Rattle.rule_trans.specs.Equalities.{has_two, is_equality}
use Rattle.rule_trans.proofs.equalities.has_two.Given as goal

-- what is left decides
abbrev pub invariant-loop-c : goal.invariant-loop-c
invariant-loop-c l = has_two (conds l.list) ≡ cond l.has_one (list_any is_equality (conds (drop l.c-index l.list))) (has_two (conds (drop l.c-index l.list)))
