use Rattle.std.proofs.Common.{◌≡◌, drop}
use Rattle.std.specs.List.{list_any}
use Rattle.qgm_terms.specs.Shown.{conds}
use Rattle.rule_trans.specs.Equalities.{is_equality}
use Rattle.rule_trans.proofs.equal_literal.has_equality.Given as goal

-- what is left decides
abbrev pub invariant-loop-c : goal.invariant-loop-c
invariant-loop-c l = list_any is_equality (conds l.list) ≡ list_any is_equality (conds (drop l.c-index l.list))
