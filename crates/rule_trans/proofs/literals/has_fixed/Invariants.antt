use Rattle.std.proofs.Common.{◌≡◌, drop}
use Rattle.qgm_terms.specs.Shown.{conds}
use Rattle.rule_trans.specs.Literals.{has_fixed}
use Rattle.rule_trans.proofs.literals.has_fixed.Given as goal

-- what is left decides
abbrev pub invariant-loop-c : goal.invariant-loop-c
invariant-loop-c l = has_fixed (conds l.list) ≡ has_fixed (conds (drop l.c-index l.list))
