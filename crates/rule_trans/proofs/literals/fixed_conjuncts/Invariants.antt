use Rattle.std.proofs.Common.{◌≡◌, ◌+◌, ◌++◌, drop, map}
use Rattle.qgm_terms.specs.Shown.{conds}
use Rattle.rule_trans.specs.Literals.{numbered, shown_conjunct}
use Rattle.rule_trans.proofs.literals.fixed_conjuncts.Given as goal

-- what is left adds the rest
abbrev pub invariant-loop-i : goal.invariant-loop-i
invariant-loop-i l = map shown_conjunct l.all.items ++ numbered (l.i + 1) (conds (drop l.i l.list)) ≡ numbered 1 (conds l.list)
