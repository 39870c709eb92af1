use Rattle.std.proofs.Common.{◌≡◌, drop, map}
use Rattle.rule_trans.specs.Literals.{has_literal, shown, shown_conjunct}
use Rattle.rule_trans.proofs.literals.is_there.Given as goal

-- what is left decides
abbrev pub invariant-loop-f : goal.invariant-loop-f
invariant-loop-f l = has_literal l.a (shown l.x) (map shown_conjunct l.all) ≡ has_literal l.a (shown l.x) (map shown_conjunct (drop l.f-index l.all))
