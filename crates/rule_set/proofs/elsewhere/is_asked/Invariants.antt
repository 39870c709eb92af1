use Rattle.std.proofs.Common.{◌≡◌, drop}
use Rattle.rule_set.specs.Elsewhere.{is_asked}
use Rattle.rule_set.proofs.elsewhere.is_asked.Given as goal

-- what is left decides
abbrev pub invariant-loop-r : goal.invariant-loop-r
invariant-loop-r l = is_asked l.ranges l.place ≡ is_asked (drop l.r-index l.ranges) l.i
