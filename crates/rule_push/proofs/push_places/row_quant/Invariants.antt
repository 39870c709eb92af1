use Rattle.std.proofs.Common.{◌≡◌, drop}
use Rattle.rule_push.specs.OneRead.{row_quant}
use Rattle.rule_push.proofs.push_places.row_quant.Given as goal

-- what is left decides
abbrev pub invariant-loop-r : goal.invariant-loop-r
invariant-loop-r l = row_quant l.q l.ranges ≡ row_quant l.q (drop l.r-index l.ranges)
