use Rattle.std.proofs.Common.{◌≡◌, drop}
use Rattle.qgm_core.specs.Boxes.{is_quant}
use Rattle.list_laws.specs.Lists.{first}
use Rattle.rule_trans.proofs.known.range_at.Given as goal

-- what is left decides
abbrev pub invariant-loop-range : goal.invariant-loop-range
invariant-loop-range l = first (is_quant l.q) l.ranges ≡ first (is_quant l.q) (drop l.range-index l.ranges)
