use Rattle.std.proofs.Common.{◌≡◌, drop}
use Rattle.list_laws.specs.Lists.{first}
use Rattle.qgm_terms.specs.Shown.{cond}
use Rattle.rule_push.specs.PushPlaces.{is_read}
use Rattle.rule_push.proofs.push_places.read_quant.Given as goal

-- what is left decides
abbrev pub invariant-loop-r : goal.invariant-loop-r
invariant-loop-r l = first (is_read (cond l.p)) l.ranges ≡ first (is_read (cond l.p)) (drop l.r-index l.ranges)
