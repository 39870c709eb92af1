use Rattle.std.proofs.Common.{◌≡◌, drop}
use Rattle.qgm_terms.specs.Shown.{cond}
use Rattle.rule_push.specs.PushPlaces.{reads_other}
use Rattle.rule_push.proofs.push_places.reads_other.Given as goal

-- what is left decides
abbrev pub invariant-loop-x : goal.invariant-loop-x
invariant-loop-x l = reads_other l.q (cond l.p) (drop l.x-index l.names) ≡ reads_other l.q (cond l.p) l.names
