use Rattle.std.proofs.Common.{◌≡◌, drop}
use Rattle.list_laws.specs.Lists.{first}
use Rattle.qgm_terms.specs.Shown.{cond}
use Rattle.qgm_terms.specs.Wanted.{reads_cond}
use Rattle.rule_push.proofs.push_places.first_read.Given as goal

-- what is left decides
abbrev pub invariant-loop-x : goal.invariant-loop-x
invariant-loop-x l = first (λ q. reads_cond q (cond l.p)) l.names ≡ first (λ q. reads_cond q (cond l.p)) (drop l.x-index l.names)
