use Rattle.std.proofs.Common.{◌≡◌, ◌||◌, nat_le, not, drop}
use Rattle.std.specs.List.{list_all}
use Rattle.qgm_terms.specs.Shown.{cond}
use Rattle.qgm_terms.specs.Wanted.{reads_at_cond}
use Rattle.qgm_terms.specs.declared.named.Column.{Column}
use Rattle.rule_push.specs.PushPlaces.{reads_only}
use Rattle.rule_push.proofs.push_through_group.reads_keys.Given as goal

-- what is left decides
abbrev pub invariant-loop-x : goal.invariant-loop-x
invariant-loop-x l = list_all (λ (x : Column). nat_le x.place l.keys || not (reads_at_cond l.r x.place (cond l.p))) (drop l.x-index l.x-items) ≡ reads_only (λ j. nat_le j l.keys) l.r (cond l.p)
