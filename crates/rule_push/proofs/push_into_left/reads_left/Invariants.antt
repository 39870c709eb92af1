use Rattle.std.proofs.Common.{◌≡◌, ◌||◌, not, drop}
use Rattle.std.specs.List.{list_all}
use Rattle.qgm_terms.specs.Shown.{cond}
use Rattle.qgm_terms.specs.Substitution.{cell_at}
use Rattle.qgm_terms.specs.Wanted.{reads_at_cond}
use Rattle.qgm_terms.specs.declared.named.Column.{Column}
use Rattle.rule_push.specs.PushIntoLeft.{is_column_of}
use Rattle.rule_push.specs.PushPlaces.{reads_only}
use Rattle.rule_push.proofs.push_into_left.reads_left.Given as goal

-- what is left decides
abbrev pub invariant-loop-x : goal.invariant-loop-x
invariant-loop-x l = list_all (λ (x : Column). is_column_of l.s (cell_at x.place l.head) || not (reads_at_cond l.r x.place (cond l.p))) (drop l.x-index l.x-items) ≡ reads_only (λ k. is_column_of l.s (cell_at k l.head)) l.r (cond l.p)
