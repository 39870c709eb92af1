use Rattle.std.proofs.Common.{◌≡◌, drop}
use Rattle.std.specs.List.{list_any}
use Rattle.qgm_terms.specs.Shown.{term}
use Rattle.box_exec.specs.Seekers.{left_ranges}
use Rattle.box_exec.specs.Taken.{reads_others}
use Rattle.box_exec.proofs.order.any_reads_others.Given as goal

abbrev pub invariant-loop-x : goal.invariant-loop-x
invariant-loop-x l = list_any (λ x. reads_others (left_ranges l.left) (term x.now)) (drop l.x-index l.others) ≡ list_any (λ x. reads_others (left_ranges l.left) (term x.now)) l.others
