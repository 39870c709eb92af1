use Rattle.std.proofs.Common.{ℕ, ◌≡◌, ◌<◌, false, get_or}
use Rattle.std.specs.List.{list_any}
use Rattle.qgm_terms.specs.Shown.{term}
use Rattle.box_exec.specs.Seekers.{left_ranges}
use Rattle.box_exec.specs.Taken.{reads_others}
use Rattle.box_exec.specs.declared.order.Seeker.{Seeker}
use Rattle.box_exec.proofs.order.next_place.Given as goal

abbrev pub invariant-loop-i : goal.invariant-loop-i
invariant-loop-i l = (k : ℕ) (s : Seeker) → k < l.i → s ≡ get_or l.left k s → list_any (λ x. reads_others (left_ranges l.left) (term x.now)) s.others.items ≡ false
