use Rattle.std.proofs.Common.{List, arith, ap, sym, ◌∙◌}
use Rattle.std.specs.Borrow.{Bor}
use Rattle.std.specs.List.{list_any}
use Rattle.qgm_terms.specs.Shown.{term}
use Rattle.qgm_terms.specs.declared.tree.Gx.{Gx}
use Rattle.box_exec.specs.Seekers.{left_ranges}
use Rattle.box_exec.specs.Taken.{reads_others}
use Rattle.box_exec.specs.declared.order.Seeker.{Seeker}
use Rattle.box_exec.proofs.Turns.{next-is, next-none}
use Rattle.box_exec.proofs.order.next_place.Goals as goal

pub returns-then-branch-clause-next : goal.returns-then-branch-clause-next
returns-then-branch-clause-next c = λ n all.
    let left = c.args.left.now in
    next-is n left all c.loop-i.i c.index-left-i.result c.loop-i-test.true c.index-left-i.is
    (ap (λ (xs : List (Bor Gx)). list_any (λ (x : Bor Gx). reads_others (left_ranges left) (term x.now)) xs) (ap (λ (s : Seeker). s.others.items) c.index-left-i.is ∙ sym c.deref.ensures.value) ∙ sym c.in_ok-any_reads_others.ensures ∙ c.if-branch.true) c.loop-i.invariant

pub returns-clause-next : goal.returns-clause-next
returns-clause-next c = λ n all.
    let past = c.loop-i-test.false in
    next-none n c.args.left.now all (λ k s l at. c.loop-i.invariant k s (omega (arith, l, past)) at)
