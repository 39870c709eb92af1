use Rattle.std.proofs.Common.{◌≡◌, ◌+◌, ◌<◌, ◌≤◌, List, Option, Some, length, slice_get, ap, ◌∙◌, sym, subst, arith}
use Rattle.qgm_core.specs.Boxes.{quants_in}
use Rattle.qgm_core.specs.declared.kinds.QuantKind.TheVariants.{F}
use Rattle.qgm_core.specs.declared.node.Node.{Node}
use Rattle.qgm_core.specs.declared.owned.OwnedQuant.{OwnedQuant}
use Rattle.qgm_core.proofs.Counted.{at-get}
use Rattle.qgm_core.proofs.Shifts.{Owned, owned-done, owned-passed, owned-shifted}
use Rattle.qgm_core.proofs.shifted.shift_owned.Goals as goal
use Rattle.qgm_core.proofs.shifted.shift_owned.Goals.{then-range-b, else-range-b}

pub loop-j-preserved : goal.loop-j-preserved
loop-j-preserved c =
    let start = c.args.nodes.now.items in
    let now = c.loop-j.nodes.items in
    let all : c.as_slice-j-end.result.now ≡ quants_in (slice_get start c.args.i) = c.as_slice-j-end.ensures ∙ ap (λ (o : Option Node). quants_in o) (ap (λ (n : Node). Some n) c.index.ensures ∙ sym (at-get start c.args.i c.index.result.now c.requires)) in
    let same = c.loop-j.invariant.same in
    let in_now : c.args.i < length now = omega (arith, same, c.requires) in
    let here : c.as_slice.result.now ≡ quants_in (slice_get start c.args.i) = c.as_slice.ensures ∙ ap (λ (o : Option Node). quants_in o) (ap (λ (n : Node). Some n) c.index-in-loop-j.ensures ∙ sym (at-get now c.args.i c.index-in-loop-j.result.now in_now)) ∙ c.loop-j.invariant.kept in
    let l : c.loop-j.j < length c.as_slice.result.now = subst (λ (rs : List OwnedQuant). c.loop-j.j < length rs) (all ∙ sym here) c.loop-j-test.true in
    let none : OwnedQuant = record { id = 0; kind = F; over = 0 } in
    let known = Owned c.args.b c.args.k c.args.i (c.loop-j.j + 1) start in
    elim c.if-range-b.branch [
      | then-range-b w ↦ rw w.nodes-is (subst known (sym w.shift_nodes.ensures) (owned-shifted c.args.b c.args.k c.args.i c.loop-j.j start now c.as_slice.result.now none here l c.loop-j.invariant w.if-range-b.true))
      | else-range-b w ↦ rw w.nodes-is (owned-passed c.args.b c.args.k c.args.i c.loop-j.j start now c.as_slice.result.now none here l c.loop-j.invariant w.if-range-b.false)
    ]

pub returns : goal.returns
returns c =
    let start = c.args.nodes.now.items in
    let all : c.as_slice-j-end.result.now ≡ quants_in (slice_get start c.args.i) = c.as_slice-j-end.ensures ∙ ap (λ (o : Option Node). quants_in o) (ap (λ (n : Node). Some n) c.index.ensures ∙ sym (at-get start c.args.i c.index.result.now c.requires)) in
    owned-done c.args.b c.args.k c.args.i c.loop-j.j start c.loop-j.nodes.items (subst (λ (rs : List OwnedQuant). length rs ≤ c.loop-j.j) all c.loop-j-test.false) c.loop-j.invariant

pub bounds-as_slice-j : goal.bounds-as_slice-j
bounds-as_slice-j c =
    let start = c.args.nodes.now.items in
    let now = c.loop-j.nodes.items in
    let all : c.as_slice-j-end.result.now ≡ quants_in (slice_get start c.args.i) = c.as_slice-j-end.ensures ∙ ap (λ (o : Option Node). quants_in o) (ap (λ (n : Node). Some n) c.index.ensures ∙ sym (at-get start c.args.i c.index.result.now c.requires)) in
    let same = c.loop-j.invariant.same in
    let in_now : c.args.i < length now = omega (arith, same, c.requires) in
    let here : c.as_slice.result.now ≡ quants_in (slice_get start c.args.i) = c.as_slice.ensures ∙ ap (λ (o : Option Node). quants_in o) (ap (λ (n : Node). Some n) c.index-in-loop-j.ensures ∙ sym (at-get now c.args.i c.index-in-loop-j.result.now in_now)) ∙ c.loop-j.invariant.kept in
    subst (λ (rs : List OwnedQuant). c.loop-j.j < length rs) (all ∙ sym here) c.loop-j-test.true
