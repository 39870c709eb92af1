use Rattle.std.proofs.lemmas.Grind.{common_steps}
use Rattle.std.proofs.Common.{◌≡◌, ◌+◌, Some, slice_get, map, take, List, ap, sym, ◌∙◌, arith}
use Rattle.std.proofs.lemmas.List.{take_all}
use Rattle.qgm_core.specs.Boxes.{overs_in, overs_of}
use Rattle.list_laws.specs.Lists.{times}
use Rattle.qgm_core.specs.declared.kinds.QuantKind.TheVariants.{F}
use Rattle.qgm_core.specs.declared.node.Node.{Node}
use Rattle.qgm_core.specs.declared.owned.OwnedQuant.{OwnedQuant}
use Rattle.qgm_core.proofs.Counted.{at-get, range-passed, range-used, times-taken, uses-most, uses-step}
use Rattle.qgm_core.proofs.uses.uses_in.Goals.{then-range-b, else-range-b}
use Rattle.qgm_core.proofs.uses.uses_in.Goals as goal

pub overflow_add-total : goal.overflow_add-total
overflow_add-total c =
    let b = c.args.b in
    let rs = c.as_slice-range-items.result.now in
    let j = c.loop-range.range-index in
    let now : c.loop-range.total ≡ c.loop-node.total + times b (map (λ r. r.over) (take j rs)) = c.loop-range.invariant in
    let ns = c.args.nodes.now in
    let i = c.loop-node.node-index in
    let n = c.node-item.result in
    let l = c.loop-node-test.true in
    let at : slice_get ns i ≡ Some n = at-get ns i n (omega (arith, l)) ∙ ap (λ (n : Node). Some n) (sym c.node-item.is) in
    let step = uses-step b ns i n at in
    let own : times b (map (λ r. r.over) rs) ≡ times b (overs_of n) = ap (λ (rs : List OwnedQuant). times b (map (λ r. r.over) rs)) c.as_slice-range-items.ensures in
    let before : c.loop-node.total ≡ times b (overs_in (take i ns)) = c.loop-node.invariant in
    let none : OwnedQuant = record { id = 0; kind = F; over = 0 } in
    let used = range-used b rs j none c.loop-range-test.true c.if-range-b.true in
    let some = times-taken b rs (j + 1) in
    let most = uses-most b ns (i + 1) in
    let q = c.requires in
    omega (arith, now, step, own, before, used, some, most, q, c.ranges.most)

pub loop-range-preserved : goal.loop-range-preserved
loop-range-preserved c =
    let b = c.args.b in
    let rs = c.as_slice-range-items.result.now in
    let j = c.loop-range.range-index in
    let now : c.loop-range.total ≡ c.loop-node.total + times b (map (λ r. r.over) (take j rs)) = c.loop-range.invariant in
    let none : OwnedQuant = record { id = 0; kind = F; over = 0 } in
    elim c.if-range-b.branch [
      | then-range-b w ↦ let used = range-used b rs j none c.loop-range-test.true w.if-range-b.true in w.total-is ∙ omega (arith, now, used)
      | else-range-b w ↦ let passed = range-passed b rs j none c.loop-range-test.true w.if-range-b.false in w.total-is ∙ omega (arith, now, passed)
    ]

pub loop-node-preserved : goal.loop-node-preserved
loop-node-preserved c =
    let b = c.args.b in
    let rs = c.as_slice-range-items.result.now in
    let j = c.loop-range.range-index in
    let now : c.loop-range.total ≡ c.loop-node.total + times b (map (λ r. r.over) (take j rs)) = c.loop-range.invariant in
    let ns = c.args.nodes.now in
    let i = c.loop-node.node-index in
    let n = c.node-item.result in
    let l = c.loop-node-test.true in
    let at : slice_get ns i ≡ Some n = at-get ns i n (omega (arith, l)) ∙ ap (λ (n : Node). Some n) (sym c.node-item.is) in
    let step = uses-step b ns i n at in
    let own : times b (map (λ r. r.over) rs) ≡ times b (overs_of n) = ap (λ (rs : List OwnedQuant). times b (map (λ r. r.over) rs)) c.as_slice-range-items.ensures in
    let before : c.loop-node.total ≡ times b (overs_in (take i ns)) = c.loop-node.invariant in
    let all = ap (λ (rs : List OwnedQuant). times b (map (λ r. r.over) rs)) (take_all j rs c.loop-range-test.false) in
    omega (arith, now, step, own, before, all)

pub returns : goal.returns
returns c = grind (arith, common_steps)
