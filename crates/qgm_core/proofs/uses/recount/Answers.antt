use Rattle.std.proofs.Common.{◌≡◌, ◌+◌, ◌∙◌, List, Some, ap, sym, map, slice_get, arith}
use Rattle.qgm_core.specs.Boxes.{overs_of}
use Rattle.list_laws.specs.Lists.{times}
use Rattle.qgm_core.specs.declared.node.Node.{Node}
use Rattle.qgm_core.specs.declared.owned.OwnedQuant.{OwnedQuant}
use Rattle.qgm_core.proofs.Counted.{at-get, uses-most, uses-step}
use Rattle.qgm_core.proofs.uses.recount.Goals as goal

pub count_each-requires : goal.count_each-requires
count_each-requires c = λ x k.
    let ns = c.args.nodes.now in
    let i = c.loop-node.node-index in
    let n = c.node-item.result in
    let l = c.loop-node-test.true in
    let at : slice_get ns i ≡ Some n = at-get ns i n (omega (arith, l)) ∙ ap (λ (n : Node). Some n) (sym c.node-item.is) in
    let step = uses-step x ns i n at in
    let own : times x (map (λ r. r.over) c.as_slice.result.now) ≡ times x (overs_of n) = ap (λ (rs : List OwnedQuant). times x (map (λ r. r.over) rs)) c.as_slice.ensures in
    let long = c.loop-node.invariant.long in
    let now = c.loop-node.invariant.counted x (omega (arith, k, long)) in
    let most = uses-most x ns (i + 1) in
    let q = c.requires in
    omega (arith, step, own, now, most, q)

pub loop-node-preserved : goal.loop-node-preserved
loop-node-preserved c =
    let ns = c.args.nodes.now in
    let i = c.loop-node.node-index in
    let n = c.node-item.result in
    let l = c.loop-node-test.true in
    let at : slice_get ns i ≡ Some n = at-get ns i n (omega (arith, l)) ∙ ap (λ (n : Node). Some n) (sym c.node-item.is) in
    let long = c.loop-node.invariant.long in
    let kept = c.count_each.ensures.long in
    record {
      long = omega (arith, kept, long);
      counted = λ x k. (
          let step = uses-step x ns i n at in
          let own : times x (map (λ r. r.over) c.as_slice.result.now) ≡ times x (overs_of n) = ap (λ (rs : List OwnedQuant). times x (map (λ r. r.over) rs)) c.as_slice.ensures in
          let now = c.loop-node.invariant.counted x k in
          let new = c.count_each.ensures.counted x (omega (arith, k, long)) in
          omega (arith, step, own, now, new));
    }
