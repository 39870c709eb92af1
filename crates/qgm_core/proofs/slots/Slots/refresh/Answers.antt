use Rattle.std.proofs.Common.{◌≡◌, ◌+◌, ◌-◌, ◌∙◌, ◌∷◌, ap, sym, subst, ℕ, suc, List, [], Some, drop, length, slice_get, arith, refl, false}
use Rattle.std.proofs.Math.Seq.{drop-length}
use Rattle.list_laws.specs.Lists.{holds}
use Rattle.qgm_core.specs.Boxes.{numbers}
use Rattle.qgm_core.specs.Slots.{behind_with, stale_in}
use Rattle.qgm_core.specs.declared.node.Node.{Node}
use Rattle.qgm_core.proofs.Counted.{at-get}
use Rattle.qgm_core.proofs.Told.{Passed, drop-back, new-at, passed-more, passed-none, some-then, told-right}
use Rattle.qgm_core.proofs.Flagged.{under-at}
use Rattle.qgm_core.proofs.Refreshed.{at-held, refreshed-then, right-one, stale, stale-fewer, stale-one}
use Rattle.qgm_core.proofs.slots.Slots.refresh.Goals as goal

pub refresh_box-requires-clause-within : goal.refresh_box-requires-clause-within
refresh_box-requires-clause-within g c =
    let ns = c.args.nodes.now in
    let i = c.boxes.i in
    let n = c.index-nodes-i.result in
    let l = c.boxes-test.true in
    let w = c.boxes.invariant.within in
    let at : slice_get ns (i - 1) ≡ Some n = at-get ns (i - 1) n (omega (arith, l, w)) ∙ ap (λ (n : Node). Some n) (sym c.index-nodes-i.is) in
    let long = c.boxes.invariant.rest.2 in
    let k = under-at (length c.args.self.now.lists) ns (i - 1) n c.requires.numbers at in
    omega (arith, k, long)

pub refresh_box-requires-clause-told : goal.refresh_box-requires-clause-told
refresh_box-requires-clause-told g c =
    let ns = c.args.nodes.now in
    let i = c.boxes.i in
    let n = c.index-nodes-i.result in
    let l = c.boxes-test.true in
    let w = c.boxes.invariant.within in
    let at : slice_get ns (i - 1) ≡ Some n = at-get ns (i - 1) n (omega (arith, l, w)) ∙ ap (λ (n : Node). Some n) (sym c.index-nodes-i.is) in
    let back : i ≡ suc (i - 1) = omega (arith, l) in
    let p = subst (λ (k : ℕ). Passed c.boxes.behind c.boxes.owned (drop k ns)) back c.boxes.invariant.passed in
    some-then c.in_ok-told.told _ _ _
    (λ qs h e. told-right c.boxes.self ns (i - 1) n c.boxes.behind c.boxes.owned at c.requires.once c.boxes.invariant.right p h ∙ sym e)
    c.in_ok-told.ensures.told c.in_ok-told.ensures.free

pub boxes-preserved : goal.boxes-preserved
boxes-preserved g c =
    let ns = c.args.nodes.now in
    let i = c.boxes.i in
    let n = c.index-nodes-i.result in
    let l = c.boxes-test.true in
    let w = c.boxes.invariant.within in
    let at : slice_get ns (i - 1) ≡ Some n = at-get ns (i - 1) n (omega (arith, l, w)) ∙ ap (λ (n : Node). Some n) (sym c.index-nodes-i.is) in
    let t = c.boxes.self in
    let u = c.refresh_box.new.self in
    let done = c.in_ok-refresh_box.ensures.ok in
    let rest = c.refresh_box.ensures.rest in
    let more : drop (i - 1) ns ≡ n ∷ drop i ns = drop-back ns i n l at in
    record {
      within = omega (arith, l, w);
      rest = refreshed-then c.args.self.now t u c.boxes.invariant.rest rest;
      right = right-one n.id t u c.refresh_box.ensures.others ns done c.boxes.invariant.right;
      fresh = (
          let e : stale_in u (drop (i - 1) ns) ≡ stale n.id u + stale_in u (drop i ns) = ap (λ (zs : List Node). stale_in u zs) more in
          let z : stale n.id u ≡ 0 = rw done refl in
          let f = stale-fewer t u rest (drop i ns) in
          let h = c.boxes.invariant.fresh in
          omega (arith, e, z, f, h));
      counted = (
          let one = stale-one n.id t u c.refresh_box.ensures.others _ done ns c.requires.once (at-held ns (i - 1) n at) in
          let s = c.in_ok-refresh_box.ensures.steps_ok in
          let h = c.boxes.invariant.counted in
          omega (arith, one, s, h));
      passed = (
          let e : suc (i - 1) ≡ i = omega (arith, l) in
          let new = subst (λ (k : ℕ). holds n.id (numbers (drop k ns)) ≡ false) e (new-at ns (i - 1) n at c.requires.once) in
          let p = passed-more n (drop i ns) c.boxes.behind c.boxes.owned new c.boxes.invariant.passed in
          subst (λ (zs : List Node). Passed c.pass.new.behind c.pass.new.owned zs) (sym more)
          (subst (λ (ms : List ℕ). Passed ms c.pass.new.owned (n ∷ drop i ns)) (sym c.in_ok-pass.ensures.behind)
          (subst (λ (ms : List ℕ). Passed (behind_with n c.boxes.behind) ms (n ∷ drop i ns)) (sym c.in_ok-pass.ensures.owned) p)));
    }

pub boxes-init : goal.boxes-init
boxes-init g c =
    let none : drop (length c.args.nodes.now) c.args.nodes.now ≡ [] = drop-length c.args.nodes.now in
    record {
      within = omega arith;
      rest = (refl, refl, refl, λ b qs e. e);
      right = c.requires.right;
      fresh = ap (λ (zs : List Node). stale_in c.args.self.now zs) none;
      counted = refl;
      passed =
          subst (λ (ms : List ℕ). Passed c.new-behind.result ms (drop (length c.args.nodes.now) c.args.nodes.now)) (sym c.new-owned.ensures)
          (subst (λ (ms : List ℕ). Passed ms [] (drop (length c.args.nodes.now) c.args.nodes.now)) (sym c.new-behind.ensures) (passed-none (drop (length c.args.nodes.now) c.args.nodes.now)));
    }
