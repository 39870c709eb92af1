use Rattle.std.proofs.Common.{true, false, get_or, ◌≡◌, ◌-◌, ◌∙◌, ap, sym, Some, length, slice_get, drop, ℕ, arith}
use Rattle.std.proofs.Math.ListN.{length-set}
use Rattle.std.specs.List.{list_any}
use Rattle.std.proofs.lemmas.Grind.{common_steps}
use Rattle.qgm_core.specs.declared.node.Node.{Node}
use Rattle.list_laws.specs.Lists.{holds}
use Rattle.qgm_core.proofs.Counted.{at-get}
use Rattle.qgm_core.proofs.Flagged.{flags-more, flags-same, reaches-them, reaching, under-at}
use Rattle.qgm_core.proofs.flags.spread.Goals as goal

pub index_mut-requires : goal.index_mut-requires
index_mut-requires c =
    let n = c.index-nodes-i.result in
    let w = c.boxes.invariant.within in
    let at : slice_get c.args.nodes.now (c.boxes.i - 1) ≡ Some n = at-get c.args.nodes.now (c.boxes.i - 1) n (omega (arith, c.boxes-test.true, w)) ∙ ap (λ (n : Node). Some n) (sym c.index-nodes-i.is) in
    let l = under-at (length c.args.flags.now.items) c.args.nodes.now (c.boxes.i - 1) n c.requires at in
    let long = c.boxes.invariant.long in
    let ok = c.boxes.flags.ok in
    omega (arith, l, long, ok)

pub boxes-preserved-then-ranges_over : goal.boxes-preserved-then-ranges_over
boxes-preserved-then-ranges_over c =
    let n = c.index-nodes-i.result in
    let ns = c.args.nodes.now in
    let i = c.boxes.i in
    let w = c.boxes.invariant.within in
    let at : slice_get ns (i - 1) ≡ Some n = at-get ns (i - 1) n (omega (arith, c.boxes-test.true, w)) ∙ ap (λ (n : Node). Some n) (sym c.index-nodes-i.is) in
    let l = under-at (length c.args.flags.now.items) ns (i - 1) n c.requires at in
    let long = c.boxes.invariant.long in
    let any : list_any (λ r. get_or c.boxes.flags.items r.over false) n.quants ≡ true = grind (arith, common_steps) in
    record {
      within = omega (arith, w);
      long = simp length-set long;
      flags = λ cs h. flags-more cs ns i n c.boxes.flags.items c.boxes-test.true at (c.boxes.invariant.flags cs h) (omega (arith, l, long)) any;
    }

pub boxes-preserved : goal.boxes-preserved
boxes-preserved c =
    let n = c.index-nodes-i.result in
    let ns = c.args.nodes.now in
    let i = c.boxes.i in
    let w = c.boxes.invariant.within in
    let at : slice_get ns (i - 1) ≡ Some n = at-get ns (i - 1) n (omega (arith, c.boxes-test.true, w)) ∙ ap (λ (n : Node). Some n) (sym c.index-nodes-i.is) in
    let none : list_any (λ r. get_or c.boxes.flags.items r.over false) n.quants ≡ false = grind (arith, common_steps) in
    record {
      within = omega (arith, w);
      long = c.boxes.invariant.long;
      flags = λ cs h. flags-same cs ns i n c.boxes.flags.items c.boxes-test.true at (c.boxes.invariant.flags cs h) none;
    }

pub returns-clause-flags : goal.returns-clause-flags
returns-clause-flags c = λ cs h x.
    let e : c.boxes.i ≡ 0 = omega (arith, c.boxes-test.false) in
    c.boxes.invariant.flags cs h x ∙ ap (λ (k : ℕ). holds x (reaching cs (drop k c.args.nodes.now))) e ∙ sym (reaches-them cs c.args.nodes.now x)
