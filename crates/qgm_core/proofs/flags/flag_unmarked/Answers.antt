use Rattle.std.proofs.lemmas.Grind.{common_steps}
use Rattle.std.proofs.Common.{◌≡◌, ◌+◌, ◌∷◌, ◌∙◌, ap, sym, ℕ, Bool, true, false, Some, cond, filter, not, length, slice_get, take, add-one, arith}
use Rattle.std.proofs.Math.ListN.{length-set}
use Rattle.qgm_core.specs.Boxes.{numbers}
use Rattle.list_laws.specs.Lists.{holds}
use Rattle.qgm_core.specs.declared.node.Node.{Node}
use Rattle.qgm_core.proofs.Counted.{at-get}
use Rattle.qgm_core.proofs.Flagged.{flag-put, held-more, under-at}
use Rattle.qgm_core.proofs.flags.flag_unmarked.Goals.{then-not-has, else-not-has}
use Rattle.qgm_core.proofs.flags.flag_unmarked.Goals as goal

pub index_mut-requires : goal.index_mut-requires
index_mut-requires c =
    let ns = c.args.nodes.now in
    let i = c.loop-node.node-index in
    let n = c.node-item.result in
    let l = c.loop-node-test.true in
    let at : slice_get ns i ≡ Some n = at-get ns i n (omega (arith, l)) ∙ ap (λ (n : Node). Some n) (sym c.node-item.is) in
    let k = under-at (length c.args.flags.now.items) ns i n c.requires at in
    let long = c.loop-node.invariant.long in
    let ok = c.loop-node.flags.ok in
    omega (arith, k, long, ok)

pub loop-node-preserved : goal.loop-node-preserved
loop-node-preserved c =
    let ns = c.args.nodes.now in
    let i = c.loop-node.node-index in
    let n = c.node-item.result in
    let p = λ (n : Node). not (holds n.id c.args.marks.now) in
    let l = c.loop-node-test.true in
    let at : slice_get ns i ≡ Some n = at-get ns i n (omega (arith, l)) ∙ ap (λ (n : Node). Some n) (sym c.node-item.is) in
    let k = under-at (length c.args.flags.now.items) ns i n c.requires at in
    let long = c.loop-node.invariant.long in
    let old = numbers (filter p (take i ns)) in
    let more : (x : ℕ) → holds x (numbers (filter p (take (i + 1) ns))) ≡ holds x (cond (p n) (n.id ∷ old) old) = λ x. ap (λ (j : ℕ). holds x (numbers (filter p (take j ns)))) (add-one i) ∙ held-more p x ns i n at in
    elim c.if-not-has.branch [
      | then-not-has w ↦ record {
        long = rw w.flags-is (simp length-set long);
        flags = λ x. (
            let t : p n ≡ true = grind (arith, common_steps) in
            rw w.flags-is (flag-put c.loop-node.flags.items n.id old (omega (arith, k, long)) c.loop-node.invariant.flags x ∙ ap (λ (b : Bool). holds x (cond b (n.id ∷ old) old)) (sym t) ∙ sym (more x)));
      }
      | else-not-has w ↦ record {
        long = rw w.flags-is long;
        flags = λ x. (
            let t : p n ≡ false = grind (arith, common_steps) in
            rw w.flags-is (c.loop-node.invariant.flags x ∙ ap (λ (b : Bool). holds x (cond b (n.id ∷ old) old)) (sym t) ∙ sym (more x)));
      }
    ]
