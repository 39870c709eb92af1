use Rattle.std.proofs.Common.{◌≡◌, ◌+◌, ◌++◌, ◌∷◌, [], ◌∙◌, false, true, drop, ap, refl, sym, subst, arith, inl}
use Rattle.std.proofs.lemmas.Grind.{common_steps}
use Rattle.list_laws.specs.Lists.{In, holds}
use Rattle.qgm_core.specs.Edits.{ids_over, quants_over}
use Rattle.qgm_core.specs.declared.node.Node.{Node}
use Rattle.rule_prune.specs.NamedColumns.{has_over, named_in_box}
use Rattle.rule_prune.proofs.NamedAbove.{above-more, in-drop, none-over}
use Rattle.rule_prune.proofs.drop_column.named.quants_over.Goals as goal
use Rattle.rule_prune.proofs.drop_column.named.quants_over.Goals.{then-has_over+in_ok-mark_over+in_ok-mark_box, else-has_over}

pub loop-node-preserved : goal.loop-node-preserved
loop-node-preserved c =
    let x : Node = c.node-item.result in
    let i = c.loop-node.node-index in
    let nodes = c.args.nodes.now in
    let e : drop c.loop-node.node-index c.args.nodes.now ≡ c.node-item.result ∷ drop (c.loop-node.node-index + 1) c.args.nodes.now = grind (arith, common_steps) in
    let in-x : In c.node-item.result c.args.nodes.now = in-drop i nodes x (subst (λ z. In x z) (sym e) (inl refl)) in
    let f : quants_over c.args.b (drop c.loop-node.node-index c.args.nodes.now) ≡ ids_over c.args.b c.node-item.result.quants ++ quants_over c.args.b (drop (c.loop-node.node-index + 1) c.args.nodes.now) = ap (quants_over c.args.b) e in
    elim c.if-has_over.branch [
      | then-has_over+in_ok-mark_over+in_ok-mark_box w ↦ (
          let qe : c.if-has_over.quants ≡ c.loop-node.quants ++ ids_over c.args.b c.node-item.result.quants = grind (arith, common_steps) in
          let ne : c.if-has_over.named ≡ c.loop-node.named ++ named_in_box c.if-has_over.quants c.node-item.result = grind (arith, common_steps) in
          let rest : c.if-has_over.quants ++ quants_over c.args.b (drop (c.loop-node.node-index + 1) c.args.nodes.now) ≡ quants_over c.args.b c.args.nodes.now = grind (arith, common_steps, qe, f, c.loop-node.invariant.rest) in
          record {
            rest = rest;
            named = λ k t. above-more c.args.b c.args.nodes.now x c.if-has_over.quants (quants_over c.args.b (drop (i + 1) nodes)) c.loop-node.named in-x rest c.loop-node.invariant.named k (subst (λ z. holds k z ≡ true) ne t);
          })
      | else-has_over w ↦ (
          let n : has_over c.args.b c.node-item.result ≡ false = sym c.has_over.ensures ∙ w.if-has_over.false in
          let o : ids_over c.args.b c.node-item.result.quants ≡ [] = none-over c.args.b c.node-item.result.quants n in
          record {
            rest = grind (arith, common_steps, f, o, c.loop-node.invariant.rest);
            named = λ k t. c.loop-node.invariant.named k (subst (λ z. holds k z ≡ true) w.named-is t);
          })
    ]
