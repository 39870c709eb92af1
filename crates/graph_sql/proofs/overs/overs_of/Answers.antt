use Rattle.std.proofs.Common.{◌≡◌, ◌-◌, ◌∷◌, drop, ◌∙◌, sym, ap, List, arith}
use Rattle.std.proofs.lemmas.Grind.{common_steps}
use Rattle.list_laws.specs.Lists.{first}
use Rattle.qgm_core.specs.Boxes.{is_quant}
use Rattle.qgm_core.specs.declared.node.Node.{Node}
use Rattle.qgm_core.specs.declared.owned.OwnedQuant.{OwnedQuant}
use Rattle.graph_sql.specs.Settings.{over_of, over_or}
use Rattle.graph_sql.proofs.Under.{over-step}
use Rattle.graph_sql.proofs.overs.overs_of.Goals as goal

pub loop-i-preserved : goal.loop-i-preserved
loop-i-preserved c =
    let e : drop (c.loop-i.i - 1) c.args.nodes.now ≡ c.index-nodes-i.result ∷ drop c.loop-i.i c.args.nodes.now = grind (arith, common_steps) in
    let f : c.as_slice.result.now ≡ c.index-nodes-i.result.quants = grind (arith, common_steps) in
    record {
      within = omega (arith, c.loop-i.invariant.within);
      found = λ q.
          c.in_ok-add_overs.ensures q
          ∙ ap (over_or (first (is_quant q) c.as_slice.result.now)) (c.loop-i.invariant.found q)
          ∙ ap (λ (rs : List OwnedQuant). over_or (first (is_quant q) rs) (over_of (drop c.loop-i.i c.args.nodes.now) q)) f
          ∙ sym (over-step c.index-nodes-i.result (drop c.loop-i.i c.args.nodes.now) q)
          ∙ ap (λ (ns : List Node). over_of ns q) (sym e);
    }
