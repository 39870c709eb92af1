use Rattle.std.proofs.Common.{ℕ, ◌≡◌, ◌==◌, cond, get_or, ◌-◌, ◌∷◌, drop, ◌∙◌, sym, ap, List, arith}
use Rattle.std.proofs.lemmas.Grind.{common_steps}
use Rattle.qgm_core.specs.declared.node.Node.{Node}
use Rattle.graph_sql.specs.Settings.{made_at, setting_in}
use Rattle.graph_sql.specs.StatementText.{made_in}
use Rattle.graph_sql.proofs.Items.{made-step}
use Rattle.graph_sql.proofs.boxes.made_in.Goals as goal

pub loop-i-preserved : goal.loop-i-preserved
loop-i-preserved c =
    let e : drop (c.loop-i.i - 1) c.args.nodes.now ≡ c.index-nodes-i.result ∷ drop c.loop-i.i c.args.nodes.now = grind (arith, common_steps) in
    let same : (get_or c.args.nodes.now (c.loop-i.i - 1) c.index-nodes-i-in-loop-i.result).id ≡ c.index-nodes-i.result.id = grind (arith, common_steps) in
    record {
      within = omega (arith, c.loop-i.invariant.within);
      made = λ b.
          c.in_ok-add_made.ensures b
          ∙ ap (λ (x : ℕ). cond (x == b) c.in_ok-m.m (made_at c.loop-i.made b)) same
          ∙ made-step (setting_in c.args.sheet.now) c.index-nodes-i.result (drop c.loop-i.i c.args.nodes.now) (made_at c.loop-i.made) c.loop-i.invariant.made c.in_ok-m.m (c.in_ok-m.ensures) b
          ∙ ap (λ (ns : List Node). made_in (setting_in c.args.sheet.now) ns b) (sym e);
    }
