use Rattle.std.proofs.Common.{◌≡◌, ◌++◌, ◌∷◌, [], sym, rules, Some, arith, subst}
use Rattle.std.proofs.lemmas.Grind.{common_steps}
use Rattle.rule_api.proofs.Chained.{preserves-chained}
use Rattle.rule_engine.specs.Trace.{Leads, Stepped}
use Rattle.rule_engine.proofs.Chains.{leads-more}
use Rattle.rule_engine.proofs.steps.rewrite.Goals as goal

pub loop-count-preserved : goal.loop-count-preserved
loop-count-preserved g c =
    let s : Stepped (g.T.Rules.pairs c.args.table.now) (g.T.Rules.may c.args.table.now) (g.T.Rules.act c.args.table.now) c.args.plan.now c.loop-count.count c.loop-count.graph (Some c.in-Some.f) c.step.new.graph = search rules in
    let items : c.push.new.self ≡ c.loop-count.trace ++ c.in-Some.f ∷ [] = search rules in
    let i = c.loop-count.invariant in
    record {
      leads = subst (λ fs. Leads (g.T.Rules.pairs c.args.table.now) (g.T.Rules.may c.args.table.now) (g.T.Rules.act c.args.table.now) c.args.plan.now 0 c.args.graph fs c.step.new.graph) (sym items)
          (leads-more (g.T.Rules.pairs c.args.table.now) (g.T.Rules.may c.args.table.now) (g.T.Rules.act c.args.table.now) c.args.plan.now 0 c.loop-count.count c.args.graph c.loop-count.trace c.loop-count.graph c.in-Some.f c.step.new.graph (omega arith) i.leads s.0);
      many = grind (arith, common_steps, items, i.many);
      formed = s.0.formed;
      preserves = preserves-chained c.args.graph c.loop-count.graph c.step.new.graph i.preserves s.1;
    }

pub returns-in_default : goal.returns-in_default
returns-in_default g c = grind (arith, common_steps)
