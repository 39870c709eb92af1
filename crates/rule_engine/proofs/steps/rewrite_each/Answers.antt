use Rattle.std.proofs.Common.{◌≡◌, ◌+◌, ◌++◌, ◌∷◌, [], List, Option, sym, subst, take, rules}
use Rattle.rule_api.proofs.Chained.{preserves-chained}
use Rattle.rule_api.specs.Rules.{Preserves}
use Rattle.rule_api.specs.declared.place.Firing.{Firing}
use Rattle.rule_engine.specs.Trace.{LeadsEach, Stepped}
use Rattle.rule_engine.proofs.Chains.{leads-each-taken, stepped-preserves}
use Rattle.rule_engine.proofs.steps.rewrite_each.Goals as goal

pub loop-k-preserved : goal.loop-k-preserved
loop-k-preserved g c =
    let pairs = g.T.Rules.pairs c.args.table.now in
    let may = g.T.Rules.may c.args.table.now in
    let act = g.T.Rules.act c.args.table.now in
    let i = c.loop-k.invariant in
    let s : Stepped pairs may act c.index-plans-k.result c.loop-k.k c.loop-k.graph c.in_ok-f.f c.step.new.graph = search rules in
    let items : c.push.new.self.items ≡ c.loop-k.fired.items ++ c.in_ok-f.f ∷ [] = search rules in
    let kept : Preserves c.loop-k.graph c.step.new.graph = stepped-preserves pairs may act c.index-plans-k.result c.loop-k.k c.loop-k.graph c.in_ok-f.f c.step.new.graph i.formed s in
    record {
      leads = subst (λ (fs : List (Option Firing)). LeadsEach pairs may act 0 c.args.graph (take (c.loop-k.k + 1) c.args.plans.now) fs c.step.new.graph) (sym items)
          (leads-each-taken pairs may act c.loop-k.k c.args.graph c.args.plans.now c.loop-k.fired.items c.loop-k.graph c.index-plans-k.result c.in_ok-f.f c.step.new.graph c.loop-k-test.true c.index-plans-k.is i.leads s);
      formed = kept.formed;
      preserves = preserves-chained c.args.graph c.loop-k.graph c.step.new.graph i.preserves kept;
    }
