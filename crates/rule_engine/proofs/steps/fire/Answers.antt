use Rattle.std.proofs.Common.{◌≡◌, refl, sym, rules, Option, Some, None}
use Rattle.rule_api.specs.Rules.{Preserves}
use Rattle.rule_api.specs.declared.place.Firing.{Firing}
use Rattle.rule_engine.specs.Control.{candidates, next}
use Rattle.rule_engine.proofs.Chosen.{next-given, next-none}
use Rattle.rule_engine.proofs.steps.fire.Goals as goal

pub returns-in_default-clause-ok : goal.returns-in_default-clause-ok
returns-in_default-clause-ok g c =
    let none : ◌≡◌ {A = Option Firing} None (next c.args.plan.now (candidates (g.T.Rules.pairs c.args.table.now) c.args.plan.now c.args.graph.now) c.args.count) = search rules in
    (refl, next-none c.args.plan.now (candidates (g.T.Rules.pairs c.args.table.now) c.args.plan.now c.args.graph.now) c.args.count (sym none))

pub apply-requires-clause-given : goal.apply-requires-clause-given
apply-requires-clause-given g c =
    let is : Some c.in-Some.f ≡ next c.args.plan.now (candidates (g.T.Rules.pairs c.args.table.now) c.args.plan.now c.args.graph.now) c.args.count = search rules in
    next-given (g.T.Rules.pairs c.args.table.now) c.args.plan.now c.args.graph.now c.args.count c.in-Some.f (sym is)

pub returns-clause-ok : goal.returns-clause-ok
returns-clause-ok g c =
    let is : Some c.in-Some.f ≡ next c.args.plan.now (candidates (g.T.Rules.pairs c.args.table.now) c.args.plan.now c.args.graph.now) c.args.count = search rules in
    let preserves : Preserves c.args.graph.now c.apply.new.graph = search rules in
    let f = c.in-Some.f in (
      record {
        is_next = sym is;
        allowed = (g.met.T.Rules.exact c.args.table.now f.rule c.args.graph.now f.place.at f.place.i f.place.j c.each_number_once.ensures c.requires).0 (next-given (g.T.Rules.pairs c.args.table.now) c.args.plan.now c.args.graph.now c.args.count f (sym is));
        acts = search rules;
        formed = preserves.formed;
      },
      preserves,
    )
