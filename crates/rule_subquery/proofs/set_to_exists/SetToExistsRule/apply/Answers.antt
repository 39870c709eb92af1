use Rattle.rule_subquery.specs.SetToExistsExact.{set-to-exists-exact}
use Rattle.rule_subquery.proofs.SetToExistsActs.{acts, box-there, preserves, quant-there}
use Rattle.rule_subquery.proofs.set_to_exists.SetToExistsRule.apply.Goals as goal

pub plan_at-requires : goal.plan_at-requires
plan_at-requires c = (set-to-exists-exact c.args.graph.now c.args.place.at c.args.place.i c.args.place.j).0 c.requires.given

pub select-requires-clause-held : goal.select-requires-clause-held
select-requires-clause-held c =
    box-there c.args.place c.args.graph.now ((set-to-exists-exact c.args.graph.now c.args.place.at c.args.place.i c.args.place.j).0 c.requires.given) c.each_number_once.ensures c.requires.formed c.in_ok-m.m c.in_ok-m.ensures

pub select-requires-clause-owned : goal.select-requires-clause-owned
select-requires-clause-owned c =
    quant-there c.args.place c.args.graph.now ((set-to-exists-exact c.args.graph.now c.args.place.at c.args.place.i c.args.place.j).0 c.requires.given) c.each_number_once.ensures c.requires.formed c.in_ok-m.m c.in_ok-m.ensures

pub returns-clause-acts : goal.returns-clause-acts
returns-clause-acts c =
    acts c.args.place c.args.graph.now ((set-to-exists-exact c.args.graph.now c.args.place.at c.args.place.i c.args.place.j).0 c.requires.given) c.each_number_once.ensures c.requires.formed c.in_ok-m.m c.in_ok-m.ensures c.select.new.graph c.in_ok-select.ensures.ok

pub returns-clause-preserves : goal.returns-clause-preserves
returns-clause-preserves c =
    preserves c.args.place c.args.graph.now ((set-to-exists-exact c.args.graph.now c.args.place.at c.args.place.i c.args.place.j).0 c.requires.given) c.each_number_once.ensures c.requires.formed c.in_ok-m.m c.in_ok-m.ensures c.select.new.graph c.in_ok-select.ensures.ok
