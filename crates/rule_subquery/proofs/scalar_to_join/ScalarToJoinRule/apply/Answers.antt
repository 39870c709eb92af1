use Rattle.rule_subquery.specs.ScalarToJoin.{MayScalarToJoin}
use Rattle.rule_subquery.specs.ScalarToJoinExact.{scalar-to-join-exact}
use Rattle.rule_subquery.proofs.ScalarToJoinActs.{acts, plan-box, plan-quant, preserves}
use Rattle.rule_subquery.proofs.scalar_to_join.ScalarToJoinRule.apply.Goals as goal

pub plan_at-requires : goal.plan_at-requires
plan_at-requires c = (scalar-to-join-exact c.args.graph.now c.args.place.at c.args.place.i c.args.place.j).0 c.requires.given

pub join-requires-clause-held : goal.join-requires-clause-held
join-requires-clause-held c =
    let may : MayScalarToJoin c.args.place c.args.graph.now = (scalar-to-join-exact c.args.graph.now c.args.place.at c.args.place.i c.args.place.j).0 c.requires.given in
    plan-box c.args.place c.args.graph.now may c.each_number_once.ensures c.requires.formed c.in_ok-m.m c.in_ok-m.ensures

pub join-requires-clause-owned : goal.join-requires-clause-owned
join-requires-clause-owned c =
    let may : MayScalarToJoin c.args.place c.args.graph.now = (scalar-to-join-exact c.args.graph.now c.args.place.at c.args.place.i c.args.place.j).0 c.requires.given in
    plan-quant c.args.place c.args.graph.now may c.each_number_once.ensures c.requires.formed c.in_ok-m.m c.in_ok-m.ensures

pub returns-clause-acts : goal.returns-clause-acts
returns-clause-acts c =
    let may : MayScalarToJoin c.args.place c.args.graph.now = (scalar-to-join-exact c.args.graph.now c.args.place.at c.args.place.i c.args.place.j).0 c.requires.given in
    acts c.args.place c.args.graph.now may c.each_number_once.ensures c.requires.formed c.in_ok-m.m c.in_ok-m.ensures c.join.new.graph c.in_ok-join.ensures.ok

pub returns-clause-preserves : goal.returns-clause-preserves
returns-clause-preserves c =
    let may : MayScalarToJoin c.args.place c.args.graph.now = (scalar-to-join-exact c.args.graph.now c.args.place.at c.args.place.i c.args.place.j).0 c.requires.given in
    preserves c.args.place c.args.graph.now may c.each_number_once.ensures c.requires.formed c.in_ok-m.m c.in_ok-m.ensures c.join.new.graph c.in_ok-join.ensures.ok
