use Rattle.rule_subquery.specs.ExistsToJoin.{MayExistsToJoin}
use Rattle.rule_subquery.specs.ExistsToJoinExact.{exists-to-join-exact}
use Rattle.rule_subquery.proofs.ExistsToJoinActs.{acts, plan-box, plan-over, plan-quant, preserves}
use Rattle.rule_subquery.proofs.exists_to_join.ExistsToJoinRule.apply.Goals as goal

pub plan_at-requires : goal.plan_at-requires
plan_at-requires c = (exists-to-join-exact c.args.graph.now c.each_number_once.ensures c.requires.formed c.args.place.at c.args.place.i c.args.place.j).0 c.requires.given

pub join-requires-clause-held : goal.join-requires-clause-held
join-requires-clause-held c =
    let may : MayExistsToJoin c.args.place c.args.graph.now = (exists-to-join-exact c.args.graph.now c.each_number_once.ensures c.requires.formed c.args.place.at c.args.place.i c.args.place.j).0 c.requires.given in
    plan-box c.args.place c.args.graph.now may c.each_number_once.ensures c.requires.formed c.in_ok-m.m c.in_ok-m.ensures

pub join-requires-clause-owned : goal.join-requires-clause-owned
join-requires-clause-owned c =
    let may : MayExistsToJoin c.args.place c.args.graph.now = (exists-to-join-exact c.args.graph.now c.each_number_once.ensures c.requires.formed c.args.place.at c.args.place.i c.args.place.j).0 c.requires.given in
    plan-quant c.args.place c.args.graph.now may c.each_number_once.ensures c.requires.formed c.in_ok-m.m c.in_ok-m.ensures

pub join-requires-clause-over : goal.join-requires-clause-over
join-requires-clause-over c =
    let may : MayExistsToJoin c.args.place c.args.graph.now = (exists-to-join-exact c.args.graph.now c.each_number_once.ensures c.requires.formed c.args.place.at c.args.place.i c.args.place.j).0 c.requires.given in
    plan-over c.args.place c.args.graph.now may c.each_number_once.ensures c.requires.formed c.in_ok-m.m c.in_ok-m.ensures

pub returns-clause-acts : goal.returns-clause-acts
returns-clause-acts c =
    let may : MayExistsToJoin c.args.place c.args.graph.now = (exists-to-join-exact c.args.graph.now c.each_number_once.ensures c.requires.formed c.args.place.at c.args.place.i c.args.place.j).0 c.requires.given in
    acts c.args.place c.args.graph.now may c.each_number_once.ensures c.requires.formed c.in_ok-m.m c.in_ok-m.ensures c.join.new.graph c.in_ok-join.ensures.ok

pub returns-clause-preserves : goal.returns-clause-preserves
returns-clause-preserves c =
    let may : MayExistsToJoin c.args.place c.args.graph.now = (exists-to-join-exact c.args.graph.now c.each_number_once.ensures c.requires.formed c.args.place.at c.args.place.i c.args.place.j).0 c.requires.given in
    preserves c.args.place c.args.graph.now may c.each_number_once.ensures c.requires.formed c.in_ok-m.m c.in_ok-m.ensures c.join.new.graph c.in_ok-join.ensures.ok
