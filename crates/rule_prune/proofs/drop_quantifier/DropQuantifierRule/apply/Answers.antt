use Rattle.rule_prune.specs.DropQuantifier.{MayDropQuantifier}
use Rattle.rule_prune.specs.DropQuantifierExact.{drop_quantifier_exact}
use Rattle.rule_prune.proofs.DropQuantifierActs.{acts, preserves, quant-there}
use Rattle.rule_prune.proofs.drop_quantifier.DropQuantifierRule.apply.Goals as goal

pub quant_of-q-requires : goal.quant_of-q-requires
quant_of-q-requires c = (drop_quantifier_exact c.args.graph.now c.args.place.at c.args.place.i c.args.place.j c.each_number_once.ensures c.requires.formed).0 c.requires.given

pub prune_quant-requires : goal.prune_quant-requires
prune_quant-requires c =
    let may : MayDropQuantifier c.args.place c.args.graph.now = (drop_quantifier_exact c.args.graph.now c.args.place.at c.args.place.i c.args.place.j c.each_number_once.ensures c.requires.formed).0 c.requires.given in
    quant-there c.args.place c.args.graph.now may c.quant_of-q.result c.quant_of-q.ensures

pub returns-clause-acts : goal.returns-clause-acts
returns-clause-acts c =
    let may : MayDropQuantifier c.args.place c.args.graph.now = (drop_quantifier_exact c.args.graph.now c.args.place.at c.args.place.i c.args.place.j c.each_number_once.ensures c.requires.formed).0 c.requires.given in
    acts c.args.place c.args.graph.now may c.quant_of-q.result c.quant_of-q.ensures c.each_number_once.ensures c.requires.formed c.prune_quant.new.graph c.in_ok-prune_quant.ensures.ok

pub returns-clause-preserves : goal.returns-clause-preserves
returns-clause-preserves c =
    let may : MayDropQuantifier c.args.place c.args.graph.now = (drop_quantifier_exact c.args.graph.now c.args.place.at c.args.place.i c.args.place.j c.each_number_once.ensures c.requires.formed).0 c.requires.given in
    preserves c.args.place c.args.graph.now may c.quant_of-q.result c.quant_of-q.ensures c.each_number_once.ensures c.requires.formed c.prune_quant.new.graph c.in_ok-prune_quant.ensures.ok
