use Rattle.rule_trans.proofs.EqualLiteralSteps.{acts, preserves, there}
use Rattle.rule_trans.proofs.equal_literal.EqualLiteralRule.apply.Goals as goal

pub add-requires : goal.add-requires
add-requires c = there c.args.graph.now c.requires.formed c.each_number_once.ensures c.args.place c.in_ok-m.m c.in_ok-m.ensures

pub returns-clause-acts : goal.returns-clause-acts
returns-clause-acts c = acts c.args.graph.now c.requires.formed c.each_number_once.ensures c.args.place c.in_ok-m.m c.in_ok-m.ensures c.add.new.graph c.in_ok-add.ensures.ok

pub returns-clause-preserves : goal.returns-clause-preserves
returns-clause-preserves c = preserves c.args.graph.now c.requires.formed c.each_number_once.ensures c.args.place c.in_ok-m.m c.in_ok-m.ensures c.add.new.graph c.in_ok-add.ensures.ok
