use Rattle.std.proofs.Common.{arith}
use Rattle.std.proofs.lemmas.Grind.{common_steps}
use Rattle.rule_merge.proofs.DropCopyActs.{preserves_of, held_of, one_of, over_held, acts_of}
use Rattle.rule_merge.proofs.drop_copy.dropped.Goals as goal

pub returns-clause-preserves : goal.returns-clause-preserves
returns-clause-preserves c =
    preserves_of c.args.graph.now c.args.place c.requires.given c.quant_at-quant.result c.quant_at-quant.ensures c.each_number_once.ensures c.requires.formed c.moved.new.graph c.in_ok-moved.ensures.ok

pub quant_at-quant-requires-clause-held : goal.quant_at-quant-requires-clause-held
quant_at-quant-requires-clause-held c = grind (arith, common_steps, held_of, one_of, over_held, acts_of, preserves_of)

pub moved-requires-clause-gone : goal.moved-requires-clause-gone
moved-requires-clause-gone c = grind (arith, common_steps, held_of, one_of, over_held, acts_of, preserves_of)

pub moved-requires-clause-held : goal.moved-requires-clause-held
moved-requires-clause-held c = grind (arith, common_steps, held_of, one_of, over_held, acts_of, preserves_of)

pub returns-clause-acts : goal.returns-clause-acts
returns-clause-acts c = grind (arith, common_steps, held_of, one_of, over_held, acts_of, preserves_of)
