use Rattle.std.proofs.lemmas.Result.{on_ok_weaker}
use Rattle.rule_subquery.proofs.ScalarToGroupActs.{acts, box-there, can-there, first-there, preserves, within-there}
use Rattle.rule_subquery.proofs.scalar_to_group.grouped.Goals as goal

pub quant_at-r-requires-clause-held : goal.quant_at-r-requires-clause-held
quant_at-r-requires-clause-held c = box-there c.args.place c.args.graph.now c.requires.given

pub quant_at-r-requires-clause-from_one : goal.quant_at-r-requires-clause-from_one
quant_at-r-requires-clause-from_one c = first-there c.args.place c.args.graph.now c.requires.given

pub quant_at-r-requires-clause-within : goal.quant_at-r-requires-clause-within
quant_at-r-requires-clause-within c = within-there c.args.place c.args.graph.now c.requires.given

pub group-requires : goal.group-requires
group-requires c = can-there c.args.place c.args.graph.now c.requires.given c.each_number_once.ensures c.requires.formed c.quant_at-r.result c.quant_at-r.ensures

pub returns-clause-acts : goal.returns-clause-acts
returns-clause-acts c =
    on_ok_weaker c.group.result (λ k. acts c.args.place c.args.graph.now c.requires.given c.each_number_once.ensures c.requires.formed c.quant_at-r.result c.quant_at-r.ensures c.group.new.graph k) c.group.ensures.ok

pub returns-clause-preserves : goal.returns-clause-preserves
returns-clause-preserves c =
    on_ok_weaker c.group.result (λ k. preserves c.args.place c.args.graph.now c.requires.given c.each_number_once.ensures c.requires.formed c.quant_at-r.result c.quant_at-r.ensures c.group.new.graph k) c.group.ensures.ok
