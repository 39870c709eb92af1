use Rattle.std.proofs.Common.{arith}
use Rattle.std.proofs.lemmas.Grind.{common_steps}
use Rattle.rule_merge.specs.MergeSelectExact.{merge_select_given}
use Rattle.rule_merge.proofs.MergeSelectPlaced.{acts-then, may-step-then, preserves-then}
use Rattle.rule_merge.proofs.merge_select.MergeSelectRule.apply.Goals as goal

pub merge-requires : goal.merge-requires
merge-requires c =
    may-step-then c.args.graph.now c.each_number_once.ensures c.requires.formed c.args.place (merge_select_given c.args.graph.now c.args.place.at c.args.place.i c.args.place.j c.requires.given) c.in_ok-steps.steps c.in_ok-steps.ensures

pub returns-clause-acts : goal.returns-clause-acts
returns-clause-acts c =
    acts-then c.args.graph.now c.each_number_once.ensures c.requires.formed c.args.place (merge_select_given c.args.graph.now c.args.place.at c.args.place.i c.args.place.j c.requires.given) c.in_ok-steps.steps c.in_ok-steps.ensures c.merge.new.graph c.in_ok-merge.ensures.ok

pub returns-clause-preserves : goal.returns-clause-preserves
returns-clause-preserves c =
    preserves-then c.args.graph.now c.each_number_once.ensures c.requires.formed c.args.place (merge_select_given c.args.graph.now c.args.place.at c.args.place.i c.args.place.j c.requires.given) c.in_ok-steps.steps c.in_ok-steps.ensures c.merge.new.graph c.in_ok-merge.ensures.ok

pub plan_at-requires-clause-given : goal.plan_at-requires-clause-given
plan_at-requires-clause-given c = grind (arith, common_steps, merge_select_given)
