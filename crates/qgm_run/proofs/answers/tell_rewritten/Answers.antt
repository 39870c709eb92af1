use Rattle.std.proofs.Common.{arith}
use Rattle.std.proofs.lemmas.Grind.{common_steps}
use Rattle.qgm_run.proofs.Rewritten.{is_explained}
use Rattle.qgm_run.proofs.answers.tell_rewritten.Goals as goal

pub returns-clause-told : goal.returns-clause-told
returns-clause-told g c =
    is_explained c.args.tables c.args.plan.now c.args.graph c.in_ok-last.last c.in_ok-last.firings c.in_ok-rows.evals c.args.steps.now c.executed.new.steps c.args.out.now c.told_rewriting.new.out c.put_counts.new.out
    c.in_ok-last.ensures c.in_ok-rows.ensures.evaluates c.in_ok-put_counts.ensures

pub returns-clause-never_less : goal.returns-clause-never_less
returns-clause-never_less g c = grind (arith, common_steps)

pub returns-clause-counted : goal.returns-clause-counted
returns-clause-counted g c = grind (arith, common_steps)

pub returns-in_err-put_counts-clause-never_less : goal.returns-in_err-put_counts-clause-never_less
returns-in_err-put_counts-clause-never_less g c = grind (arith, common_steps)
