use Rattle.std.proofs.Common.{◌∙◌, ap, subst, sym}
use Rattle.qgm_core.specs.Boxes.{QueryGraph}
use Rattle.rule_merge.specs.MergeSelectSteps.{MayStep, merge_steps}
use Rattle.rule_merge.proofs.MergeSelectActs.{may-step, steps-made}
use Rattle.rule_merge.proofs.merge_select.action.merged.Goals as goal

pub merge-requires : goal.merge-requires
merge-requires c =
    subst (λ (g : QueryGraph). MayStep g c.in_ok-steps.steps) (sym c.in_ok-after.ensures)
    (may-step c.args.graph.now c.each_number_once.ensures c.requires.formed c.args.b.now c.args.place c.args.r c.args.c.now c.requires.stands c.in_ok-steps.steps c.in_ok-steps.ensures)

pub returns : goal.returns
returns c =
    c.in_ok-merge.ensures.ok ∙ ap (merge_steps c.in_ok-steps.steps) c.in_ok-after.ensures
    ∙ steps-made c.args.graph.now c.each_number_once.ensures c.requires.formed c.args.b.now c.args.place c.args.r c.args.c.now c.requires.stands c.in_ok-steps.steps c.in_ok-steps.ensures
