use Rattle.std.proofs.Common.{◌-◌, ◌∙◌, length}
use Rattle.qgm_terms.specs.Shown.{cond}
use Rattle.qgm_terms.specs.Substitution.{substituted_cond}
use Rattle.rule_push.specs.PushExact.{anywhere}
use Rattle.rule_push.specs.PushIntoSelectExact.{push_into_select_given}
use Rattle.rule_push.proofs.LeavingSteps as steps
use Rattle.rule_push.proofs.push_into_select.plan_at.Goals as goal

pub leaving_at-x-requires-clause-leaves : goal.leaving_at-x-requires-clause-leaves
leaving_at-x-requires-clause-leaves c = anywhere c.args.place c.args.graph.now (push_into_select_given c.args.graph.now c.requires.formed c.args.place c.requires.given)

pub plan_push-requires-clause-from_one : goal.plan_push-requires-clause-from_one
plan_push-requires-clause-from_one c = (c.leaving_at-x.ensures (anywhere c.args.place c.args.graph.now (push_into_select_given c.args.graph.now c.requires.formed c.args.place c.requires.given))).from_one

pub plan_push-requires-clause-within : goal.plan_push-requires-clause-within
plan_push-requires-clause-within c = (c.leaving_at-x.ensures (anywhere c.args.place c.args.graph.now (push_into_select_given c.args.graph.now c.requires.formed c.args.place c.requires.given))).within

pub returns : goal.returns
returns c = λ m.
    let l = c.leaving_at-x.ensures (anywhere c.args.place c.args.graph.now m) in
    c.in_ok-m.ensures
    ∙ steps.plan-is c.leaving_at-x.result.b.now m.b (c.args.place.i - 1) (length m.ps) c.leaving_at-x.result.c.now m.c (cond c.in_ok-q.q) (substituted_cond m.r.id m.c.parts.head m.p) l.b (steps.place-is c.args.graph.now c.requires.formed c.args.place m) l.c
    (c.in_ok-q.ensures ∙ steps.put-is c.leaving_at-x.result.r m.r c.leaving_at-x.result.c.now m.c (cond c.leaving_at-x.result.p.now) m.p l.r l.c l.p)
