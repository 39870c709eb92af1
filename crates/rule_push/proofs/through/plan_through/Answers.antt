use Rattle.std.proofs.Common.{◌-◌, ◌∙◌, length, ap}
use Rattle.qgm_core.specs.Boxes.{is_box}
use Rattle.list_laws.specs.Lists.{first}
use Rattle.qgm_core.specs.declared.node.Node.{Node}
use Rattle.qgm_terms.specs.Shown.{cond}
use Rattle.qgm_terms.specs.Substitution.{substituted_cond}
use Rattle.rule_push.specs.PushExact.{anywhere}
use Rattle.rule_push.proofs.LeavingSteps as steps
use Rattle.rule_push.proofs.through.plan_through.Goals as goal

pub leaving_at-x-requires-clause-leaves : goal.leaving_at-x-requires-clause-leaves
leaving_at-x-requires-clause-leaves c = anywhere c.args.place c.args.graph.now c.requires.leaves

pub unreachable-requires : goal.unreachable-requires
unreachable-requires c =
    let m = c.requires.leaves in
    let l = c.leaving_at-x.ensures (anywhere c.args.place c.args.graph.now m) in
    steps.no-first c.as_slice.result.now m.fits.s m.fits.others (c.as_slice.ensures ∙ ap (λ (z : Node). z.quants) l.c ∙ m.fits.quants) c.in_default.ensures

pub unreachable-requires-in_default-box_at : goal.unreachable-requires-in_default-box_at
unreachable-requires-in_default-box_at c =
    let m = c.requires.leaves in
    let l = c.leaving_at-x.ensures (anywhere c.args.place c.args.graph.now m) in
    let s = steps.first-is c.as_slice.result.now m.fits.s m.fits.others (c.as_slice.ensures ∙ ap (λ (z : Node). z.quants) l.c ∙ m.fits.quants) c.in-Some.s c.in-Some.ensures in
    steps.nothing-under c.args.graph.now.boxes m.fits.s c.in-Some.s m.fits.n m.fits.under s (c.in_default-box_at.ensures ∙ ap (first (is_box c.in-Some.s.over)) c.nodes.ensures)

pub plan_push-requires-clause-from_one : goal.plan_push-requires-clause-from_one
plan_push-requires-clause-from_one c = (c.leaving_at-x.ensures (anywhere c.args.place c.args.graph.now c.requires.leaves)).from_one

pub plan_push-requires-clause-within : goal.plan_push-requires-clause-within
plan_push-requires-clause-within c = (c.leaving_at-x.ensures (anywhere c.args.place c.args.graph.now c.requires.leaves)).within

pub returns : goal.returns
returns c = λ m.
    let l = c.leaving_at-x.ensures (anywhere c.args.place c.args.graph.now m) in
    let s = steps.first-is c.as_slice.result.now m.fits.s m.fits.others (c.as_slice.ensures ∙ ap (λ (z : Node). z.quants) l.c ∙ m.fits.quants) c.in-Some.s c.in-Some.ensures in
    let n = steps.under-is c.args.graph.now.boxes m.fits.s c.in-Some.s m.fits.n c.in-Some-box_at.n.now m.fits.under s (c.in-Some-box_at.ensures ∙ ap (first (is_box c.in-Some.s.over)) c.nodes.ensures) in
    c.in_ok-m.ensures
    ∙ steps.plan-is c.leaving_at-x.result.b.now m.b (c.args.place.i - 1) (length m.ps) c.in-Some-box_at.n.now m.fits.n (cond c.in_ok-below.below) (substituted_cond m.fits.s.id m.fits.n.parts.head (substituted_cond m.r.id m.c.parts.head m.p))
    l.b (steps.place-is c.args.graph.now c.requires.formed c.args.place m) n
    (c.in_ok-below.ensures ∙ steps.put-is c.in-Some.s m.fits.s c.in-Some-box_at.n.now m.fits.n (cond c.in_ok-above.above) (substituted_cond m.r.id m.c.parts.head m.p) s n
    (c.in_ok-above.ensures ∙ steps.put-is c.leaving_at-x.result.r m.r c.leaving_at-x.result.c.now m.c (cond c.leaving_at-x.result.p.now) m.p l.r l.c l.p))
