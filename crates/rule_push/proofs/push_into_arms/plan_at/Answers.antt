use Rattle.std.proofs.Common.{◌-◌, ◌∙◌, ◌∷◌, length, ap, []}
use Rattle.qgm_core.specs.Boxes.{is_box}
use Rattle.list_laws.specs.Lists.{first}
use Rattle.qgm_core.specs.declared.node.Node.{Node}
use Rattle.qgm_terms.specs.Shown.{cond}
use Rattle.qgm_terms.specs.Substitution.{substituted_cond}
use Rattle.rule_push.specs.PushExact.{anywhere}
use Rattle.rule_push.specs.PushIntoArmsExact.{push_into_arms_given}
use Rattle.rule_push.proofs.LeavingSteps as steps
use Rattle.rule_push.proofs.push_into_arms.plan_at.Goals as goal

pub leaving_at-x-requires-clause-leaves : goal.leaving_at-x-requires-clause-leaves
leaving_at-x-requires-clause-leaves c = anywhere c.args.place c.args.graph.now (push_into_arms_given c.args.graph.now c.requires.formed c.args.place c.requires.given)

pub unreachable-requires : goal.unreachable-requires
unreachable-requires c =
    let m = push_into_arms_given c.args.graph.now c.requires.formed c.args.place c.requires.given in
    let l = c.leaving_at-x.ensures (anywhere c.args.place c.args.graph.now m) in
    steps.no-first c.as_slice.result.now m.fits.s (m.fits.t ∷ []) (c.as_slice.ensures ∙ ap (λ (z : Node). z.quants) l.c ∙ m.fits.two) c.in_default.ensures

pub unreachable-requires-in_default-second_range : goal.unreachable-requires-in_default-second_range
unreachable-requires-in_default-second_range c =
    let m = push_into_arms_given c.args.graph.now c.requires.formed c.args.place c.requires.given in
    let l = c.leaving_at-x.ensures (anywhere c.args.place c.args.graph.now m) in
    steps.no-second c.as_slice-2.result.now m.fits.s m.fits.t [] (c.as_slice-2.ensures ∙ ap (λ (z : Node). z.quants) l.c ∙ m.fits.two) c.in_default-second_range.ensures

pub unreachable-requires-in_default-box_at : goal.unreachable-requires-in_default-box_at
unreachable-requires-in_default-box_at c =
    let m = push_into_arms_given c.args.graph.now c.requires.formed c.args.place c.requires.given in
    let l = c.leaving_at-x.ensures (anywhere c.args.place c.args.graph.now m) in
    let s = steps.first-is c.as_slice.result.now m.fits.s (m.fits.t ∷ []) (c.as_slice.ensures ∙ ap (λ (z : Node). z.quants) l.c ∙ m.fits.two) c.in-Some.s c.in-Some.ensures in
    steps.nothing-under c.args.graph.now.boxes m.fits.s c.in-Some.s m.fits.n m.fits.first.under s (c.in_default-box_at.ensures ∙ ap (first (is_box c.in-Some.s.over)) c.nodes.ensures)

pub unreachable-requires-in_default-box_at-2 : goal.unreachable-requires-in_default-box_at-2
unreachable-requires-in_default-box_at-2 c =
    let m = push_into_arms_given c.args.graph.now c.requires.formed c.args.place c.requires.given in
    let l = c.leaving_at-x.ensures (anywhere c.args.place c.args.graph.now m) in
    let t = steps.second-is c.as_slice-2.result.now m.fits.s m.fits.t [] (c.as_slice-2.ensures ∙ ap (λ (z : Node). z.quants) l.c ∙ m.fits.two) c.in-Some-second_range.t c.in-Some-second_range.ensures in
    steps.nothing-under c.args.graph.now.boxes m.fits.t c.in-Some-second_range.t m.fits.m m.fits.second.under t (c.in_default-box_at-2.ensures ∙ ap (first (is_box c.in-Some-second_range.t.over)) c.nodes-2.ensures)

pub plan_push_both-requires-clause-from_one : goal.plan_push_both-requires-clause-from_one
plan_push_both-requires-clause-from_one c = (c.leaving_at-x.ensures (anywhere c.args.place c.args.graph.now (push_into_arms_given c.args.graph.now c.requires.formed c.args.place c.requires.given))).from_one

pub plan_push_both-requires-clause-within : goal.plan_push_both-requires-clause-within
plan_push_both-requires-clause-within c = (c.leaving_at-x.ensures (anywhere c.args.place c.args.graph.now (push_into_arms_given c.args.graph.now c.requires.formed c.args.place c.requires.given))).within

pub returns : goal.returns
returns c = λ m.
    let l = c.leaving_at-x.ensures (anywhere c.args.place c.args.graph.now m) in
    let s = steps.first-is c.as_slice.result.now m.fits.s (m.fits.t ∷ []) (c.as_slice.ensures ∙ ap (λ (z : Node). z.quants) l.c ∙ m.fits.two) c.in-Some.s c.in-Some.ensures in
    let t = steps.second-is c.as_slice-2.result.now m.fits.s m.fits.t [] (c.as_slice-2.ensures ∙ ap (λ (z : Node). z.quants) l.c ∙ m.fits.two) c.in-Some-second_range.t c.in-Some-second_range.ensures in
    let n = steps.under-is c.args.graph.now.boxes m.fits.s c.in-Some.s m.fits.n c.in-Some-box_at.n.now m.fits.first.under s (c.in-Some-box_at.ensures ∙ ap (first (is_box c.in-Some.s.over)) c.nodes.ensures) in
    let o = steps.under-is c.args.graph.now.boxes m.fits.t c.in-Some-second_range.t m.fits.m c.in-Some-box_at-2.m.now m.fits.second.under t (c.in-Some-box_at-2.ensures ∙ ap (first (is_box c.in-Some-second_range.t.over)) c.nodes-2.ensures) in
    c.in_ok-arms.ensures
    ∙ steps.arms-are c.leaving_at-x.result.b.now m.b (c.args.place.i - 1) (length m.ps) c.in-Some-box_at.n.now m.fits.n (cond c.in_ok-p.p) (substituted_cond m.r.id m.fits.n.parts.head m.p) c.in-Some-box_at-2.m.now m.fits.m (cond c.in_ok-q.q) (substituted_cond m.r.id m.fits.m.parts.head m.p)
    l.b (steps.place-is c.args.graph.now c.requires.formed c.args.place m) n
    (c.in_ok-p.ensures ∙ steps.put-is c.leaving_at-x.result.r m.r c.in-Some-box_at.n.now m.fits.n (cond c.leaving_at-x.result.p.now) m.p l.r n l.p) o
    (c.in_ok-q.ensures ∙ steps.put-is c.leaving_at-x.result.r m.r c.in-Some-box_at-2.m.now m.fits.m (cond c.leaving_at-x.result.p.now) m.p l.r o l.p)
