use Rattle.std.proofs.Common.{◌∙◌, ap, map, sym}
use Rattle.std.proofs.lemmas.Result.{IfOk-weaker}
use Rattle.qgm_core.specs.Boxes.{is_box}
use Rattle.list_laws.specs.Lists.{first}
use Rattle.qgm_terms.specs.Shown.{cond}
use Rattle.rule_trans.specs.Adding.{add_plan}
use Rattle.rule_trans.specs.Literals.{numbered, shown_conjunct, shown_fixed}
use Rattle.rule_trans.proofs.FixedPlaces.{implied_told}
use Rattle.rule_trans.proofs.EqualLiteralPlans.{from_one, from_one_second, no_box, planned, some_implied, within, within_second}
use Rattle.rule_trans.proofs.equal_literal.plan_at.Goals as goal

pub unreachable-requires : goal.unreachable-requires
unreachable-requires c = no_box c.args.graph.now c.args.place c.requires.given (sym (c.in_default.ensures ∙ ap (first (is_box c.args.place.at)) c.nodes.ensures))

pub at-c-requires-clause-from_one : goal.at-c-requires-clause-from_one
at-c-requires-clause-from_one c = from_one c.args.graph.now c.args.place c.requires.given

pub at-c-requires-clause-within : goal.at-c-requires-clause-within
at-c-requires-clause-within c = within c.args.graph.now c.args.place c.requires.given c.in-Some.node.now (sym (c.in-Some.ensures ∙ ap (first (is_box c.args.place.at)) c.nodes.ensures))

pub at-d-requires-clause-from_one : goal.at-d-requires-clause-from_one
at-d-requires-clause-from_one c = from_one_second c.args.graph.now c.args.place c.requires.given

pub at-d-requires-clause-within : goal.at-d-requires-clause-within
at-d-requires-clause-within c = within_second c.args.graph.now c.args.place c.requires.given c.in-Some.node.now (sym (c.in-Some.ensures ∙ ap (first (is_box c.args.place.at)) c.nodes.ensures))

pub unreachable-requires-in_default-implied : goal.unreachable-requires-in_default-implied
unreachable-requires-in_default-implied c =
    let same = implied_told c.args.graph.now c.in-Some.node.now (map shown_conjunct c.deref.result.now) (ap (map shown_conjunct) c.deref.ensures.value ∙ c.in_ok-all.ensures ∙ ap (numbered 1) c.as_slice.ensures) (cond c.at-c.result.now) (cond c.at-d.result.now) in
    some_implied c.args.graph.now c.args.place c.requires.given c.in-Some.node.now (sym (c.in-Some.ensures ∙ ap (first (is_box c.args.place.at)) c.nodes.ensures))
    (cond c.at-c.result.now) (cond c.at-d.result.now) c.at-c.ensures c.at-d.ensures (c.in_default-implied.ensures ∙ same)

pub returns : goal.returns
returns c =
    let same = implied_told c.args.graph.now c.in-Some.node.now (map shown_conjunct c.deref.result.now) (ap (map shown_conjunct) c.deref.ensures.value ∙ c.in_ok-all.ensures ∙ ap (numbered 1) c.as_slice.ensures) (cond c.at-c.result.now) (cond c.at-d.result.now) in
    IfOk-weaker c.plan_add.result _ _ (λ m e.
    planned c.args.graph.now c.args.place c.requires.given c.in-Some.node.now (sym (c.in-Some.ensures ∙ ap (first (is_box c.args.place.at)) c.nodes.ensures))
    (cond c.at-c.result.now) (cond c.at-d.result.now) c.at-c.ensures c.at-d.ensures (shown_fixed c.in-Some-implied.f) (c.in-Some-implied.ensures ∙ same) m
    (e ∙ ap (add_plan c.in-Some.node.now) c.in_ok-p.ensures)) c.plan_add.ensures
