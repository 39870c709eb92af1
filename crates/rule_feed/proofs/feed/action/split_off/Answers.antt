use Rattle.std.proofs.Common.{ℕ, ◌≡◌, ◌∙◌, List, Some, ap, ap₂, subst, sym}
use Rattle.std.proofs.lemmas.Result.{IfOk-weaker}
use Rattle.qgm_core.specs.Boxes.{box_of, is_box, numbers}
use Rattle.list_laws.specs.Lists.{In, first}
use Rattle.qgm_core.specs.declared.node.Node.{Node}
use Rattle.rule_feed.specs.FeedCode.{as_parted}
use Rattle.rule_feed.specs.FeedSteps.{Parted, parted, split_edits}
use Rattle.rule_feed.proofs.SplitParts.{as-is, box-found, owned, there, within}
use Rattle.rule_feed.proofs.feed.action.split_off.Goals as goal

pub unreachable-requires : goal.unreachable-requires
unreachable-requires c = box-found c.args.after.now c.args.b c.requires.held (sym (c.in_default.ensures ∙ ap (first (is_box c.args.b)) c.nodes-2.ensures))

pub make_split-requires-clause-all : goal.make_split-requires-clause-all
make_split-requires-clause-all c = λ y i. c.requires.all y (subst (λ z. In y z) (c.deref.ensures.value ∙ c.in_ok-ids.ensures ∙ ap numbers c.nodes.ensures) i)

pub make_split-requires-clause-owned : goal.make_split-requires-clause-owned
make_split-requires-clause-owned c =
    owned c.args.graph.now c.args.after.now c.args.b c.args.c c.in-Some.node.now (sym (c.in-Some.ensures ∙ ap (first (is_box c.args.b)) c.nodes-2.ensures)) c.in_ok-x.x c.in_ok-x.ensures

pub make_split-requires-clause-within : goal.make_split-requires-clause-within
make_split-requires-clause-within c =
    within c.args.graph.now c.args.after.now c.args.b c.args.c c.in-Some.node.now (sym (c.in-Some.ensures ∙ ap (first (is_box c.args.b)) c.nodes-2.ensures)) c.in_ok-x.x c.in_ok-x.ensures

pub returns-clause-graph : goal.returns-clause-graph
returns-clause-graph c = IfOk-weaker c.make_split.result _ _ (λ y e. λ n k.
    let bs : List Node = c.args.graph.now.boxes in
    let found : box_of c.args.b c.args.after.now ≡ Some c.in-Some.node.now = sym (c.in-Some.ensures ∙ ap (first (is_box c.args.b)) c.nodes-2.ensures) in
    e
    ∙ ap₂ (λ (ids : List ℕ) (ns : List Node). split_edits ids ns c.args.b (as_parted c.in_ok-x.x) y.s y.q c.args.after.now) (c.deref.ensures.value ∙ c.in_ok-ids.ensures ∙ ap numbers c.nodes.ensures) c.nodes-3.ensures
    ∙ ap (λ (p : Parted). split_edits (numbers bs) bs c.args.b p y.s y.q c.args.after.now)
    (as-is c.args.graph.now c.args.after.now c.args.b c.args.c c.in-Some.node.now found c.in_ok-x.x c.in_ok-x.ensures
    ∙ sym (ap (λ (m : Node). parted bs m c.args.c) (there c.args.graph.now c.args.after.now c.args.b c.args.c c.in-Some.node.now found c.in_ok-x.x c.in_ok-x.ensures n k)))) c.make_split.ensures.graph
