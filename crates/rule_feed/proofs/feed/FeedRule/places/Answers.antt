use Rattle.std.proofs.Common.{◌∙◌, ap, sym}
use Rattle.std.proofs.lemmas.Result.{IfOk-weaker}
use Rattle.qgm_core.specs.Boxes.{is_box}
use Rattle.list_laws.specs.Lists.{first}
use Rattle.rule_feed.specs.FeedMayExact.{feed-ascend}
use Rattle.rule_feed.proofs.FeedPlaces.{places-of}
use Rattle.rule_feed.proofs.feed.FeedRule.places.Goals as goal

pub returns-in_default-clause-order : goal.returns-in_default-clause-order
returns-in_default-clause-order c = feed-ascend c.args.graph.now c.args.b

pub returns-then-not-may_grow-clause-order : goal.returns-then-not-may_grow-clause-order
returns-then-not-may_grow-clause-order c = feed-ascend c.args.graph.now c.args.b

pub returns-clause-order : goal.returns-clause-order
returns-clause-order c = feed-ascend c.args.graph.now c.args.b

pub returns-clause-list : goal.returns-clause-list
returns-clause-list c = IfOk-weaker c.places_in.result _ _ (λ v h. h ∙ places-of c.args.graph.now c.args.b c.in-Some.node.now (sym (c.in-Some.ensures ∙ ap (first (is_box c.args.b)) c.nodes.ensures))) c.places_in.ensures.list
