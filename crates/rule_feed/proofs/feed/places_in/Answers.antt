use Rattle.std.proofs.Common.{◌∙◌, ◌+◌, ◌++◌, ◌≡◌, List, ap, drop, map, subst, sym}
use Rattle.qgm_core.specs.declared.owned.OwnedQuant.{OwnedQuant}
use Rattle.rule_api.specs.Picks.{picks}
use Rattle.rule_api.specs.Rules.{place_at}
use Rattle.rule_feed.specs.FeedCode as code
use Rattle.rule_feed.specs.FeedCode.{fs}
use Rattle.rule_feed.proofs.FeedConditionSteps.{own-closed}
use Rattle.rule_feed.proofs.FeedPlaces.{all-picked, none-picked}
use Rattle.rule_feed.proofs.feed.places_in.Goals as goal

pub returns-then-not-branch-clause-list : goal.returns-then-not-branch-clause-list
returns-then-not-branch-clause-list c =
    c.new-out.ensures.items
    ∙ sym (ap (map (place_at c.args.b)) (none-picked c.args.graph.now.boxes c.args.node.now (own-closed c.args.graph.now.boxes c.args.node.now c.requires.grow ∙ sym c.in_ok-is_closed.ensures ∙ c.if-not-branch.true) 1 c.args.node.now.quants))

pub returns-clause-list : goal.returns-clause-list
returns-clause-list c =
    all-picked c.args.graph.now.boxes c.args.b c.args.node.now
    (own-closed c.args.graph.now.boxes c.args.node.now c.requires.grow ∙ sym c.in_ok-is_closed.ensures ∙ c.if-not-branch.false)
    c.loop-k.out.items c.loop-k.k c.as_slice-list.result.now c.as_slice-list.ensures c.loop-k-test.false
    (subst
    (λ (qs : List OwnedQuant). c.loop-k.out.items ++ map (place_at c.args.b) (picks (code.may_feed c.args.graph.now.boxes qs) (c.loop-k.k + 1) (drop c.loop-k.k c.as_slice-list.result.now)) ≡ map (place_at c.args.b) (picks (code.may_feed c.args.graph.now.boxes qs) 1 c.as_slice-list.result.now))
    (c.in_ok-fs.ensures ∙ ap fs c.as_slice-list.ensures) c.loop-k.invariant.places)
