use Rattle.std.proofs.Common.{◌∙◌, List, ℕ, ap, sym}
use Rattle.std.proofs.lemmas.Result.{IfOk-weaker}
use Rattle.rule_feed.specs.FeedCode as code
use Rattle.rule_feed.proofs.FeedConditionSteps.{may-feed-by, not-open}
use Rattle.rule_feed.proofs.feed.condition.may_feed.Goals as goal

pub returns-then-branch-clause-test : goal.returns-then-branch-clause-test
returns-then-branch-clause-test c = not-open c.args.graph.now.boxes c.args.fs.now c.args.r (sym c.in_ok-is_closed.ensures ∙ c.if-branch.true)

pub returns-clause-test : goal.returns-clause-test
returns-clause-test c = IfOk-weaker c.told.result _ _
    (λ v h. h ∙ ap (λ (qs : List ℕ). code.told c.args.graph.now.boxes c.args.fs.now c.args.r qs) (c.deref.ensures.value ∙ c.in_ok-free.ensures)
    ∙ may-feed-by c.args.graph.now.boxes c.args.fs.now c.args.r (sym c.in_ok-is_closed.ensures ∙ c.if-branch.false))
    c.told.ensures.test
