use Rattle.std.proofs.Common.{ℕ, suc, ◌+◌, ◌-◌, ◌++◌, Bool, [], ◌∷◌, ap, ◌∙◌}
use Rattle.rule_feed.specs.FeedCode.{named_among}
use Rattle.rule_feed.specs.NamedColumns.{flags}
use Rattle.rule_feed.proofs.NamedSteps.{flags-next}
use Rattle.rule_feed.proofs.feed.named.flags.Goals as goal

pub loop-k-preserved : goal.loop-k-preserved
loop-k-preserved c =
    let named : ℕ → Bool = λ k. named_among c.args.marks.now c.args.q k c.args.nodes.now in
    ap (λ z. z ++ flags named (suc (c.loop-k.k + 1)) (c.args.w - (c.loop-k.k + 1))) (c.in_ok-push.ensures.items ∙ ap (λ (t : Bool). c.loop-k.list.items ++ t ∷ []) c.is_named.ensures)
    ∙ flags-next c.loop-k.list.items named c.loop-k.k c.args.w c.loop-k-test.true
    ∙ c.loop-k.invariant
