use Rattle.std.proofs.Common.{◌+◌, ◌-◌, ◌++◌, ◌∙◌, ap}
use Rattle.qgm_meaning.specs.Tags.{columns_from}
use Rattle.rule_magic.proofs.HeadSteps.{columns-step}
use Rattle.rule_magic.proofs.heads.add_columns.Goals as goal

pub loop-k-preserved : goal.loop-k-preserved
loop-k-preserved c =
    ap (λ z. z ++ columns_from c.args.q (c.loop-k.k + 1 + 1) (c.args.end - (c.loop-k.k + 1))) c.in_ok-push.ensures.ok
    ∙ columns-step c.loop-k.head c.args.q c.loop-k.k c.args.end c.loop-k-test.true
    ∙ c.loop-k.invariant
