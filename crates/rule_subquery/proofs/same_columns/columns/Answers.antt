use Rattle.std.proofs.Common.{◌+◌, ◌-◌, ◌++◌, ◌∙◌, ap, arith}
use Rattle.qgm_edit_laws.specs.Ranges.{columns_from}
use Rattle.rule_subquery.proofs.SameColumnsSteps.{columns-step}
use Rattle.rule_subquery.proofs.same_columns.columns.Goals as goal

pub loop-k-preserved : goal.loop-k-preserved
loop-k-preserved c = (
  omega (arith, c.loop-k-test.true),
  ap (λ z. z ++ columns_from c.args.q (c.loop-k.k + 1 + 1) (c.args.w - (c.loop-k.k + 1))) c.in_ok-push.ensures.ok
      ∙ columns-step c.loop-k.head c.args.q c.loop-k.k c.args.w c.loop-k-test.true
      ∙ c.loop-k.invariant.1,
)
