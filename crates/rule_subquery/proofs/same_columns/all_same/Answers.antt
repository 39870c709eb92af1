use Rattle.std.proofs.Common.{◌+◌, ◌-◌, ◌∙◌, ap, arith}
use Rattle.qgm_terms.specs.Shown.{cond}
use Rattle.qgm_terms.specs.Terms.{and, anded}
use Rattle.qgm_edit_laws.specs.SameColumns.{sames}
use Rattle.rule_subquery.proofs.SameColumnsSteps.{sames-step}
use Rattle.rule_subquery.proofs.same_columns.all_same.Goals as goal

pub loop-k-preserved : goal.loop-k-preserved
loop-k-preserved c = (
  omega arith,
  omega (arith, c.loop-k-test.true),
  ap (λ p. anded p (sames c.args.l c.args.r (c.loop-k.k + 1 + 1) (c.args.w - (c.loop-k.k + 1)))) (c.in_ok-total-2.ensures ∙ ap (and (cond c.loop-k.total)) c.in_ok-next.ensures)
      ∙ sames-step (cond c.loop-k.total) c.args.l c.args.r c.loop-k.k c.args.w c.loop-k-test.true
      ∙ c.loop-k.invariant.2,
)
