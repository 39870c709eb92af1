use Rattle.std.proofs.Common.{◌+◌, ◌-◌, ◌++◌, ◌∷◌, [], ◌∙◌, ap}
use Rattle.rule_magic.specs.Boxes.{same_each}
use Rattle.rule_magic.proofs.HeadSteps.{sames-step}
use Rattle.rule_magic.proofs.tags.add_same.Goals as goal

pub loop-k-preserved : goal.loop-k-preserved
loop-k-preserved c = record {
  items =
      ap (λ z. z ++ same_each c.args.p c.args.q (c.loop-k.k + 1 + 1) (c.args.w - (c.loop-k.k + 1))) (c.in_ok-add.ensures.ok ∙ ap (λ p. c.loop-k.all.items ++ p ∷ []) c.in_ok-c.ensures)
      ∙ sames-step c.loop-k.all.items c.args.p c.args.q c.loop-k.k c.args.w c.loop-k-test.true
      ∙ c.loop-k.invariant.items;
  spare = c.in_ok-add.ensures.spare ∙ c.loop-k.invariant.spare;
}
