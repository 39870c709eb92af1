use Rattle.std.proofs.Common.{◌∙◌, ap, ap₂, cond, map}
use Rattle.std.proofs.lemmas.Result.{IfOk-weaker}
use Rattle.sql_value.specs.declared.level.Level.TheVariants.{Yes}
use Rattle.row_bag.specs.Bags.{same_level}
use Rattle.row_bag.specs.Matched.{often, part}
use Rattle.row_bag.proofs.matched.matching.Goals as goal

pub returns : goal.returns
returns c = IfOk-weaker c.parted.result _ _
    (λ rows h t m.
    h t m
    ∙ ap₂ (λ a b. cond (same_level Yes m) (part c.args.matched a b) 0)
    (ap (λ ts. often t (map (λ x. x.now) ts)) c.as_slice.ensures.value ∙ c.in_ok-xs.ensures t)
    (c.in_ok-index.ensures.counts t))
    c.parted.ensures
