use Rattle.std.proofs.Common.{◌++◌, ◌∷◌, [], ◌+◌, ◌-◌, ◌∙◌, List, ap, map}
use Rattle.sql_value.specs.declared.order_key.SqlType.{SqlType}
use Rattle.qgm_translation.specs.Shown.{columns_of}
use Rattle.qgm_translation.specs.Typing.{typed_by}
use Rattle.qgm_build_terms.proofs.Lists.{types_more}
use Rattle.qgm_build.proofs.pairs.pair_types.Goals as goal

pub loop-i-preserved : goal.loop-i-preserved
loop-i-preserved c =
    ap (λ (z : List SqlType). z ++ map (typed_by c.args.st.now.rows.items) (columns_of c.args.q (c.loop-i.i + 1 + 1) (c.args.n - (c.loop-i.i + 1)))) (c.in_ok-push.ensures.ok ∙ ap (λ (t : SqlType). c.loop-i.types ++ t ∷ []) c.row_type.ensures)
    ∙ types_more _ c.args.st.now.rows.items c.args.q c.loop-i.i c.args.n c.loop-i.types c.loop-i-test.true c.loop-i.invariant
