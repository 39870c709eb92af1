use Rattle.std.proofs.lemmas.Grind.{common_steps}
use Rattle.std.proofs.Common.{refl, arith}
use Rattle.sql_meaning.specs.ResolvedShown as shown
use Rattle.qgm_build.specs.Laying.{outer_of, told_at}
use Rattle.qgm_build_terms.specs.SoFar.{so_far}
use Rattle.qgm_build.proofs.Selected.{flat_read, made_of}
use Rattle.qgm_build.proofs.finish.finish_flat.Goals as goal

pub returns : goal.returns
returns c =
    made_of c.put_select.result c.flat_parts-parts.result c.all_quants.result _ _ _ _ _ c.put_select.ensures c.flat_parts-parts.ensures.head c.flat_parts-parts.ensures.conds c.all_quants.ensures
    (λ b made qs give hs cs qe. flat_read (told_at c.args.g.now) (outer_of c.args.g.now) (shown.from c.args.x.now) (so_far c.args.st.now)
    c.args.fs c.args.subs c.as_slice.result.now c.as_slice.result.now c.as_slice-2.result.now c.args.subs made.head made.conds.items qs b _ c.as_slice.ensures c.as_slice.ensures c.as_slice-2.ensures refl hs cs qe give)

pub put_select-requires : goal.put_select-requires
put_select-requires c = grind (arith, common_steps)
