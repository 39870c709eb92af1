use Rattle.std.proofs.Common.{◌∙◌, ap, map, refl}
use Rattle.sql_meaning.specs.ResolvedShown as shown
use Rattle.qgm_build_terms.specs.Folds.{leaf_of}
use Rattle.qgm_build.specs.Laying.{outer_of, told_at}
use Rattle.qgm_build_terms.specs.SoFar.{so_far}
use Rattle.qgm_build_terms.specs.Written.{frame_of}
use Rattle.qgm_build.proofs.Selected.{rows_read, made_of}
use Rattle.qgm_build.proofs.finish.finish_rows.Goals as goal

pub returns : goal.returns
returns c =
    made_of c.put_select.result c.rows_parts-parts.result c.all_quants.result _ _ _ _ _ c.put_select.ensures c.rows_parts-parts.ensures.head c.rows_parts-parts.ensures.conds c.all_quants.ensures
    (λ b made qs give hs cs qe. rows_read (told_at c.args.g.now) (outer_of c.args.g.now) c.args.x.now.places.now (map leaf_of c.args.x.now.folds.now) (shown.from_list c.args.x.now.from.now) (shown.test c.args.x.now.by.now) (so_far c.args.st.now)
    c.args.o.fs c.args.subs c.as_slice.result.now c.as_slice-2.result.now c.args.subs (frame_of c.deref.result.now) made.head made.conds.items qs b _ c.as_slice.ensures c.as_slice-2.ensures refl (ap frame_of c.deref.ensures.value ∙ c.requires.seen) hs cs qe give)
