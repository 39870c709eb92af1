use Rattle.std.proofs.Common.{◌∷◌, [], refl}
use Rattle.sql_meaning.specs.ResolvedShown as shown
use Rattle.qgm_core.specs.declared.kinds.QuantKind.TheVariants.{F}
use Rattle.qgm_build.specs.Laying.{outer_of, told_at}
use Rattle.qgm_build_terms.specs.SoFar.{so_far}
use Rattle.qgm_build_terms.specs.Written.{frame_of}
use Rattle.qgm_build.proofs.Paired.{upper_read}
use Rattle.qgm_build.proofs.Selected.{made_of}
use Rattle.qgm_build.proofs.pairs.finish_upper.Goals as goal

pub put_select-requires : goal.put_select-requires
put_select-requires c = record { spare = c.write_upper-parts.ensures.spare }

pub returns : goal.returns
returns c =
    made_of c.put_select.result c.write_upper-parts.result c.upper_quants-quants.result _ _ _ _ _ c.put_select.ensures c.write_upper-parts.ensures.head c.write_upper-parts.ensures.conds c.upper_quants-quants.ensures
    (λ b made qs give hs cs qe. upper_read (told_at c.args.h.now.ground) (outer_of c.args.h.now.ground) c.args.z.now.distinct (shown.value_list c.args.z.now.list.now) c.args.z.now.places.now c.args.z.now.n (shown.test c.args.z.now.having.now) c.args.z.now.u c.args.z.now.groups b (frame_of c.args.h.now.frame.now) (so_far c.args.st.now) _
    c.args.subs c.as_slice.result.now c.as_slice-2.result.now [] (record { id = c.args.z.now.u; kind = F; over = c.args.z.now.groups } ∷ []) qs made.head made.conds.items
    c.requires.seen c.as_slice.ensures c.as_slice-2.ensures hs cs refl refl qe give)
