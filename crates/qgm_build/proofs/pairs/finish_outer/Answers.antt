use Rattle.std.proofs.Common.{◌++◌, refl, suc}
use Rattle.sql_meaning.specs.ResolvedShown as shown
use Rattle.qgm_translation.specs.Shown.{refs}
use Rattle.qgm_translation.specs.Sources.{from_width}
use Rattle.qgm_build.specs.Laying.{outer_of, told_at}
use Rattle.qgm_build_terms.specs.SoFar.{so_far}
use Rattle.qgm_build.proofs.Paired.{outer_read}
use Rattle.qgm_build.proofs.Selected.{made_on}
use Rattle.qgm_build.proofs.Taking.{and_both}
use Rattle.qgm_build.proofs.pairs.finish_outer.Goals as goal

pub returns : goal.returns
returns c =
    let seen = refs c.args.st.now.next_quant 1 (from_width (told_at c.args.g.now) (shown.from c.args.x.now)) ++ refs (suc c.args.st.now.next_quant) 1 c.args.n in
    made_on c.put_outer.result c.outer_parts-parts.result c.pair-quants.result _ _ _ _ _ _ c.put_outer.ensures c.outer_parts-parts.ensures.head c.outer_parts-parts.ensures.conds c.pair-quants.ensures.quants c.pair-quants.ensures.store
    (λ r made qs give hs cs qe se. and_both c.args.a c.args.b _ _ _ qe se
    (λ left right es ss. outer_read (told_at c.args.g.now) (outer_of c.args.g.now) (shown.from c.args.x.now) c.args.n (shown.test c.args.p.now) left right r (so_far c.args.st.now) (so_far c.pair-quants.new.st) _ qs seen seen seen made.conds.items made.head
    es ss refl refl refl cs hs give))
