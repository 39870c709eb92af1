use Rattle.std.proofs.lemmas.Grind.{common_steps}
use Rattle.std.proofs.Common.{[], ap, arith, refl}
use Rattle.sql_meaning.specs.ResolvedShown as shown
use Rattle.qgm_translation.specs.Lay.{laying}
use Rattle.qgm_translation.specs.Folds.{on_folds}
use Rattle.qgm_build.specs.Laying.{outer_of, told_at}
use Rattle.qgm_build_terms.specs.Site.{sources_at}
use Rattle.qgm_build_terms.specs.SoFar.{so_far}
use Rattle.qgm_build_terms.specs.Written.{frame_of}
use Rattle.qgm_build.proofs.Finished.{flat_conds_read}
use Rattle.qgm_build.proofs.finish.flat_conds.Goals as goal

pub returns-clause-conds : goal.returns-clause-conds
returns-clause-conds c =
    flat_conds_read (sources_at c.site_of.result) (laying (told_at c.args.g.now) (so_far c.args.st.now)) (outer_of c.args.g.now) (shown.from c.args.x.now) c.args.fs.now c.args.subs.now [] (on_folds (shown.from c.args.x.now)) (on_folds (shown.from c.args.x.now)) _ (frame_of c.deref.result.now) _ _
    c.site_of.ensures.sources refl refl refl c.in_ok-cells.ensures (ap frame_of c.deref.ensures.value) c.new-conds.ensures.items c.in_ok-on_conds.ensures.conds

pub returns-clause-spare : goal.returns-clause-spare
returns-clause-spare c = grind (arith, common_steps)
