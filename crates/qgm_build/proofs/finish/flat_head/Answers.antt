use Rattle.std.proofs.Common.{ap, refl}
use Rattle.std.proofs.lemmas.Result.{IfOk-weaker}
use Rattle.sql_meaning.specs.ResolvedShown as shown
use Rattle.qgm_translation.specs.Lay.{laying}
use Rattle.qgm_build.specs.Laying.{told_at}
use Rattle.qgm_build_terms.specs.Site.{sources_at}
use Rattle.qgm_build_terms.specs.SoFar.{so_far}
use Rattle.qgm_build_terms.specs.Written.{frame_of}
use Rattle.qgm_build.proofs.Finished.{flat_head_read}
use Rattle.qgm_build.proofs.finish.flat_head.Goals as goal

pub returns : goal.returns
returns c =
    IfOk-weaker c.seen_head.result _ _ (λ h e. flat_head_read (sources_at c.site_of.result) (laying (told_at c.args.g.now) (so_far c.args.st.now)) (shown.from c.args.x.now) c.args.fs.now _ _ _ h h
    c.site_of.ensures.sources (ap frame_of c.new-seen.ensures.items) c.in_ok-frame.ensures.frame (ap frame_of c.deref.ensures.value) e refl) c.seen_head.ensures
