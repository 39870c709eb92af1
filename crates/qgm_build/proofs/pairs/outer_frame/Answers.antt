use Rattle.std.proofs.Common.{◌∙◌, ap, sym}
use Rattle.sql_meaning.specs.ResolvedShown as shown
use Rattle.qgm_build.specs.Laying.{told_at}
use Rattle.qgm_build_terms.specs.Site.{sources_at}
use Rattle.qgm_build_terms.specs.SoFar.{so_far}
use Rattle.qgm_build_terms.specs.Written.{frame_of}
use Rattle.qgm_build.proofs.Finished.{outer_frame_read}
use Rattle.qgm_build.proofs.Taking.{all_two}
use Rattle.qgm_build.proofs.pairs.outer_frame.Goals as goal

pub returns : goal.returns
returns c =
    let both = all_two c.push_refs-left.result c.push_refs-right.result _ (sym c.and.ensures ∙ c.in_ok-and.was) c.push_refs-left.ensures c.push_refs-right.ensures in
    outer_frame_read (told_at c.args.g.now) (sources_at c.site_of.result) (so_far c.args.st.now) (shown.from c.args.x.now) c.args.q _ c.args.n _ _ _ (frame_of c.push_refs-right.new.frame.items)
    c.site_of.ensures.sources c.in_ok-width.ensures (ap frame_of c.new-seen.ensures.items) both.0 c.in_ok-next.ensures both.1
