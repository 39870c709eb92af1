use Rattle.std.proofs.Common.{◌++◌, ◌∙◌, ap}
use Rattle.sql_meaning.specs.ResolvedShown as shown
use Rattle.qgm_translation.specs.Lay.{box_named}
use Rattle.qgm_translation.specs.Shown.{frame_all}
use Rattle.qgm_translation.specs.Sources.{Sources}
use Rattle.qgm_translation.specs.Typing.{typed_by}
use Rattle.qgm_build.specs.Laying.{told_at}
use Rattle.qgm_build_terms.specs.Site.{sources_at}
use Rattle.qgm_build_terms.specs.SoFar.{so_far}
use Rattle.qgm_build_terms.specs.Written.{frame_of}
use Rattle.qgm_build.proofs.Same.{frame_all_same}
use Rattle.qgm_build.proofs.lay.from_frame.Goals as goal

pub returns : goal.returns
returns c =
    let from = shown.from_list c.args.from.now in
    c.in_ok-frame_all.ensures.frame ∙ ap (λ ys. frame_of ys ++ frame_all (sources_at c.site_of.result) from c.args.fs.now) c.new-out.ensures.items
    ∙ ap (λ (w : Sources). frame_all w from c.args.fs.now) c.site_of.ensures.sources ∙ frame_all_same (told_at c.args.g.now) (box_named (so_far c.args.st.now).shared) (typed_by (so_far c.args.st.now).rows) from c.args.fs.now
