use Rattle.std.proofs.Common.{map, refl}
use Rattle.std.proofs.lemmas.Result.{IfOk-weaker}
use Rattle.qgm_terms.specs.Shown.{terms}
use Rattle.qgm_translation.specs.Lay.{laying}
use Rattle.qgm_build_terms.specs.Folds.{leaf_of}
use Rattle.qgm_build.specs.Laying.{told_at}
use Rattle.qgm_build_terms.specs.SoFar.{so_far}
use Rattle.qgm_build_terms.specs.Written.{frame_of}
use Rattle.qgm_build.proofs.Finished.{rows_list_read}
use Rattle.qgm_build.proofs.finish.rows_terms.Goals as goal

pub returns : goal.returns
returns c =
    IfOk-weaker c.padded.result _ _ (λ v e. rows_list_read (laying (told_at c.args.g.now) (so_far c.args.st.now)) (laying (told_at c.args.g.now) (so_far c.args.st.now)) c.args.x.now.places.now (map leaf_of c.args.x.now.folds.now) (frame_of c.args.frame.now) (frame_of c.args.frame.now) _ _ (terms v.items)
    refl refl c.in_ok-list.ensures c.in_ok-add_arguments.ensures e) c.padded.ensures
