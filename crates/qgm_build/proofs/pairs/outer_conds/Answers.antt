use Rattle.std.proofs.Common.{[], refl}
use Rattle.std.proofs.lemmas.Result.{IfOk-weaker}
use Rattle.sql_meaning.specs.ResolvedShown as shown
use Rattle.qgm_translation.specs.Lay.{laying}
use Rattle.qgm_translation.specs.Shown.{no_slots}
use Rattle.qgm_build.specs.Laying.{outer_of, told_at}
use Rattle.qgm_build_terms.specs.Setting.{frame_in, outer_in, sources_in}
use Rattle.qgm_build_terms.specs.SoFar.{so_far}
use Rattle.qgm_build_terms.specs.Written.{frame_of}
use Rattle.qgm_build.proofs.Finished.{test_read}
use Rattle.qgm_build.proofs.pairs.outer_conds.Goals as goal

pub returns-clause-conds : goal.returns-clause-conds
returns-clause-conds c =
    IfOk-weaker c.split_test.result _ _ (λ v e. test_read (sources_in c.setting_of-setting.result) (laying (told_at c.args.h.now.ground) (so_far c.args.st.now)) (frame_in c.setting_of-setting.result) (frame_of c.args.h.now.frame.now) (outer_in c.setting_of-setting.result) (outer_of c.args.h.now.ground) no_slots (shown.test c.args.p.now) _ [] v.items
    c.setting_of-setting.ensures.sources c.setting_of-setting.ensures.frame c.setting_of-setting.ensures.outer refl refl e) c.split_test.ensures.conds
