use Rattle.std.proofs.Common.{◌∙◌}
use Rattle.std.proofs.lemmas.Result.{IfOk-weaker}
use Rattle.sql_meaning.specs.ResolvedShown as shown
use Rattle.qgm_translation.specs.Lay.{laying}
use Rattle.qgm_build.specs.Laying.{outer_of, told_at}
use Rattle.qgm_build_terms.specs.Setting.{outer_in, sources_in}
use Rattle.qgm_build_terms.specs.SoFar.{so_far}
use Rattle.qgm_build_terms.specs.Written.{frame_of}
use Rattle.qgm_build.proofs.Finished.{frame_at, rows_at}
use Rattle.qgm_build.proofs.finish.rows_conds.Goals as goal

pub write_conds-requires : goal.write_conds-requires
write_conds-requires c =
    record { seen = c.setting_of.ensures.frame ∙ frame_at (told_at c.args.g.now) (sources_in c.setting_of.result) (so_far c.args.st.now) (shown.from_list c.args.x.now.from.now) c.args.fs.now (frame_of c.args.frame.now) c.setting_of.ensures.sources c.requires.seen }

pub returns-clause-conds : goal.returns-clause-conds
returns-clause-conds c =
    IfOk-weaker c.write_conds.result _ _ (λ w h. rows_at (sources_in c.setting_of.result) (laying (told_at c.args.g.now) (so_far c.args.st.now)) (outer_in c.setting_of.result) (outer_of c.args.g.now) c.args.x.now c.args.fs.now c.args.subs.now w.items c.setting_of.ensures.sources c.setting_of.ensures.outer h) c.write_conds.ensures.conds
