use Rattle.std.proofs.Common.{◌∙◌, [], suc, length, ap, refl}
use Rattle.std.proofs.lemmas.Result.{IfOk-weaker}
use Rattle.sql_meaning.specs.ResolvedShown as shown
use Rattle.qgm_translation.specs.Lay.{laying}
use Rattle.qgm_translation.specs.Shown.{fold_refs, upper_leaves}
use Rattle.qgm_build.specs.Laying.{outer_of, told_at}
use Rattle.qgm_build_terms.specs.Setting.{frame_in, outer_in, sources_in}
use Rattle.qgm_build_terms.specs.SoFar.{so_far}
use Rattle.qgm_build_terms.specs.Written.{frame_of, slots_of}
use Rattle.qgm_build.proofs.Finished.{having_read, list_read}
use Rattle.qgm_build.proofs.Paired.{upper_cells}
use Rattle.qgm_build.proofs.Selected.{part_of, parts_of}
use Rattle.qgm_build.proofs.pairs.write_upper.Goals as goal

pub returns-clause-head : goal.returns-clause-head
returns-clause-head c =
    IfOk-weaker c.select_parts.result _ _ (λ made e.
    list_read (sources_in c.setting_of-setting.result) (laying (told_at c.args.h.now.ground) (so_far c.args.st.now)) (frame_in c.setting_of-setting.result) (frame_of c.args.h.now.frame.now) (outer_in c.setting_of-setting.result) (outer_of c.args.h.now.ground) c.args.subs.now (frame_of c.deref.result.now)
    (fold_refs c.args.z.now.u (suc (length c.args.z.now.places.now)) (upper_leaves (frame_of c.args.h.now.frame.now) (shown.value_list c.args.z.now.list.now) (shown.test c.args.z.now.having.now))) (shown.value_list c.args.z.now.list.now) [] made.head made.head
    c.setting_of-setting.ensures.sources c.setting_of-setting.ensures.frame c.setting_of-setting.ensures.outer
    (ap frame_of c.deref.ensures.value ∙ c.in_ok-cells.ensures ∙ upper_cells c.args.z.now.u (suc (length c.args.z.now.places.now)) (frame_of c.args.h.now.frame.now) (shown.value_list c.args.z.now.list.now) (shown.test c.args.z.now.having.now)) refl e refl)
    (part_of c.select_parts.result c.list_head-head.result (λ made. made.head) _ c.select_parts.ensures.head c.list_head-head.ensures.head)

pub returns-clause-conds : goal.returns-clause-conds
returns-clause-conds c =
    parts_of c.select_parts.result c.list_head-head.result c.split_test-conds.result (λ made. made.head) (λ made. made.conds) _ _ _ c.select_parts.ensures.head c.select_parts.ensures.conds c.list_head-head.ensures.slots c.split_test-conds.ensures.conds (λ made z e.
    having_read (sources_in c.setting_of-setting.result) (laying (told_at c.args.h.now.ground) (so_far c.args.st.now)) (frame_in c.setting_of-setting.result) (frame_of c.args.h.now.frame.now) (outer_in c.setting_of-setting.result) (outer_of c.args.h.now.ground) c.args.subs.now (frame_of c.deref.result.now)
    (fold_refs c.args.z.now.u (suc (length c.args.z.now.places.now)) (upper_leaves (frame_of c.args.h.now.frame.now) (shown.value_list c.args.z.now.list.now) (shown.test c.args.z.now.having.now))) (shown.value_list c.args.z.now.list.now) (shown.test c.args.z.now.having.now) (slots_of c.list_head-head.new.s) _ [] made.conds.items
    c.setting_of-setting.ensures.sources c.setting_of-setting.ensures.frame c.setting_of-setting.ensures.outer
    (ap frame_of c.deref.ensures.value ∙ c.in_ok-cells.ensures ∙ upper_cells c.args.z.now.u (suc (length c.args.z.now.places.now)) (frame_of c.args.h.now.frame.now) (shown.value_list c.args.z.now.list.now) (shown.test c.args.z.now.having.now)) z refl refl e)

pub returns-clause-spare : goal.returns-clause-spare
returns-clause-spare c = part_of c.select_parts.result c.split_test-conds.result (λ made. made.conds) _ c.select_parts.ensures.conds c.split_test-conds.ensures.spare
