use Rattle.std.proofs.Common.{◌∙◌, ap, refl}
use Rattle.std.proofs.lemmas.Result.{IfOk-weaker}
use Rattle.sql_meaning.specs.ResolvedShown as shown
use Rattle.qgm_build_terms.specs.Setting.{frame_in, outer_in, sources_in}
use Rattle.qgm_build_terms.specs.Written.{frame_of, slots_from, slots_of}
use Rattle.qgm_build.proofs.Blocks.{cells_here, conds_read, head_read}
use Rattle.qgm_build.proofs.Selected.{part_of, parts_of}
use Rattle.qgm_build.proofs.select.write_block.Goals as goal

pub returns-clause-head : goal.returns-clause-head
returns-clause-head c =
    IfOk-weaker c.select_parts.result _ _ (λ made e. head_read (sources_in c.args.g.now) (outer_in c.args.g.now) (shown.from_list c.args.x.now.from.now) (shown.test c.args.x.now.by.now) (shown.value_list c.args.x.now.list.now) c.args.fs.now c.args.subs.now (frame_in c.args.g.now) (slots_from c.args.subs.now (frame_of c.deref.result.now)) made.head c.requires.seen
    (cells_here (sources_in c.args.g.now) (outer_in c.args.g.now) (shown.from_list c.args.x.now.from.now) (shown.test c.args.x.now.by.now) (shown.value_list c.args.x.now.list.now) c.args.fs.now c.args.subs.now _ (frame_of c.deref.result.now) refl (ap frame_of c.deref.ensures.value ∙ c.in_ok-cells.ensures)) e)
    (part_of c.select_parts.result c.list_head-head.result (λ made. made.head) _ c.select_parts.ensures.head c.list_head-head.ensures.head)

pub returns-clause-conds : goal.returns-clause-conds
returns-clause-conds c =
    parts_of c.select_parts.result c.list_head-head.result c.from_conds-conds.result (λ made. made.head) (λ made. made.conds) _ _ _ c.select_parts.ensures.head c.select_parts.ensures.conds c.list_head-head.ensures.slots c.from_conds-conds.ensures.conds
    (λ made z e. conds_read (sources_in c.args.g.now) (outer_in c.args.g.now) (shown.from_list c.args.x.now.from.now) (shown.test c.args.x.now.by.now) (shown.value_list c.args.x.now.list.now) c.args.fs.now c.args.subs.now (frame_in c.args.g.now) (slots_from c.args.subs.now (frame_of c.deref.result.now)) (slots_of c.list_head-head.new.s) _ _ _ made.conds.items c.requires.seen
    (cells_here (sources_in c.args.g.now) (outer_in c.args.g.now) (shown.from_list c.args.x.now.from.now) (shown.test c.args.x.now.by.now) (shown.value_list c.args.x.now.list.now) c.args.fs.now c.args.subs.now _ (frame_of c.deref.result.now) refl (ap frame_of c.deref.ensures.value ∙ c.in_ok-cells.ensures)) z refl refl refl e)

pub returns-clause-spare : goal.returns-clause-spare
returns-clause-spare c = part_of c.select_parts.result c.from_conds-conds.result (λ made. made.conds) _ c.select_parts.ensures.conds c.from_conds-conds.ensures.spare
