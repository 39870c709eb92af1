use Rattle.std.proofs.Common.{◌<◌, length, rules}
use Rattle.qgm_props.proofs.ByNumber.{noted-next}
use Rattle.qgm_props.proofs.range_table.note_all.Goals as goal

pub loop-range-preserved : goal.loop-range-preserved
loop-range-preserved c =
    let i = c.loop-range.range-index in
    let l : i < length c.args.ranges.now = search rules in
    noted-next c.args.by_number.now.items c.loop-range.by_number.items c.note.new.by_number.items c.args.ranges.now i _ l c.loop-range.invariant c.in_ok-note.ensures
