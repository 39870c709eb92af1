use Rattle.std.proofs.Common.{sym, ◌∙◌}
use Rattle.qgm_core.specs.Boxes.{is_quant}
use Rattle.qgm_core.proofs.First.{is_first, is_there}
use Rattle.qgm_core.proofs.owned.range_place.Goals as goal

pub unwrap-requires : goal.unwrap-requires
unwrap-requires c = rw c.find_range.ensures (is_there (is_quant c.args.q) c.args.ranges.now c.requires)

pub returns : goal.returns
returns c = is_first (is_quant c.args.q) c.args.ranges.now c.unwrap.result (sym c.find_range.ensures ∙ c.unwrap.ensures)
