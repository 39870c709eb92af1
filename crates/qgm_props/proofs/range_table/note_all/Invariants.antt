use Rattle.std.proofs.Common.{◌≡◌, ℕ, None, get_or, take}
use Rattle.std.specs.Option.{option_or}
use Rattle.list_laws.specs.Lists.{first}
use Rattle.qgm_core.specs.Boxes.{is_quant}
use Rattle.qgm_props.proofs.range_table.note_all.Given as goal

abbrev pub invariant-loop-range : goal.invariant-loop-range
invariant-loop-range l = (q : ℕ) → get_or l.by_number.items q None ≡ option_or (get_or l.initial.by_number.items q None) (first (is_quant q) (take l.range-index l.ranges))
