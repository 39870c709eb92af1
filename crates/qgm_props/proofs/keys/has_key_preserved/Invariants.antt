use Rattle.std.proofs.Common.{◌≡◌, drop}
use Rattle.list_laws.specs.Lists.{change}
use Rattle.qgm_core.specs.Boxes.{is_box}
use Rattle.qgm_core.specs.Edits.{with_distinct}
use Rattle.qgm_core.specs.declared.kinds.Distinct.TheVariants.{Preserve}
use Rattle.qgm_props.specs.Keys.{holds_key}
use Rattle.qgm_props.specs.Table.{facts_of}
use Rattle.qgm_props.proofs.keys.has_key_preserved.Given as goal

-- it isn't among those before
abbrev pub invariant-loop-i : goal.invariant-loop-i
invariant-loop-i l =
    holds_key (facts_of l.table).at_most_one (change (is_box l.b) (with_distinct Preserve) l.boxes) l.b l.columns
    ≡ holds_key (facts_of l.table).at_most_one (change (is_box l.b) (with_distinct Preserve) (drop l.i l.boxes)) l.b l.columns
