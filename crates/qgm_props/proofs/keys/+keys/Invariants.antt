use Rattle.std.proofs.Common.{◌≡◌, ◌*◌, ◌+◌, drop, length}
use Rattle.qgm_props.specs.Keys.{holds_key, keyed_under_F}
use Rattle.qgm_props.specs.Table.{facts_of}
use Rattle.qgm_props.proofs.keys.+keys.Given as goal

abbrev pub decreases-has_key : goal.decreases-has_key
decreases-has_key l = 4 * length l.boxes.now

abbrev pub decreases-has_key_of : goal.decreases-has_key_of
decreases-has_key_of l = 4 * length l.below.now + 3

abbrev pub decreases-have_keys : goal.decreases-have_keys
decreases-have_keys l = 4 * length l.below.now + 2

abbrev pub decreases-have_two_keys : goal.decreases-have_two_keys
decreases-have_two_keys l = 4 * length l.below.now + 2

abbrev pub decreases-has_key_under : goal.decreases-has_key_under
decreases-has_key_under l = 4 * length l.below.now + 1

-- it isn't among those before
abbrev pub invariant-has_key-loop-i : goal.invariant-has_key-loop-i
invariant-has_key-loop-i l = holds_key (facts_of l.table).at_most_one l.boxes l.b l.columns ≡ holds_key (facts_of l.table).at_most_one (drop l.i l.boxes) l.b l.columns

-- what is left decides
abbrev pub invariant-have_keys-loop-range : goal.invariant-have_keys-loop-range
invariant-have_keys-loop-range l =
    keyed_under_F l.node.parts.head (holds_key (facts_of l.table).at_most_one l.below) l.columns l.node.quants ≡ keyed_under_F l.node.parts.head (holds_key (facts_of l.table).at_most_one l.below) l.columns (drop l.range-index l.node.quants)
