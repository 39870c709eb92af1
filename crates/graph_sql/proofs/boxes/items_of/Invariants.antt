use Rattle.std.proofs.Common.{◌≡◌, map, take}
use Rattle.graph_sql.specs.Settings.{item_of, made_at, setting_in}
use Rattle.graph_sql.proofs.boxes.items_of.Given as goal

abbrev pub invariant-loop-r : goal.invariant-loop-r
invariant-loop-r l = l.items.items ≡ map (item_of (setting_in l.sheet) (made_at l.made)) (take l.r-index l.ranges)
