use Rattle.std.proofs.Common.{◌≡◌, ◌++◌, drop, map, take, false}
use Rattle.std.specs.List.{list_any}
use Rattle.csv_tables.specs.Seen.{has_seen, seen_with}
use Rattle.csv_tables.proofs.seen.repeats.Given as goal

abbrev pub invariant-loop-i : goal.invariant-loop-i
invariant-loop-i g l = record {
  passed : list_any (has_seen (g.R.ReadRecord.contents l.fields)) (take l.i l.fn.seen.items) ≡ false;
  items : l.seen.items ≡ map (seen_with (g.R.ReadRecord.contents l.fields)) (take l.i l.fn.seen.items) ++ drop l.i l.fn.seen.items;
}
