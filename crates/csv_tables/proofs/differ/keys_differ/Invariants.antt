use Rattle.std.proofs.Common.{◌≡◌, take, true}
use Rattle.csv_tables.specs.Differ.{keys_differ}
use Rattle.csv_tables.proofs.differ.keys_differ.Given as goal

abbrev pub invariant-loop-key : goal.invariant-loop-key
invariant-loop-key l = keys_differ (take l.key-index l.keys) l.rows ≡ true
