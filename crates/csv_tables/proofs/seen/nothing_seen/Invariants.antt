use Rattle.std.proofs.Common.{◌≡◌, ◌++◌, drop, map}
use Rattle.csv_tables.specs.Seen.{nothing_of}
use Rattle.csv_tables.proofs.seen.nothing_seen.Given as goal

abbrev pub invariant-loop-key : goal.invariant-loop-key
invariant-loop-key l = l.seen.items ++ map nothing_of (drop l.key-index l.keys) ≡ map nothing_of l.keys
