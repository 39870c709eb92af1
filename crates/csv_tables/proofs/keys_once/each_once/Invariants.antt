use Rattle.std.proofs.Common.{◌≡◌, [], drop}
use Rattle.csv_tables.specs.KeysOnce.{add_keys}
use Rattle.csv_tables.proofs.keys_once.each_once.Given as goal

abbrev pub invariant-loop-key : goal.invariant-loop-key
invariant-loop-key l = add_keys l.out (drop l.key-index l.keys) ≡ add_keys [] l.keys
