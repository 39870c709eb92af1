use Rattle.std.proofs.Common.{◌≡◌, length, take}
use Rattle.sql_value.proofs.character_string.short.Given as goal

abbrev pub invariant-loop-i : goal.invariant-loop-i
invariant-loop-i l = record {
  count : length l.places ≡ 22;
  moved : take l.i l.places ≡ take l.i l.bytes;
}
