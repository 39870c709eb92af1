use Rattle.std.proofs.Common.{◌≡◌, take}
use Rattle.std.specs.Prelude.{IsAscii}
use Rattle.sql_value.proofs.character_string.ascii_of.Given as goal

abbrev pub invariant-loop-c : goal.invariant-loop-c
invariant-loop-c l = record {
  characters : l.bytes.items ≡ take l.c-index l.chars;
  ascii : IsAscii l.bytes.items;
}
