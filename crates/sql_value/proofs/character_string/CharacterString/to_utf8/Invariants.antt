use Rattle.std.proofs.Common.{◌≡◌, ◌++◌, drop}
use Rattle.std.specs.Prelude.{encode_utf8_all}
use Rattle.std.specs.String.{string_bytes}
use Rattle.sql_value.proofs.character_string.CharacterString.to_utf8.Given as goal

abbrev pub invariant-loop-place : goal.invariant-loop-place
invariant-loop-place l = string_bytes l.text ++ encode_utf8_all (drop l.place l.self) ≡ encode_utf8_all l.self
