use Rattle.std.proofs.Common.{◌≡◌, ◌++◌, length, take}
use Rattle.std.specs.Hash as fed
use Rattle.std.specs.List.{flat_map, fold}
use Rattle.sql_value.proofs.character_string.CharacterStringHash.hash.Given as goal

abbrev pub invariant-loop-place : goal.invariant-loop-place
invariant-loop-place g l = l.state ≡ fold g.H.Hasher.write l.fn.state (fed.usize (length l.self) ++ flat_map fed.char (take l.place l.self))
