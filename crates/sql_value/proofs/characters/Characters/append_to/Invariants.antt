use Rattle.std.proofs.Common.{◌≡◌, ◌++◌, take}
use Rattle.sql_value.specs.Characters.{listed}
use Rattle.sql_value.proofs.characters.Characters.append_to.Given as goal

abbrev pub invariant-loop-place : goal.invariant-loop-place
invariant-loop-place l = l.chars.items ≡ l.initial.chars.items ++ take l.place (listed l.self)
