use Rattle.std.proofs.Common.{◌≡◌, drop}
use Rattle.std.specs.Cmp.Lexicographic.{slice_cmp}
use Rattle.std.specs.Ordering.{nat_cmp}
use Rattle.sql_value.specs.Characters.{listed}
use Rattle.sql_value.proofs.characters.order_by_places.Given as goal

abbrev pub invariant-loop-place : goal.invariant-loop-place
invariant-loop-place l = slice_cmp nat_cmp (listed l.a) (listed l.b) ≡ slice_cmp nat_cmp (drop l.place (listed l.a)) (drop l.place (listed l.b))
