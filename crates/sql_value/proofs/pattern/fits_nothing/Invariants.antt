use Rattle.std.proofs.Common.{◌≡◌, [], drop}
use Rattle.sql_value.specs.Characters.{listed}
use Rattle.sql_value.specs.Like.{fits}
use Rattle.sql_value.proofs.pattern.fits_nothing.Given as goal

abbrev pub invariant-loop-i : goal.invariant-loop-i
invariant-loop-i l = fits (drop l.place (listed l.pattern)) [] ≡ fits (drop l.i (listed l.pattern)) []
