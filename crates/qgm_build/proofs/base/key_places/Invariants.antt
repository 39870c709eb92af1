use Rattle.std.proofs.Common.{◌≡◌, ◌++◌, drop, map}
use Rattle.std.proofs.Common.{suc}
use Rattle.qgm_build.proofs.base.key_places.Given as goal

abbrev pub invariant-loop-place : goal.invariant-loop-place
invariant-loop-place l =
    l.places ++ map suc (drop l.place-index l.place-items) ≡ map suc l.place-items
