use Rattle.std.proofs.Common.{◌≡◌, take}
use Rattle.qgm_terms.specs.Shown.{terms}
use Rattle.qgm_terms.proofs.copies.copy_head.Given as goal

abbrev pub invariant-loop-x : goal.invariant-loop-x
invariant-loop-x l = l.all ≡ terms (take l.x-index l.x-items)
