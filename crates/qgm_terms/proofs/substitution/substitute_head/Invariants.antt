use Rattle.std.proofs.Common.{◌≡◌, map, take}
use Rattle.qgm_terms.specs.Substitution.{substituted}
use Rattle.qgm_terms.specs.Shown.{terms}
use Rattle.qgm_terms.proofs.substitution.substitute_head.Given as goal

abbrev pub invariant-loop-x : goal.invariant-loop-x
invariant-loop-x l = l.all ≡ map (substituted l.q l.cells) (terms (take l.x-index l.x-items))
