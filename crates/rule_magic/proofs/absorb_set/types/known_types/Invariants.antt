use Rattle.std.proofs.Common.{◌≡◌, ◌++◌, drop}
use Rattle.qgm_terms.specs.Shown.{terms}
use Rattle.qgm_wellformed.specs.Types.{lookup_by}
use Rattle.rule_magic.specs.AbsorbSetSteps.{known_types}
use Rattle.rule_magic.proofs.absorb_set.types.known_types.Given as goal

-- what is left adds the rest
abbrev pub invariant-loop-x : goal.invariant-loop-x
invariant-loop-x l = l.types ++ known_types (lookup_by l.known) (terms (drop l.x-index l.x-items)) ≡ known_types (lookup_by l.known) (terms l.x-items)
