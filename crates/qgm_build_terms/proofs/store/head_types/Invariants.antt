use Rattle.std.proofs.Common.{◌≡◌, ◌++◌, map, drop}
use Rattle.qgm_terms.specs.Shown.{terms}
use Rattle.qgm_translation.specs.Typing.{typed_by}
use Rattle.qgm_build_terms.proofs.store.head_types.Given as goal

abbrev pub invariant-loop-x : goal.invariant-loop-x
invariant-loop-x l = l.types ++ map (typed_by l.rows) (terms (drop l.x-index l.x-items)) ≡ map (typed_by l.rows) (terms l.x-items)
