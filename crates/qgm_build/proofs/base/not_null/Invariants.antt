use Rattle.std.proofs.Common.{◌≡◌, ◌++◌, drop}
use Rattle.qgm_translation_laws.specs.Sources as spec
use Rattle.qgm_build.proofs.base.not_null.Given as goal

abbrev pub invariant-loop-column : goal.invariant-loop-column
invariant-loop-column l =
    l.places ++ spec.not_null_from l.k (drop l.column-index l.columns) ≡ spec.not_null_from 1 l.columns
