use Rattle.std.proofs.Common.{◌≡◌, ◌++◌, drop, map}
use Rattle.qgm_translation_laws.specs.Sources as spec
use Rattle.qgm_build.proofs.base.column_types.Given as goal

abbrev pub invariant-loop-column : goal.invariant-loop-column
invariant-loop-column l =
    l.types ++ map spec.column_type (drop l.column-index l.columns) ≡ map spec.column_type l.columns
