use Rattle.std.proofs.Common.{◌≡◌, ◌+◌, drop, length}
use Rattle.qgm_translation_laws.specs.Typing.{known_types}
use Rattle.qgm_build.proofs.named.known_columns.Given as goal

abbrev pub invariant-loop-column : goal.invariant-loop-column
invariant-loop-column l =
    l.n + length (known_types (drop l.column-index l.columns)) ≡ length (known_types l.columns)
