use Rattle.std.proofs.Common.{◌≡◌, drop, map}
use Rattle.sql_meaning.specs.ResolvedShown as shown
use Rattle.qgm_translation.specs.Whole as spec
use Rattle.qgm_build.specs.Schema.{base_of}
use Rattle.qgm_build_terms.specs.SoFar.{so_far}
use Rattle.qgm_build.proofs.whole.lay_tables.Given as goal

abbrev pub invariant-loop-table : goal.invariant-loop-table
invariant-loop-table l =
    spec.lay_tables (shown.query l.reader) (map base_of (drop l.table-index l.tables)) (so_far l.st) ≡ spec.lay_tables (shown.query l.reader) (map base_of l.tables) (so_far l.fn.st)
