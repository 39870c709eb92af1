use Rattle.std.proofs.Common.{◌≡◌, ◌-◌, drop, map}
use Rattle.sql_meaning.specs.ResolvedShown as shown
use Rattle.qgm_translation.specs.Whole as spec
use Rattle.qgm_build.specs.Laying.{told_at}
use Rattle.qgm_build.specs.Schema.{base_of}
use Rattle.qgm_build_terms.specs.SoFar.{so_far}
use Rattle.qgm_build.proofs.whole.+lay_read.Given as goal

abbrev pub invariant-loop-view : goal.invariant-loop-view
invariant-loop-view l =
    spec.lay_views (told_at l.g) (spec.lay_read (told_at l.g) (map base_of l.schema.tables.now) (shown.views l.schema.views.now) (l.depth - 1)) (shown.query l.reader) (shown.views (drop l.view-index l.view-items)) (so_far l.st)
    ≡ spec.lay_read (told_at l.g) (map base_of l.schema.tables.now) (shown.views l.schema.views.now) l.depth (shown.query l.reader) (so_far l.fn.st)

abbrev pub decreases-lay_read : goal.decreases-lay_read
decreases-lay_read l = l.depth
