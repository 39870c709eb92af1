use Rattle.std.proofs.Common.{◌≡◌}
use Rattle.sql_catalog.specs.Shown as declared
use Rattle.sql_faults.specs.Depths.{over}
use Rattle.sql_faults.specs.Views.{views_at}
use Rattle.sql_faults.proofs.view.view_heads.Given as goal

abbrev pub invariant-loop-depth : goal.invariant-loop-depth
invariant-loop-depth l = record {
  heads : l.heads ≡ views_at (declared.catalog l.catalog) l._depth;
  marks : l.marks ≡ over l.all l._depth;
}
