use Rattle.std.proofs.Common.{◌≡◌, ◌++◌, drop, map}
use Rattle.sql_ast.specs.Shown as written
use Rattle.sql_meaning.specs.ResolvedShown as shown
use Rattle.sql_names.specs.Known.{view_over, view_range}
use Rattle.sql_names.specs.Shapes.{columns_of, shape}
use Rattle.sql_names.proofs.views.resolved_views.Given as goal

abbrev pub invariant-loop-view : goal.invariant-loop-view
invariant-loop-view l = record {
  ranges : shape l.ranges.items ++ map (view_range (columns_of l.setting)) (map written.view (drop l.view-index l.views)) ≡ map (view_range (columns_of l.setting)) (map written.view l.views);
  views : shown.views l.resolved ++ map (view_over (columns_of l.setting)) (map written.view (drop l.view-index l.views)) ≡ map (view_over (columns_of l.setting)) (map written.view l.views);
}
