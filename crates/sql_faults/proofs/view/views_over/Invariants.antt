use Rattle.std.proofs.Common.{◌≡◌, ◌++◌, drop, map}
use Rattle.sql_ast.specs.Shown as written
use Rattle.sql_faults.specs.Shown.{heads}
use Rattle.sql_faults.specs.Views.{view_head}
use Rattle.sql_faults.proofs.view.views_over.Given as goal

abbrev pub invariant-loop-view : goal.invariant-loop-view
invariant-loop-view l = l.all ++ map (view_head (heads l.known)) (map written.view (drop l.view-index l.views)) ≡ map (view_head (heads l.known)) (map written.view l.views)
