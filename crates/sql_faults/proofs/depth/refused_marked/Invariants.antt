use Rattle.std.proofs.Common.{◌≡◌, drop, map}
use Rattle.sql_ast.specs.Shown as written
use Rattle.sql_faults.specs.Depths.{refused_marked}
use Rattle.sql_faults.specs.Shown.{heads}
use Rattle.sql_faults.proofs.depth.refused_marked.Given as goal

abbrev pub invariant-loop-view : goal.invariant-loop-view
invariant-loop-view l = refused_marked (heads l.known) (map written.view (drop l.view-index l.list)) l.rest l.rest_deeper ≡ refused_marked (heads l.known) (map written.view l.list) l.marks l.deeper
