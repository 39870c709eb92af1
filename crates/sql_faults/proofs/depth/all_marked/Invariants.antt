use Rattle.std.proofs.Common.{◌≡◌, ◌++◌, drop}
use Rattle.sql_faults.specs.Depths.{over}
use Rattle.sql_faults.proofs.depth.all_marked.Given as goal

abbrev pub invariant-loop-view : goal.invariant-loop-view
invariant-loop-view l = l.marks ++ over (drop l._view-index l.views) 0 ≡ over l.views 0
