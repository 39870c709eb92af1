use Rattle.std.proofs.Common.{◌≡◌, drop}
use Rattle.sql_faults.specs.Depths.{reads_marked}
use Rattle.sql_faults.proofs.depth.reads_marked.Given as goal

abbrev pub invariant-loop-view : goal.invariant-loop-view
invariant-loop-view l = reads_marked l.reads (drop l.view-index l.views) l.rest ≡ reads_marked l.reads l.views l.marks
