use Rattle.std.proofs.Common.{◌≡◌, ◌++◌, drop, map}
use Rattle.sql_catalog.specs.declared.reader.Reader.{Reader}
use Rattle.sql_faults.specs.Depths.{reads_marked}
use Rattle.sql_faults.proofs.depth.next_marks.Given as goal

abbrev pub invariant-loop-view : goal.invariant-loop-view
invariant-loop-view l = l.next ++ map (λ (v : Reader). reads_marked v.reads l.views l.marks) (drop l.view-index l.views) ≡ map (λ (v : Reader). reads_marked v.reads l.views l.marks) l.views
