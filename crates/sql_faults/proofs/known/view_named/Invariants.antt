use Rattle.std.proofs.Common.{◌≡◌, drop}
use Rattle.sql_faults.specs.Views.{view_named}
use Rattle.sql_faults.proofs.known.view_named.Given as goal

abbrev pub invariant-loop-view : goal.invariant-loop-view
invariant-loop-view l = view_named (drop l.view-index l.views) l.name ≡ view_named l.views l.name
