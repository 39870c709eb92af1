use Rattle.std.proofs.Common.{◌≡◌, take}
use Rattle.box_exec.specs.Lookup.{row_hashes}
use Rattle.box_exec.proofs.lookup.row_hashes.Given as goal

abbrev pub invariant-loop-i : goal.invariant-loop-i
invariant-loop-i l = l.made.items ≡ row_hashes l.q l.keys (take l.i l.rows)
