use Rattle.std.proofs.Common.{◌≡◌, ◌+◌, ◌≤◌, drop, min}
use Rattle.qgm_term_size.specs.Size.{put_size}
use Rattle.qgm_term_size.proofs.put.put_size.Given as goal

-- what is left adds the rest
abbrev pub invariant-loop-column : goal.invariant-loop-column
invariant-loop-column l = record { added : min (l.total + put_size l.q l.cells (drop l.column-index l.columns)) l.most ≡ min (put_size l.q l.cells l.columns) l.most; within : l.total ≤ l.most }
