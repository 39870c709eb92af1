use Rattle.std.proofs.Common.{◌≡◌, ◌≤◌, drop, max, min}
use Rattle.qgm_term_size.specs.Levels.{put_levels}
use Rattle.qgm_term_size.proofs.put.put_levels.Given as goal

-- what is left decides with what was found
abbrev pub invariant-loop-column : goal.invariant-loop-column
invariant-loop-column l = record { found : min (max l.deepest (put_levels l.q l.cells (drop l.column-index l.columns))) l.most ≡ min (put_levels l.q l.cells l.columns) l.most; within : l.deepest ≤ l.most }
