use Rattle.std.proofs.Common.{◌≡◌, ◌≤◌, drop, max, min}
use Rattle.qgm_term_size.specs.Levels.{deepest}
use Rattle.qgm_terms.specs.Shown.{terms}
use Rattle.qgm_term_size.proofs.levels.deepest.Given as goal

-- what is left decides with what was found
abbrev pub invariant-loop-x : goal.invariant-loop-x
invariant-loop-x l = record { found : min (max l.levels (deepest (terms (drop l.x-index l.list)))) l.most ≡ min (deepest (terms l.list)) l.most; within : l.levels ≤ l.most }
