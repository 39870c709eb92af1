use Rattle.std.proofs.Common.{◌≡◌, ◌≤◌, drop, max, min}
use Rattle.qgm_term_size.specs.Levels.{choices_levels, conds_levels, links_levels}
use Rattle.qgm_terms.specs.Shown.{choices, conds, links}
use Rattle.qgm_term_size.proofs.levels.+levels.Given as goal

-- what is left decides with what was found
abbrev pub invariant-links_levels-loop-link : goal.invariant-links_levels-loop-link
invariant-links_levels-loop-link l = record { found : min (max l.levels (links_levels (links (drop l.link-index l.list)))) l.most ≡ min (links_levels (links l.list)) l.most; within : l.levels ≤ l.most }

abbrev pub invariant-arms_levels-loop-arm : goal.invariant-arms_levels-loop-arm
invariant-arms_levels-loop-arm l = record { found : min (max l.levels (choices_levels (choices (drop l.arm-index l.list)))) l.most ≡ min (choices_levels (choices l.list)) l.most; within : l.levels ≤ l.most }

abbrev pub invariant-conds_levels-loop-c : goal.invariant-conds_levels-loop-c
invariant-conds_levels-loop-c l = record { found : min (max l.levels (conds_levels (conds (drop l.c-index l.list)))) l.most ≡ min (conds_levels (conds l.list)) l.most; within : l.levels ≤ l.most }
