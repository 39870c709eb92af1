use Rattle.std.proofs.Common.{◌≤◌, take}
use Rattle.qgm_terms.specs.Depth.{arm_depths, cond_depths, link_depths, most}
use Rattle.qgm_terms.proofs.depths.+fits.Given as goal

-- those so far do
abbrev pub invariant-fits_links-loop-link : goal.invariant-fits_links-loop-link
invariant-fits_links-loop-link l = most (link_depths (take l.link-index l.list)) ≤ l.room

abbrev pub invariant-fits_arms-loop-arm : goal.invariant-fits_arms-loop-arm
invariant-fits_arms-loop-arm l = most (arm_depths (take l.arm-index l.list)) ≤ l.room

abbrev pub invariant-fits_conds-loop-c : goal.invariant-fits_conds-loop-c
invariant-fits_conds-loop-c l = most (cond_depths (take l.c-index l.list)) ≤ l.room
