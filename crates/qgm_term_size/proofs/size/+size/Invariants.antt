use Rattle.std.proofs.Common.{◌≡◌, ◌+◌, ◌≤◌, drop, min}
use Rattle.qgm_term_size.specs.Size.{choices_size, conds_size, links_size}
use Rattle.qgm_terms.specs.Shown.{choices, conds, links}
use Rattle.qgm_term_size.proofs.size.+size.Given as goal

-- what is left adds the rest
abbrev pub invariant-add_links-loop-link : goal.invariant-add_links-loop-link
invariant-add_links-loop-link l = record { added : min (l.sum + links_size (links (drop l.link-index l.list))) l.most ≡ min (l.total + links_size (links l.list)) l.most; within : l.sum ≤ l.most }

abbrev pub invariant-add_arms-loop-arm : goal.invariant-add_arms-loop-arm
invariant-add_arms-loop-arm l = record { added : min (l.sum + choices_size (choices (drop l.arm-index l.list))) l.most ≡ min (l.total + choices_size (choices l.list)) l.most; within : l.sum ≤ l.most }

abbrev pub invariant-add_conds-loop-c : goal.invariant-add_conds-loop-c
invariant-add_conds-loop-c l = record { added : min (l.sum + conds_size (conds (drop l.c-index l.list))) l.most ≡ min (l.total + conds_size (conds l.list)) l.most; within : l.sum ≤ l.most }
