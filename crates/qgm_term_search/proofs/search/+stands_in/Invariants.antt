use Rattle.std.proofs.Common.{◌≡◌, drop}
use Rattle.std.specs.List.{list_any}
use Rattle.qgm_terms.specs.Wanted.{any_in_choices, any_in_cond, any_in_links}
use Rattle.qgm_terms.specs.Shown.{choices, conds, links}
use Rattle.qgm_terms.specs.Wanted.{wanted}
use Rattle.qgm_term_search.proofs.search.+stands_in.Given as goal

-- nothing is found so far
abbrev pub invariant-stands_in_links-loop-link : goal.invariant-stands_in_links-loop-link
invariant-stands_in_links-loop-link l = any_in_links (wanted l.sought) (links (drop l.link-index l.list)) ≡ any_in_links (wanted l.sought) (links l.list)

abbrev pub invariant-stands_in_arms-loop-arm : goal.invariant-stands_in_arms-loop-arm
invariant-stands_in_arms-loop-arm l = any_in_choices (wanted l.sought) (choices (drop l.arm-index l.list)) ≡ any_in_choices (wanted l.sought) (choices l.list)

abbrev pub invariant-stands_in_conds-loop-c : goal.invariant-stands_in_conds-loop-c
invariant-stands_in_conds-loop-c l = list_any (any_in_cond (wanted l.sought)) (conds (drop l.c-index l.list)) ≡ list_any (any_in_cond (wanted l.sought)) (conds l.list)
