use Rattle.std.proofs.Common.{◌≡◌, drop}
use Rattle.std.specs.List.{list_all}
use Rattle.qgm_terms.specs.Shown.{choices, conds, links}
use Rattle.qgm_props.specs.Inferred.{cond_free}
use Rattle.qgm_props.specs.Lists.{arms_free_in, chain_free}
use Rattle.qgm_props.specs.Table.{facts_of}
use Rattle.qgm_props.proofs.expressions.+expressions.Given as goal

-- what is left gives the rest
abbrev pub invariant-is_chain_free-loop-link : goal.invariant-is_chain_free-loop-link
invariant-is_chain_free-loop-link l =
    chain_free l.nodes (facts_of l.table) l.one l.total (links (drop l.link-index l.list)) ≡ chain_free l.nodes (facts_of l.table) l.one l.initial.total (links l.list)

-- what is left decides
abbrev pub invariant-are_arms_free-loop-arm : goal.invariant-are_arms_free-loop-arm
invariant-are_arms_free-loop-arm l =
    arms_free_in l.nodes (facts_of l.table) l.one (choices (drop l.arm-index l.list)) ≡ arms_free_in l.nodes (facts_of l.table) l.one (choices l.list)

-- what is left decides
abbrev pub invariant-are_conds_free-loop-c : goal.invariant-are_conds_free-loop-c
invariant-are_conds_free-loop-c l =
    list_all (cond_free l.nodes (facts_of l.table) l.one) (conds (drop l.c-index l.list)) ≡ list_all (cond_free l.nodes (facts_of l.table) l.one) (conds l.list)
