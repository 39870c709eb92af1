use Rattle.std.proofs.Common.{◌≡◌, drop}
use Rattle.std.specs.List.{list_all}
use Rattle.qgm_terms.specs.Shown.{choices, conds, links}
use Rattle.qgm_wellformed.specs.Types as spec
use Rattle.qgm_wellformed.proofs.types.+types.Given as goal

-- what is left gives the rest
abbrev pub invariant-chain_type-loop-link : goal.invariant-chain_type-loop-link
invariant-chain_type-loop-link l =
    spec.chain_type (spec.type_at l.table l.places) l.total (links (drop l.link-index l.list)) ≡ spec.chain_type (spec.type_at l.table l.places) l.initial.total (links l.list)

-- what is left decides
abbrev pub invariant-arms_fit-loop-arm : goal.invariant-arms_fit-loop-arm
invariant-arms_fit-loop-arm l =
    spec.choices_fit (spec.type_at l.table l.places) l.last (choices (drop l.arm-index l.list)) ≡ spec.choices_fit (spec.type_at l.table l.places) l.last (choices l.list)

-- what is left decides
abbrev pub invariant-conds_fit-loop-c : goal.invariant-conds_fit-loop-c
invariant-conds_fit-loop-c l =
    list_all (spec.cond_fits (spec.type_at l.table l.places)) (conds (drop l.c-index l.list)) ≡ list_all (spec.cond_fits (spec.type_at l.table l.places)) (conds l.list)
