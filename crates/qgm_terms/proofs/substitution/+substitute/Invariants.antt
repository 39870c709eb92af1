use Rattle.std.proofs.Common.{◌≡◌, IfOk, ◌+◌, ◌*◌, drop, map, take}
use Rattle.qgm_terms.specs.Substitution.{substituted, substituted_choices, substituted_cond, substituted_links}
use Rattle.qgm_terms.specs.Shown.{choices, cond, conds, links, term}
use Rattle.qgm_terms.specs.Terms.{anded, linked, ored}
use Rattle.qgm_terms.proofs.substitution.+substitute.Given as goal

-- what is left goes behind what is made
abbrev pub invariant-substitute_chain-loop-link : goal.invariant-substitute_chain-loop-link
invariant-substitute_chain-loop-link l = IfOk l.total (λ x. linked (term x) (substituted_links l.q l.cells (links (drop l.link-index l.list))) ≡ linked (substituted l.q l.cells (term l.a)) (substituted_links l.q l.cells (links l.list)))

abbrev pub invariant-substitute_arms-loop-arm : goal.invariant-substitute_arms-loop-arm
invariant-substitute_arms-loop-arm l = choices l.all.items ≡ substituted_choices l.q l.cells (choices (take l.arm-index l.list))

abbrev pub invariant-substitute_all-loop-c : goal.invariant-substitute_all-loop-c
invariant-substitute_all-loop-c l = IfOk l.total (λ p. anded (cond p) (map (substituted_cond l.q l.cells) (conds (drop l.c-index l.list))) ≡ anded (substituted_cond l.q l.cells (cond l.a)) (map (substituted_cond l.q l.cells) (conds l.list)))

abbrev pub invariant-substitute_any-loop-c : goal.invariant-substitute_any-loop-c
invariant-substitute_any-loop-c l = IfOk l.total (λ p. ored (cond p) (map (substituted_cond l.q l.cells) (conds (drop l.c-index l.list))) ≡ ored (substituted_cond l.q l.cells (cond l.a)) (map (substituted_cond l.q l.cells) (conds l.list)))

-- room falls at each level
abbrev pub decreases-substitute : goal.decreases-substitute
decreases-substitute l = 2 * l.room

abbrev pub decreases-substitute_cond : goal.decreases-substitute_cond
decreases-substitute_cond l = 2 * l.room

abbrev pub decreases-substitute_chain : goal.decreases-substitute_chain
decreases-substitute_chain l = 2 * l.room + 1

abbrev pub decreases-substitute_arms : goal.decreases-substitute_arms
decreases-substitute_arms l = 2 * l.room + 1

abbrev pub decreases-substitute_all : goal.decreases-substitute_all
decreases-substitute_all l = 2 * l.room + 1

abbrev pub decreases-substitute_any : goal.decreases-substitute_any
decreases-substitute_any l = 2 * l.room + 1

abbrev pub decreases-substitute_within : goal.decreases-substitute_within
decreases-substitute_within l = 2 * l.room + 1
