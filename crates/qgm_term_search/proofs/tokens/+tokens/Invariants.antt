use Rattle.std.proofs.Common.{◌≡◌, ◌++◌, drop}
use Rattle.qgm_term_search.specs.Postfix.{tokens_choices, tokens_conds, tokens_links}
use Rattle.qgm_terms.specs.Shown.{choices, conds, links}
use Rattle.qgm_term_search.proofs.tokens.+tokens.Given as goal

-- what is left adds the rest
abbrev pub invariant-add_tokens_of_links-loop-link : goal.invariant-add_tokens_of_links-loop-link
invariant-add_tokens_of_links-loop-link l = l.out.items ++ tokens_links (links (drop l.link-index l.list)) ≡ l.initial.out.items ++ tokens_links (links l.list)

abbrev pub invariant-add_tokens_of_arms-loop-arm : goal.invariant-add_tokens_of_arms-loop-arm
invariant-add_tokens_of_arms-loop-arm l = l.out.items ++ tokens_choices (choices (drop l.arm-index l.list)) ≡ l.initial.out.items ++ tokens_choices (choices l.list)

abbrev pub invariant-add_tokens_of_conds-loop-c : goal.invariant-add_tokens_of_conds-loop-c
invariant-add_tokens_of_conds-loop-c l = l.out.items ++ tokens_conds l.form (conds (drop l.c-index l.list)) ≡ l.initial.out.items ++ tokens_conds l.form (conds l.list)
