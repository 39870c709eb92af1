use Rattle.std.proofs.Common.{◌≡◌, ◌++◌, take}
use Rattle.graph_sql.specs.Scoped.{choices_text, links_text, next_conds}
use Rattle.qgm_terms.specs.Shown.{choices, conds, links}
use Rattle.graph_sql.proofs.terms.+terms.Given as goal

abbrev pub invariant-put_links-loop-link : goal.invariant-put_links-loop-link
invariant-put_links-loop-link l = l.out ≡ l.initial.out ++ links_text l.scope (links (take l.link-index l.list))

abbrev pub invariant-put_arms-loop-arm : goal.invariant-put_arms-loop-arm
invariant-put_arms-loop-arm l = l.out ≡ l.initial.out ++ choices_text l.scope (choices (take l.arm-index l.list))

abbrev pub invariant-put_conds-loop-c : goal.invariant-put_conds-loop-c
invariant-put_conds-loop-c l = l.out ≡ l.initial.out ++ next_conds l.scope l.reading l.connective (conds (take l.c-index l.list))
