use Rattle.std.proofs.Common.{◌≡◌, ◌++◌, take}
use Rattle.graph_print.specs.Places.{place_in}
use Rattle.graph_print.specs.TermText.{choices_text, conds_text, links_text}
use Rattle.qgm_terms.specs.Shown.{choices, conds, links}
use Rattle.graph_print.proofs.terms.+terms.Given as goal

abbrev pub invariant-put_links-loop-link : goal.invariant-put_links-loop-link
invariant-put_links-loop-link l = l.out ≡ l.initial.out ++ links_text (place_in l.at) (links (take l.link-index l.list))

abbrev pub invariant-put_arms-loop-arm : goal.invariant-put_arms-loop-arm
invariant-put_arms-loop-arm l = l.out ≡ l.initial.out ++ choices_text (place_in l.at) (choices (take l.arm-index l.list))

abbrev pub invariant-put_conds-loop-c : goal.invariant-put_conds-loop-c
invariant-put_conds-loop-c l = l.out ≡ l.initial.out ++ conds_text (place_in l.at) (conds (take l.c-index l.list))
