use Rattle.std.proofs.Common.{◌≡◌, ◌++◌, drop}
use Rattle.std.specs.List.{flat_map}
use Rattle.qgm_terms.specs.Shown.{choices, conds, links}
use Rattle.qgm_terms.specs.Gathered.{listed_choices, listed_links}
use Rattle.qgm_terms.specs.Named.{columns, columns_in_cond}
use Rattle.qgm_term_search.proofs.columns.+columns.Given as goal

-- what is left adds the rest
abbrev pub invariant-add_columns_of_links-loop-link : goal.invariant-add_columns_of_links-loop-link
invariant-add_columns_of_links-loop-link l = l.out.items ++ listed_links columns (links (drop l.link-index l.list)) ≡ l.initial.out.items ++ listed_links columns (links l.list)

abbrev pub invariant-add_columns_of_arms-loop-arm : goal.invariant-add_columns_of_arms-loop-arm
invariant-add_columns_of_arms-loop-arm l = l.out.items ++ listed_choices columns (choices (drop l.arm-index l.list)) ≡ l.initial.out.items ++ listed_choices columns (choices l.list)

abbrev pub invariant-add_columns_of_conds-loop-p : goal.invariant-add_columns_of_conds-loop-p
invariant-add_columns_of_conds-loop-p l = l.out.items ++ flat_map columns_in_cond (conds (drop l.p-index l.list)) ≡ l.initial.out.items ++ flat_map columns_in_cond (conds l.list)
