use Rattle.std.proofs.Common.{◌≡◌, ◌++◌, drop}
use Rattle.std.specs.List.{flat_map}
use Rattle.qgm_terms.specs.Named.{nodes_in}
use Rattle.qgm_terms.specs.Shown.{terms}
use Rattle.qgm_term_search.proofs.nodes.add_nodes_of_cells.Given as goal

-- what is left adds the rest
abbrev pub invariant-loop-x : goal.invariant-loop-x
invariant-loop-x l = l.out.items ++ flat_map nodes_in (terms (drop l.x-index l.list)) ≡ l.initial.out.items ++ flat_map nodes_in (terms l.list)
