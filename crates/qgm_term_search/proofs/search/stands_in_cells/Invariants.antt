use Rattle.std.proofs.Common.{◌≡◌, drop}
use Rattle.std.specs.List.{list_any}
use Rattle.qgm_terms.specs.Wanted.{any_in}
use Rattle.qgm_terms.specs.Shown.{terms}
use Rattle.qgm_terms.specs.Wanted.{wanted}
use Rattle.qgm_term_search.proofs.search.stands_in_cells.Given as goal

-- nothing is found so far
abbrev pub invariant-loop-x : goal.invariant-loop-x
invariant-loop-x l = list_any (any_in (wanted l.sought)) (terms (drop l.x-index l.list)) ≡ list_any (any_in (wanted l.sought)) (terms l.list)
