use Rattle.std.proofs.Common.{◌≡◌, map, take}
use Rattle.qgm_terms.specs.Shown.{terms}
use Rattle.qgm_meaning.specs.Searches.{as_column}
use Rattle.rule_subquery.proofs.first_column.column_head.Given as goal

abbrev pub invariant-loop-x : goal.invariant-loop-x
invariant-loop-x l = l.all ≡ map (as_column l.q) (terms (take l.x-index l.x-items))
