use Rattle.std.proofs.Common.{◌≡◌, map, take}
use Rattle.qgm_terms.specs.Shown.{conds}
use Rattle.qgm_meaning.specs.Searches.{as_column_cond}
use Rattle.rule_subquery.proofs.first_column.column_conds.Given as goal

abbrev pub invariant-loop-c : goal.invariant-loop-c
invariant-loop-c l = record {
  so_far : l.all.items ≡ map (as_column_cond l.q) (conds (take l.c-index l.c-items));
  none_spare : l.all.spare ≡ 0;
}
