use Rattle.std.proofs.Common.{◌≡◌, ◌+◌, ◌++◌, drop, map}
use Rattle.sql_names.specs.Places.{places_from}
use Rattle.sql_names.proofs.grouping.push_meant.Given as goal

abbrev pub invariant-loop-column : goal.invariant-loop-column
invariant-loop-column l = record {
  at : l.place ≡ l.first + l.column-index;
  so_far : l.out ++ places_from l.place l.d (map (λ column. (l.range.name, column)) (drop l.column-index l.range.columns)) ≡ l.initial.out ++ places_from l.first l.d (map (λ column. (l.range.name, column)) l.range.columns);
}
