use Rattle.std.proofs.Common.{◌≡◌, drop, map}
use Rattle.sql_ast.specs.Names.{contains}
use Rattle.sql_faults.specs.declared.column.TypedRange.{TypedRange}
use Rattle.sql_faults.proofs.sources.has_range.Given as goal

abbrev pub invariant-loop-range : goal.invariant-loop-range
invariant-loop-range l = contains (map (λ (r : TypedRange). r.name) (drop l.range-index l.ranges)) l.name ≡ contains (map (λ (r : TypedRange). r.name) l.ranges) l.name
