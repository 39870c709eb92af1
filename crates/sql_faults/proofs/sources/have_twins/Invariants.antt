use Rattle.std.proofs.Common.{◌≡◌, length, map}
use Rattle.sql_ast.specs.Names.{has_twins}
use Rattle.sql_faults.specs.declared.column.TypedRange.{TypedRange}
use Rattle.sql_faults.proofs.sources.have_twins.Given as goal

abbrev pub invariant-loop-rest : goal.invariant-loop-rest
invariant-loop-rest l = has_twins (map (λ (r : TypedRange). r.name) l.rest) ≡ has_twins (map (λ (r : TypedRange). r.name) l.ranges)

abbrev pub decreases-loop-rest : goal.decreases-loop-rest
decreases-loop-rest l = length l.rest
