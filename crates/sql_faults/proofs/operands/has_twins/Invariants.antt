use Rattle.std.proofs.Common.{◌≡◌, length}
use Rattle.sql_ast.specs.Names.{has_twins}
use Rattle.sql_faults.proofs.operands.has_twins.Given as goal

abbrev pub invariant-loop-rest : goal.invariant-loop-rest
invariant-loop-rest l = has_twins l.rest ≡ has_twins l.list

abbrev pub decreases-loop-rest : goal.decreases-loop-rest
decreases-loop-rest l = length l.rest
