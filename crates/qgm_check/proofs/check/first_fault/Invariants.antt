use Rattle.std.proofs.Common.{◌≡◌, drop}
use Rattle.qgm_wellformed.specs.WellFormed as spec
use Rattle.qgm_check.proofs.check.first_fault.Given as goal

-- what is left decides
abbrev pub invariant-loop-clause : goal.invariant-loop-clause
invariant-loop-clause l = spec.first_fault (drop l.clause-index l.clauses) l.root l.nodes ≡ spec.first_fault l.clauses l.root l.nodes
