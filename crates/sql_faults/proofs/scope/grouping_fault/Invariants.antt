use Rattle.std.proofs.Common.{◌≡◌, drop}
use Rattle.sql_faults.specs.Faults.{grouping_fault}
use Rattle.sql_faults.specs.Numbers.{number}
use Rattle.sql_faults.specs.Rules.{lesser}
use Rattle.sql_faults.specs.Shown.{scopes}
use Rattle.sql_faults.proofs.scope.grouping_fault.Given as goal

abbrev pub invariant-loop-column : goal.invariant-loop-column
invariant-loop-column l = lesser (number l.least) (grouping_fault (drop l.column-index l.by) (scopes l.inner)) ≡ grouping_fault l.by (scopes l.inner)
