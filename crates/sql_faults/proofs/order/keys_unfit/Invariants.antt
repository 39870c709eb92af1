use Rattle.std.proofs.Common.{◌≡◌, drop}
use Rattle.sql_faults.specs.Numbers.{number}
use Rattle.sql_faults.specs.Rules.{keys_unfit, lesser}
use Rattle.sql_faults.proofs.order.keys_unfit.Given as goal

abbrev pub invariant-loop-sort : goal.invariant-loop-sort
invariant-loop-sort l = lesser (number l.fault) (keys_unfit l.columns (drop l.sort-index l.sorts)) ≡ keys_unfit l.columns l.sorts
