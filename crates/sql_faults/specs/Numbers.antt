-- The numbers of faults.
use Rattle.std.specs.Prelude.{ℕ, Option, Some, None}
use Rattle.sql_faults.specs.declared.fault.Fault.{Fault}
use Rattle.sql_faults.specs.declared.fault.Fault.TheVariants as fault

-- 0 is none
abbrev pub number : Option Fault → ℕ
number None = 0
number (Some fault.UnknownTable) = 6
number (Some fault.DuplicateRange) = 7
number (Some fault.UnknownColumn) = 8
number (Some fault.Ambiguous) = 9
number (Some fault.TypeMismatch) = 10
number (Some fault.Degree) = 11
number (Some fault.Grouping) = 12
number (Some fault.AggregatePlace) = 13
number (Some fault.OrderColumn) = 14
