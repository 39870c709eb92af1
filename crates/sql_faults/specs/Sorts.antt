-- The types of results, as the code has them.
use Rattle.std.specs.Prelude.{ℕ, List, [], ◌∷◌, Option, Some, None}
use Rattle.sql_value.specs.declared.order_key.SqlType.{SqlType}
use Rattle.sql_faults.specs.Numbers.{number}
use Rattle.sql_faults.specs.declared.typed.Typed.{Typed}

-- the type of a result of a CASE; NULL has none
abbrev pub sorts_of : Option Typed → List (Option SqlType)
sorts_of None = []
sorts_of (Some t) = t.sort ∷ []

abbrev pub fault_of : Option Typed → ℕ
fault_of None = 0
fault_of (Some t) = number t.fault
