-- Truth, with errors: how far a condition is true, and how far false.
use Rattle.std.specs.Prelude.{Bool, true, false, Option, Some, None}
use Rattle.sql_value.specs.declared.level.Level.{Level}
use Rattle.sql_value.specs.declared.level.Level.TheVariants.{No, Yes}
use Rattle.sql_value.specs.declared.cell.Kind.{Kind}
use Rattle.sql_value.specs.declared.truth.Truth.{Truth}
use Rattle.sql_value.specs.Level.{greatest, least, level_of}

-- wholly true, or wholly false
abbrev pub truth_of : Bool → Truth
truth_of true = record { t = Yes; f = No }
truth_of false = record { t = No; f = Yes }

-- neither true nor false
abbrev pub unknown : Truth
unknown = record { t = No; f = No }

-- an error: true and false as far as its level
abbrev pub error : Kind → Truth
error k = record { t = level_of k; f = level_of k }

-- the error, where there is one, and else this truth
abbrev pub error_or : Option Kind → Truth → Truth
error_or (Some k) p = error k
error_or None p = p

-- as true as the part that is least true, as false as the part that is most false
abbrev pub and : Truth → Truth → Truth
and p q = record { t = least p.t q.t; f = greatest p.f q.f }

-- as true as the part that is most true, as false as the part that is least false
abbrev pub or : Truth → Truth → Truth
or p q = record { t = greatest p.t q.t; f = least p.f q.f }

-- true as far as it was false, false as far as it was true
abbrev pub negated : Truth → Truth
negated p = record { t = p.f; f = p.t }

-- the lower one of a row's level and of how far a condition is true
abbrev pub keep : Level → Truth → Level
keep level p = least level p.t
