-- Levels at which nothing is there, and at which something is there for certain.
use Rattle.std.specs.Prelude.{Bool, true, false}
use Rattle.sql_value.specs.declared.level.Level.{Level}
use Rattle.sql_value.specs.declared.level.Level.TheVariants.{No, Cardinality, Division, Overflow, Yes}

abbrev pub is_none : Level → Bool
is_none No = true
is_none Cardinality = false
is_none Division = false
is_none Overflow = false
is_none Yes = false

abbrev pub is_yes : Level → Bool
is_yes No = false
is_yes Cardinality = false
is_yes Division = false
is_yes Overflow = false
is_yes Yes = true
