-- The numbers of the rules that a table's file is to keep.
use Rattle.std.specs.Prelude.{ℕ}
use Rattle.csv_tables.specs.declared.rule.Rule.{Rule}
use Rattle.csv_tables.specs.declared.rule.Rule.TheVariants as rule

abbrev pub number_of : Rule → ℕ
number_of rule.Header = 1
number_of rule.FieldCount = 2
number_of rule.BadInteger = 3
number_of rule.TooLong = 4
number_of rule.NullInNotNull = 5
number_of rule.DuplicateKey = 6
number_of rule.BadUtf8 = 7
number_of rule.TooManyRows = 8

-- a rule that is broken, and the record that breaks it, where the header is record 0
pub record Fault : Type 0 where
  pub rule : Rule
  pub record_number : ℕ
