-- The chain of levels.
use Rattle.std.specs.Prelude.{ℕ, if◌then◌else◌, nat_le}
use Rattle.sql_value.specs.declared.level.Level.{Level}
use Rattle.sql_value.specs.declared.level.Level.TheVariants.{No, Cardinality, Division, Overflow, Yes}
use Rattle.sql_value.specs.declared.cell.Kind.{Kind}
use Rattle.sql_value.specs.declared.cell.Kind.TheVariants as kind

-- the place in the chain no < cardinality < division < overflow < yes
abbrev pub rank : Level → ℕ
rank No = 0
rank Cardinality = 1
rank Division = 2
rank Overflow = 3
rank Yes = 4

-- the lower one
abbrev pub least : Level → Level → Level
least a b = if nat_le (rank a) (rank b) then a else b

-- the higher one
abbrev pub greatest : Level → Level → Level
greatest a b = if nat_le (rank a) (rank b) then b else a

-- the level of an error
abbrev pub level_of : Kind → Level
level_of kind.Cardinality = Cardinality
level_of kind.Division = Division
level_of kind.Overflow = Overflow
