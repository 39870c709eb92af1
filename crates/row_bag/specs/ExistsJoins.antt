-- EXISTS as a join.
use Rattle.std.specs.Prelude.{◌≤◌, Bool, List}
use Rattle.sql_value.specs.Level.{greatest, least}
use Rattle.sql_value.specs.declared.level.Level.{Level}
use Rattle.sql_value.specs.declared.level.Level.TheVariants.{No}
use Rattle.row_bag.specs.Bags.{Agree, bind, keep, total}
use Rattle.row_bag.specs.Joins.{how_many}
use Rattle.row_bag.specs.Sets.{SameLevels}
use Rattle.row_bag.specs.declared.row.Row.{Row}

-- how far some row passes a test: the greatest of the levels at which rows do
abbrev pub some_level : {T : Type 0} → (T → Level) → List (Row T) → Level
some_level test rows = total greatest No (λ c level. least level (test c)) rows

-- rows kept so far as some partner passes, beside rows kept by each partner
pub record ExistsLaws (T U : Type 0) (same : U → U → Bool) : Type 0 where
  -- each tuple has the same greatest level
  pub levels : (partners : List (Row T)) (test : T → Level) (rows : List (Row U)) → SameLevels same (keep (some_level test partners) rows) (bind partners (λ c. keep (test c) rows))
  -- of at most one partner they agree
  pub of_one : (partners : List (Row T)) (test : T → Level) (rows : List (Row U)) → how_many partners ≤ 1 → Agree same (keep (some_level test partners) rows) (bind partners (λ c. keep (test c) rows))
