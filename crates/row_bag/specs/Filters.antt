-- Rows that pass a test.
use Rattle.std.specs.Prelude.{◌≡◌, Bool, true, List, ◌++◌}
use Rattle.sql_value.specs.declared.level.Level.{Level}
use Rattle.row_bag.specs.Bags.{Agree, bind, keep, unit}
use Rattle.row_bag.specs.Sets.{distinct, except, except_all, intersect, intersect_all, union}
use Rattle.row_bag.specs.declared.row.Row.{Row}
use Rattle.row_bag.specs.AsSets.{is_decided, stands}

-- the rows, each at the lower one of its level and that of its tuple
abbrev pub passing : {T : Type 0} → (T → Level) → List (Row T) → List (Row T)
passing level rows = bind rows (λ c. keep (level c) (unit c))

-- the test is yes or no at each tuple that stands there
abbrev pub Decides : {T : Type 0} → (T → T → Bool) → (T → Level) → List (Row T) → Type 0
Decides {T} same level rows = (c : T) → stands same c rows ≡ true → is_decided (level c) ≡ true

-- a test of tuples may come before set operations
pub record FilterLaws (T : Type 0) (same : T → T → Bool) : Type 0 where
  pub of_append : (level : T → Level) (xs ys : List (Row T)) → passing level (xs ++ ys) ≡ passing level xs ++ passing level ys
  pub of_distinct : (level : T → Level) (xs : List (Row T)) → Agree same (passing level (distinct same xs)) (distinct same (passing level xs))
  pub of_union : (level : T → Level) (xs ys : List (Row T)) → Agree same (passing level (union same xs ys)) (union same (passing level xs) (passing level ys))
  -- it is to be decided at the tuples of the first operand
  pub of_intersect : (level : T → Level) (xs ys : List (Row T)) → Decides same level xs → Agree same (passing level (intersect same xs ys)) (intersect same (passing level xs) (passing level ys))
  pub of_intersect_all :
      (level : T → Level) (xs ys : List (Row T)) → Decides same level xs → Agree same (passing level (intersect_all same xs ys)) (intersect_all same (passing level xs) (passing level ys))
  pub of_except : (level : T → Level) (xs ys : List (Row T)) → Decides same level xs → Agree same (passing level (except same xs ys)) (except same (passing level xs) (passing level ys))
  pub of_except_all : (level : T → Level) (xs ys : List (Row T)) → Decides same level xs → Agree same (passing level (except_all same xs ys)) (except_all same (passing level xs) (passing level ys))
