-- Bags that are the same set.
use Rattle.std.specs.Prelude.{◌≡◌, ◌↔◌, ◌&&◌, Bool, true, false, List, ◌++◌}
use Rattle.std.specs.List.{list_all, list_any}
use Rattle.sql_value.specs.declared.cell.Cell.{Cell}
use Rattle.sql_value.specs.declared.level.Level.{Level}
use Rattle.sql_value.specs.declared.level.Level.TheVariants.{No, Cardinality, Division, Overflow, Yes}
use Rattle.sql_value.specs.declared.truth.Truth.{Truth}
use Rattle.row_bag.specs.Bags.{Agree, bind}
use Rattle.row_bag.specs.Sets.{SameLevels, distinct, once, same_cells}
use Rattle.row_bag.specs.Subqueries.{every, some}
use Rattle.row_bag.specs.Verdict.{is_there}
use Rattle.row_bag.specs.declared.row.Row.{Row}

-- a level is no or yes
abbrev pub is_decided : Level → Bool
is_decided No = true
is_decided Cardinality = false
is_decided Division = false
is_decided Overflow = false
is_decided Yes = true

-- no row is at an error level
abbrev pub is_clean : {T : Type 0} → List (Row T) → Bool
is_clean rows = list_all (λ r. is_decided r.level) rows

-- a row of this tuple is there
abbrev pub stands : {T : Type 0} → (T → T → Bool) → T → List (Row T) → Bool
stands same c rows = list_any (λ r. same r.cells c && is_there r) rows

-- bags agree as sets: no row of either is at an error level, and the same tuples stand in both
pub record AgreeAsSets {T : Type 0} (same : T → T → Bool) (xs ys : List (Row T)) : Type 0 where
  pub left_clean : is_clean xs ≡ true
  pub right_clean : is_clean ys ≡ true
  pub tuples : (c : T) → stands same c xs ≡ stands same c ys

-- agreement as sets, of bags without error levels
pub record SetAgreement (T : Type 0) (same : T → T → Bool) : Type 0 where
  -- it goes by the greatest levels of the tuples
  pub by_levels : (xs ys : List (Row T)) → is_clean xs ≡ true → is_clean ys ≡ true → AgreeAsSets same xs ys ↔ SameLevels same xs ys
  -- bags that agree are both without error levels, or none is
  pub clean_kept : (xs ys : List (Row T)) → Agree same xs ys → is_clean xs ≡ is_clean ys
  pub of_bags : (xs ys : List (Row T)) → is_clean xs ≡ true → Agree same xs ys → AgreeAsSets same xs ys
  pub turned : (xs ys : List (Row T)) → AgreeAsSets same xs ys → AgreeAsSets same ys xs
  pub chained : (xs ys zs : List (Row T)) → AgreeAsSets same xs ys → AgreeAsSets same ys zs → AgreeAsSets same xs zs
  -- DISTINCT leaves the set, and makes sets that agree bags that agree
  pub of_distinct : (xs : List (Row T)) → is_clean xs ≡ true → AgreeAsSets same (distinct same xs) xs
  pub distinct_agrees : (xs ys : List (Row T)) → AgreeAsSets same xs ys → Agree same (distinct same xs) (distinct same ys)
  -- and of such a bag it gives each tuple at yes
  pub at_yes : (xs : List (Row T)) → is_clean xs ≡ true → Agree same (distinct same xs) (once same xs)

-- what goes by the greatest levels of the tuples, error levels too
pub record GreatestLevels (T : Type 0) (same : T → T → Bool) : Type 0 where
  pub of_distinct : (xs : List (Row T)) → SameLevels same (distinct same xs) xs
  pub distinct_agrees : (xs ys : List (Row T)) → SameLevels same xs ys → Agree same (distinct same xs) (distinct same ys)
  pub appended : (xs ys us vs : List (Row T)) → SameLevels same xs us → SameLevels same ys vs → SameLevels same (xs ++ ys) (us ++ vs)
  pub bound : (xs ys : List (Row T)) (f g : T → List (Row T)) → SameLevels same xs ys → ((c : T) → SameLevels same (f c) (g c)) → SameLevels same (bind xs f) (bind ys g)
  -- so DISTINCT below DISTINCT may go, in an operand of a join or of a UNION
  pub within_join : (xs : List (Row T)) (f : T → List (Row T)) → Agree same (distinct same (bind (distinct same xs) f)) (distinct same (bind xs f))
  pub within_union : (xs ys : List (Row T)) → Agree same (distinct same (distinct same xs ++ ys)) (distinct same (xs ++ ys))

-- a condition of some row, or of every one, is the same over bags that agree as sets
pub record QuantifiedSets : Type 0 where
  pub of_some : (test : List Cell → Truth) (xs ys : List (Row (List Cell))) → AgreeAsSets same_cells xs ys → some test xs ≡ some test ys
  pub of_every : (test : List Cell → Truth) (xs ys : List (Row (List Cell))) → AgreeAsSets same_cells xs ys → every test xs ≡ every test ys
