-- The query without names that a value of the program holds.
use Rattle.std.specs.Prelude.{◌≡◌, refl, List, [], ◌∷◌, map}
use Rattle.std.proofs.Common.{ap, ◌∙◌}
use Rattle.sql_meaning.specs.declared.resolved.Addend.{Addend}
use Rattle.sql_meaning.specs.declared.resolved.Arm.{Arm}
use Rattle.sql_meaning.specs.declared.resolved.Choice.{Choice}
use Rattle.sql_meaning.specs.declared.resolved.Multiplier.{Multiplier}
use Rattle.sql_meaning.specs.declared.resolved.From.{From, Named, Derived', Crossed', Joined', LeftJoined'}
use Rattle.sql_meaning.specs.declared.resolved.From.TheBlock.{hidden-the_row-Value-0, hidden-the_row-From-1, hidden-the_row-Test-2, hidden-the_row-Addend-3, hidden-the_row-Multiplier-4, hidden-the_row-Arm-5, hidden-the_row-Choice-6}
use Rattle.sql_meaning.specs.declared.resolved.Query.{Query, Block', Grouped', Combine', Intersect'}
use Rattle.sql_meaning.specs.declared.resolved.Query.{Row_of-Value, end_of-Value, more_of-Value, items-the_row-Value, items_hidden-the_row-Value-0}
use Rattle.sql_meaning.specs.declared.resolved.Query.{Row_of-From, end_of-From, more_of-From, items-the_row-From, items_hidden-the_row-From-1}
use Rattle.sql_meaning.specs.declared.resolved.Test.{Test, All', Any', Not', Compare', Quantified', Between', Among', AmongRows', Like', IsNull', Exists'}
use Rattle.sql_meaning.specs.declared.resolved.Test.{Row_of-Test, end_of-Test, more_of-Test, items-the_row-Test, items_hidden-the_row-Test-2}
use Rattle.sql_meaning.specs.declared.resolved.Value.{Value, Number, Text, Null, Column, Sum', Product', Negative', Searched', Simple', Coalesce', NullIf', Scalar', CountAll, Aggregate'}
use Rattle.sql_meaning.specs.declared.resolved.Value.{Row_of-Addend, end_of-Addend, more_of-Addend, items-the_row-Addend, items_hidden-the_row-Addend-3}
use Rattle.sql_meaning.specs.declared.resolved.Value.{Row_of-Multiplier, end_of-Multiplier, more_of-Multiplier, items-the_row-Multiplier, items_hidden-the_row-Multiplier-4}
use Rattle.sql_meaning.specs.declared.resolved.Value.{Row_of-Arm, end_of-Arm, more_of-Arm, items-the_row-Arm, items_hidden-the_row-Arm-5}
use Rattle.sql_meaning.specs.declared.resolved.Value.{Row_of-Choice, end_of-Choice, more_of-Choice, items-the_row-Choice, items_hidden-the_row-Choice-6}
use Rattle.sql_meaning.specs.declared.resolved.View.{View}
use Rattle.sql_meaning.specs.ResolvedTrees as q
use Rattle.sql_meaning.specs.ResolvedViews.{ViewTree}

abbrev mutual
  pub value : Value → q.Value
  value (Number n) = q.number n
  value (Text x) = q.text x
  value (Null type) = q.null type
  value (Column scope place) = q.column scope place
  value (Sum' _ a _ xs) = q.sum (value a) (addends xs)
  value (Product' _ a _ xs) = q.product (value a) (multipliers xs)
  value (Negative' _ a) = q.negative (value a)
  value (Searched' _ xs _ a) = q.searched (arms xs) (value a)
  value (Simple' _ a _ xs _ b) = q.simple (value a) (choices xs) (value b)
  value (Coalesce' _ a _ xs) = q.coalesce (value a) (values xs)
  value (NullIf' _ a _ b) = q.null_if (value a) (value b)
  value (Scalar' _ a) = q.scalar (query a)
  value CountAll = q.count_all
  value (Aggregate' f distinct _ a) = q.aggregate f distinct (value a)

  pub addends : {n : _} → Row_of-Addend n → q.Addends
  addends end_of-Addend = q.no_addend
  addends (more_of-Addend op a xs) = q.one_addend op (value a) (addends xs)

  pub multipliers : {n : _} → Row_of-Multiplier n → q.Multipliers
  multipliers end_of-Multiplier = q.no_multiplier
  multipliers (more_of-Multiplier op a xs) = q.one_multiplier op (value a) (multipliers xs)

  pub values : {n : _} → Row_of-Value n → q.Values
  values end_of-Value = q.no_value
  values (more_of-Value a xs) = q.one_value (value a) (values xs)

  pub arms : {n : _} → Row_of-Arm n → q.Arms
  arms end_of-Arm = q.no_arm
  arms (more_of-Arm p a xs) = q.one_arm (test p) (value a) (arms xs)

  pub choices : {n : _} → Row_of-Choice n → q.Choices
  choices end_of-Choice = q.no_choice
  choices (more_of-Choice a b xs) = q.one_choice (value a) (value b) (choices xs)

  pub test : Test → q.Test
  test (All' _ ps) = q.all (tests ps)
  test (Any' _ ps) = q.any (tests ps)
  test (Not' _ p) = q.negated (test p)
  test (Compare' _ a op _ b) = q.compare (value a) op (value b)
  test (Quantified' _ a op each _ b) = q.quantified (value a) op each (query b)
  test (Between' _ a _ b _ c) = q.between (value a) (value b) (value c)
  test (Among' _ a _ xs) = q.among (value a) (values xs)
  test (AmongRows' _ a _ b) = q.among_rows (value a) (query b)
  test (Like' _ a _ b) = q.like (value a) (value b)
  test (IsNull' _ a) = q.is_null (value a)
  test (Exists' _ a) = q.exists (query a)

  pub tests : {n : _} → Row_of-Test n → q.Tests
  tests end_of-Test = q.no_test
  tests (more_of-Test p ps) = q.one_test (test p) (tests ps)

  pub from : From → q.From
  from (Named name) = q.named name
  from (Derived' _ a) = q.derived (query a)
  from (Crossed' _ a _ b) = q.crossed (from a) (from b)
  from (Joined' _ a _ b _ p) = q.joined (from a) (from b) (test p)
  from (LeftJoined' _ a _ b width _ p) = q.left_joined (from a) (from b) width (test p)

  pub froms : {n : _} → Row_of-From n → q.Froms
  froms end_of-From = q.no_from
  froms (more_of-From a xs) = q.one_from (from a) (froms xs)

  pub query : Query → q.Query
  query (Block' distinct _ list _ tables _ by) = q.block distinct (values list) (froms tables) (test by)
  query (Grouped' distinct _ list _ tables _ by places width _ having) = q.grouped distinct (values list) (froms tables) (test by) places width (test having)
  query (Combine' _ a op all width _ b) = q.combine (query a) op all width (query b)
  query (Intersect' _ a all width _ b) = q.intersect (query a) all width (query b)

abbrev pub view : View → ViewTree
view v = record { name = v.name; body = query v.body }

abbrev pub views : List View → List ViewTree
views vs = map view vs

-- ---- the same lists, as the code has them

abbrev pub addend_list : List Addend → q.Addends
addend_list [] = q.no_addend
addend_list (x ∷ xs) = q.one_addend x.op (value x.value) (addend_list xs)

abbrev pub multiplier_list : List Multiplier → q.Multipliers
multiplier_list [] = q.no_multiplier
multiplier_list (x ∷ xs) = q.one_multiplier x.op (value x.value) (multiplier_list xs)

abbrev pub value_list : List Value → q.Values
value_list [] = q.no_value
value_list (x ∷ xs) = q.one_value (value x) (value_list xs)

abbrev pub arm_list : List Arm → q.Arms
arm_list [] = q.no_arm
arm_list (x ∷ xs) = q.one_arm (test x.when) (value x.then) (arm_list xs)

abbrev pub choice_list : List Choice → q.Choices
choice_list [] = q.no_choice
choice_list (x ∷ xs) = q.one_choice (value x.when) (value x.then) (choice_list xs)

abbrev pub test_list : List Test → q.Tests
test_list [] = q.no_test
test_list (p ∷ ps) = q.one_test (test p) (test_list ps)

abbrev pub from_list : List From → q.Froms
from_list [] = q.no_from
from_list (x ∷ xs) = q.one_from (from x) (from_list xs)

pub addends_items : (n : _) (row : Row_of-Addend n) → addends row ≡ addend_list (items-the_row-Addend n row)
addends_items _ end_of-Addend = refl
addends_items _ (more_of-Addend op a xs) = ap (q.one_addend op (value a)) (addends_items _ xs)

pub multipliers_items : (n : _) (row : Row_of-Multiplier n) → multipliers row ≡ multiplier_list (items-the_row-Multiplier n row)
multipliers_items _ end_of-Multiplier = refl
multipliers_items _ (more_of-Multiplier op a xs) = ap (q.one_multiplier op (value a)) (multipliers_items _ xs)

pub values_items : (n : _) (row : Row_of-Value n) → values row ≡ value_list (items-the_row-Value n row)
values_items _ end_of-Value = refl
values_items _ (more_of-Value a xs) = ap (q.one_value (value a)) (values_items _ xs)

pub arms_items : (n : _) (row : Row_of-Arm n) → arms row ≡ arm_list (items-the_row-Arm n row)
arms_items _ end_of-Arm = refl
arms_items _ (more_of-Arm p a xs) = ap (q.one_arm (test p) (value a)) (arms_items _ xs)

pub choices_items : (n : _) (row : Row_of-Choice n) → choices row ≡ choice_list (items-the_row-Choice n row)
choices_items _ end_of-Choice = refl
choices_items _ (more_of-Choice a b xs) = ap (q.one_choice (value a) (value b)) (choices_items _ xs)

pub tests_items : (n : _) (row : Row_of-Test n) → tests row ≡ test_list (items-the_row-Test n row)
tests_items _ end_of-Test = refl
tests_items _ (more_of-Test p ps) = ap (q.one_test (test p)) (tests_items _ ps)

pub froms_items : (n : _) (row : Row_of-From n) → froms row ≡ from_list (items-the_row-From n row)
froms_items _ end_of-From = refl
froms_items _ (more_of-From a xs) = ap (q.one_from (from a)) (froms_items _ xs)

pub addends_hidden : (all : List Addend) → addends (hidden-the_row-Addend-3 all) ≡ addend_list all
addends_hidden all = addends_items _ (hidden-the_row-Addend-3 all) ∙ ap addend_list (items_hidden-the_row-Addend-3 all)

pub multipliers_hidden : (all : List Multiplier) → multipliers (hidden-the_row-Multiplier-4 all) ≡ multiplier_list all
multipliers_hidden all = multipliers_items _ (hidden-the_row-Multiplier-4 all) ∙ ap multiplier_list (items_hidden-the_row-Multiplier-4 all)

pub values_hidden : (all : List Value) → values (hidden-the_row-Value-0 all) ≡ value_list all
values_hidden all = values_items _ (hidden-the_row-Value-0 all) ∙ ap value_list (items_hidden-the_row-Value-0 all)

pub arms_hidden : (all : List Arm) → arms (hidden-the_row-Arm-5 all) ≡ arm_list all
arms_hidden all = arms_items _ (hidden-the_row-Arm-5 all) ∙ ap arm_list (items_hidden-the_row-Arm-5 all)

pub choices_hidden : (all : List Choice) → choices (hidden-the_row-Choice-6 all) ≡ choice_list all
choices_hidden all = choices_items _ (hidden-the_row-Choice-6 all) ∙ ap choice_list (items_hidden-the_row-Choice-6 all)

pub tests_hidden : (all : List Test) → tests (hidden-the_row-Test-2 all) ≡ test_list all
tests_hidden all = tests_items _ (hidden-the_row-Test-2 all) ∙ ap test_list (items_hidden-the_row-Test-2 all)

pub froms_hidden : (all : List From) → froms (hidden-the_row-From-1 all) ≡ from_list all
froms_hidden all = froms_items _ (hidden-the_row-From-1 all) ∙ ap from_list (items_hidden-the_row-From-1 all)

pub ruleset lists = (addends_hidden, multipliers_hidden, values_hidden, arms_hidden, choices_hidden, tests_hidden, froms_hidden)
