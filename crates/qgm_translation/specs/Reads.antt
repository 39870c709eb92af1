-- Which tables and views a query reads: the names in its FROMs, those of its subqueries too. No subquery stands in the argument of an aggregate.
use Rattle.std.specs.Prelude.{ℕ, Bool, false, ◌||◌, List}
use Rattle.sql_ast.specs.Names.{same_name}
use Rattle.sql_meaning.specs.ResolvedTrees.{Value, Addends, Multipliers, Values, Arms, Choices, Test, Tests, From, Froms, Query}
use Rattle.sql_meaning.specs.ResolvedTrees as q

abbrev mutual
  pub value_reads : Value → List ℕ → Bool
  value_reads (q.number n) name = false
  value_reads (q.text x) name = false
  value_reads (q.null type) name = false
  value_reads (q.column scope place) name = false
  value_reads (q.sum x xs) name = value_reads x name || addends_read xs name
  value_reads (q.product x xs) name = value_reads x name || multipliers_read xs name
  value_reads (q.negative x) name = value_reads x name
  value_reads (q.searched xs last) name = arms_read xs name || value_reads last name
  value_reads (q.simple x xs last) name = value_reads x name || (choices_read xs name || value_reads last name)
  value_reads (q.coalesce x xs) name = value_reads x name || values_read xs name
  value_reads (q.null_if x y) name = value_reads x name || value_reads y name
  value_reads (q.scalar query) name = query_reads query name
  value_reads q.count_all name = false
  value_reads (q.aggregate f distinct x) name = false

  pub addends_read : Addends → List ℕ → Bool
  addends_read q.no_addend name = false
  addends_read (q.one_addend op x xs) name = value_reads x name || addends_read xs name

  pub multipliers_read : Multipliers → List ℕ → Bool
  multipliers_read q.no_multiplier name = false
  multipliers_read (q.one_multiplier op x xs) name = value_reads x name || multipliers_read xs name

  pub values_read : Values → List ℕ → Bool
  values_read q.no_value name = false
  values_read (q.one_value x xs) name = value_reads x name || values_read xs name

  pub arms_read : Arms → List ℕ → Bool
  arms_read q.no_arm name = false
  arms_read (q.one_arm p x xs) name = (test_reads p name || value_reads x name) || arms_read xs name

  pub choices_read : Choices → List ℕ → Bool
  choices_read q.no_choice name = false
  choices_read (q.one_choice x y xs) name = (value_reads x name || value_reads y name) || choices_read xs name

  pub test_reads : Test → List ℕ → Bool
  test_reads (q.all ps) name = tests_read ps name
  test_reads (q.any ps) name = tests_read ps name
  test_reads (q.negated p) name = test_reads p name
  test_reads (q.compare x op y) name = value_reads x name || value_reads y name
  test_reads (q.quantified x op each query) name = value_reads x name || query_reads query name
  test_reads (q.between x y z) name = value_reads x name || (value_reads y name || value_reads z name)
  test_reads (q.among x xs) name = value_reads x name || values_read xs name
  test_reads (q.among_rows x query) name = value_reads x name || query_reads query name
  test_reads (q.like x y) name = value_reads x name || value_reads y name
  test_reads (q.is_null x) name = value_reads x name
  test_reads (q.exists query) name = query_reads query name

  pub tests_read : Tests → List ℕ → Bool
  tests_read q.no_test name = false
  tests_read (q.one_test p ps) name = test_reads p name || tests_read ps name

  pub from_reads : From → List ℕ → Bool
  from_reads (q.named x) name = same_name x name
  from_reads (q.derived query) name = query_reads query name
  from_reads (q.crossed x y) name = from_reads x name || from_reads y name
  from_reads (q.joined x y p) name = from_reads x name || (from_reads y name || test_reads p name)
  from_reads (q.left_joined x y width p) name = from_reads x name || (from_reads y name || test_reads p name)

  pub froms_read : Froms → List ℕ → Bool
  froms_read q.no_from name = false
  froms_read (q.one_from x xs) name = from_reads x name || froms_read xs name

  pub query_reads : Query → List ℕ → Bool
  query_reads (q.block distinct list from by) name = values_read list name || (froms_read from name || test_reads by name)
  query_reads (q.grouped distinct list from by places width having) name = values_read list name || (froms_read from name || (test_reads by name || test_reads having name))
  query_reads (q.combine x op all width y) name = query_reads x name || query_reads y name
  query_reads (q.intersect x all width y) name = query_reads x name || query_reads y name
