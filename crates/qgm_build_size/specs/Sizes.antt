-- How many nodes the cells and conditions have that a query is written with in its boxes, abbreviations written out. Columns that a box only hands on aren't counted.
use Rattle.std.specs.Prelude.{ℕ, suc, ◌+◌, Bool, true, false}
use Rattle.sql_meaning.specs.ResolvedTrees.{Value, Addends, Multipliers, Values, Arms, Choices, Test, Tests, From, Froms, Query}
use Rattle.sql_meaning.specs.ResolvedTrees as q
use Rattle.qgm_build_size.specs.declared.sizes.Size.{Size}

abbrev pub nothing : Size
nothing = record { own = 0; below = 0 }

abbrev pub plus : Size → Size → Size
plus a b = record { own = a.own + b.own; below = a.below + b.below }

-- with n more where it stands
abbrev pub more : ℕ → Size → Size
more n a = record { own = n + a.own; below = a.below }

-- a copy; the boxes below are those of the first
abbrev pub again : Size → Size
again a = record { own = a.own; below = 0 }

-- the boxes below it alone, of what stands as copies elsewhere
abbrev pub below_it : Size → Size
below_it a = record { own = 0; below = a.below }

-- the first of some conditions, or one more of them with its AND or OR
abbrev pub joined : Bool → Size → Size → Size
joined true so_far a = a
joined false so_far a = plus so_far (more 1 a)

-- boxes of n nodes
abbrev pub under : ℕ → Size
under n = record { own = 0; below = n }

-- one term over them
abbrev pub over : ℕ → Size
over n = record { own = 1; below = n }

abbrev pub all_of : Size → ℕ
all_of a = a.own + a.below

abbrev mutual
  pub value_size : Value → Size
  value_size (q.number n) = over 0
  value_size (q.text x) = over 0
  value_size (q.null type) = over 0
  value_size (q.column scope place) = over 0
  value_size (q.sum x xs) = plus (value_size x) (addends_size xs)
  value_size (q.product x xs) = plus (value_size x) (multipliers_size xs)
  value_size (q.negative x) = more 1 (value_size x)
  value_size (q.searched xs last) = more 1 (plus (arms_size xs) (value_size last))
  -- x stands in each choice, which compares it
  value_size (q.simple x xs last) = more 1 (plus (below_it (value_size x)) (plus (choices_size (value_size x).own xs) (value_size last)))
  value_size (q.coalesce x xs) = coalesced_size (value_size x) xs
  -- CASE WHEN x = y THEN NULL ELSE x END
  value_size (q.null_if x y) = more 3 (plus (value_size x) (plus (again (value_size x)) (value_size y)))
  value_size (q.scalar query) = over (query_size query)
  -- a column of the groups, in whose box the aggregate stands, over its argument in the box of the rows
  value_size q.count_all = over 1
  value_size (q.aggregate f distinct x) = over (2 + all_of (value_size x))

  pub addends_size : Addends → Size
  addends_size q.no_addend = nothing
  addends_size (q.one_addend op x xs) = plus (more 1 (value_size x)) (addends_size xs)

  pub multipliers_size : Multipliers → Size
  multipliers_size q.no_multiplier = nothing
  multipliers_size (q.one_multiplier op x xs) = plus (more 1 (value_size x)) (multipliers_size xs)

  pub values_size : Values → Size
  values_size q.no_value = nothing
  values_size (q.one_value x xs) = plus (value_size x) (values_size xs)

  -- x = y OR .., each with a copy of x, which has n nodes
  pub among_size : ℕ → Bool → Size → Values → Size
  among_size n first so_far q.no_value = so_far
  among_size n first so_far (q.one_value y ys) = among_size n false (joined first so_far (more (suc n) (value_size y))) ys

  pub arms_size : Arms → Size
  arms_size q.no_arm = nothing
  arms_size (q.one_arm p x xs) = plus (plus (test_size p) (value_size x)) (arms_size xs)

  -- each compared with a copy of n
  pub choices_size : ℕ → Choices → Size
  choices_size n q.no_choice = nothing
  choices_size n (q.one_choice x y xs) = plus (more (suc n) (plus (value_size x) (value_size y))) (choices_size n xs)

  -- CASE WHEN x IS NOT NULL THEN x ELSE COALESCE(..) END, the last alone
  pub coalesced_size : Size → Values → Size
  coalesced_size x q.no_value = x
  coalesced_size x (q.one_value y ys) = plus (more 3 (plus x (again x))) (coalesced_size (value_size y) ys)

  pub test_size : Test → Size
  -- without any, what is always true, and what never is
  test_size (q.all ps) = tests_size true (more 1 nothing) ps
  test_size (q.any ps) = tests_size true (more 2 nothing) ps
  test_size (q.negated p) = more 1 (test_size p)
  test_size (q.compare x op y) = more 1 (plus (value_size x) (value_size y))
  -- some row: x = its column
  test_size (q.quantified x op each query) = more 2 (plus (value_size x) (over (query_size query)))
  -- x >= y AND x <= z
  test_size (q.between x y z) = more 3 (plus (value_size x) (plus (again (value_size x)) (plus (value_size y) (value_size z))))
  test_size (q.among x xs) = plus (below_it (value_size x)) (among_size (value_size x).own true (more 2 nothing) xs)
  test_size (q.among_rows x query) = more 2 (plus (value_size x) (over (query_size query)))
  test_size (q.like x y) = more 1 (plus (value_size x) (value_size y))
  test_size (q.is_null x) = more 1 (value_size x)
  test_size (q.exists query) = more 1 (over (query_size query))

  pub tests_size : Bool → Size → Tests → Size
  tests_size first so_far q.no_test = so_far
  tests_size first so_far (q.one_test p ps) = tests_size false (joined first so_far (test_size p)) ps

  pub from_size : From → Size
  from_size (q.named name) = nothing
  from_size (q.derived query) = under (query_size query)
  from_size (q.crossed x y) = plus (from_size x) (from_size y)
  from_size (q.joined x y p) = plus (from_size x) (plus (from_size y) (test_size p))
  from_size (q.left_joined x y n p) = plus (from_size x) (plus (from_size y) (test_size p))

  pub froms_size : Froms → Size
  froms_size q.no_from = nothing
  froms_size (q.one_from x xs) = plus (from_size x) (froms_size xs)

  pub query_size : Query → ℕ
  query_size (q.block distinct list from by) = all_of (plus (values_size list) (plus (froms_size from) (test_size by)))
  query_size (q.grouped distinct list from by places n having) = all_of (plus (values_size list) (plus (froms_size from) (plus (test_size by) (test_size having))))
  query_size (q.combine x op all n y) = query_size x + query_size y
  query_size (q.intersect x all n y) = query_size x + query_size y
