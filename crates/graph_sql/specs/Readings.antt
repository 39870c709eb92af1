-- Expressions and conditions of a graph as those of a statement.
use Rattle.std.specs.Prelude.{ℕ, ◌&&◌, ◌||◌, if◌then◌else◌, Bool, true, false}
use Rattle.qgm_terms.specs.Terms.{Term, int, text, null_int, null_text, col, scalar, both, minus_of, choose, count_all, fold, Arms, no_arm, arm}
use Rattle.qgm_terms.specs.Terms.{Cond, always, compare, is_null, and, or, not, some, every}
use Rattle.qgm_terms.specs.Terms.{Sign, equal, unequal, below, at_most, above, at_least, same, like}
use Rattle.sql_value.specs.declared.order_key.SqlType.TheVariants.{Integer, Varchar}
use Rattle.graph_sql.specs.Statement.{Expression, number, string, null_of, column, only_cell, operated, opposite, cases, Whens, no_when, when}
use Rattle.graph_sql.specs.Statement.{Test, constant, compared, null, filled, not_true, not_false, joined, exists, missing}
use Rattle.graph_sql.specs.declared.reading.Comparison.{Comparison}
use Rattle.graph_sql.specs.declared.reading.Comparison.TheVariants as c
use Rattle.graph_sql.specs.declared.reading.Connective.{Connective}
use Rattle.graph_sql.specs.declared.reading.Connective.TheVariants as k
use Rattle.graph_sql.specs.declared.reading.Reading.{Reading}
use Rattle.graph_sql.specs.declared.reading.Reading.TheVariants.{True, False, NotTrue, NotFalse}

-- what a statement needs of quantifiers: what stands for the rows of each, and what for those of which EXISTS asks; what its columns are, and which of these are known to hold no null
pub record Names (R : Type 0) : Type 0 where
  pub range : ℕ → R
  pub source : ℕ → R
  pub column : ℕ → ℕ → Expression R
  pub not_null : ℕ → ℕ → Bool

-- NOT of a condition is read by this reading of the condition
abbrev pub turned : Reading → Reading
turned True = False
turned False = True
turned NotTrue = NotFalse
turned NotFalse = NotTrue

-- what joins the readings of the operands of AND, and of OR
abbrev pub of_and : Reading → Connective
of_and True = k.And
of_and False = k.Or
of_and NotTrue = k.Or
of_and NotFalse = k.And

abbrev pub of_or : Reading → Connective
of_or True = k.Or
of_or False = k.And
of_or NotTrue = k.And
of_or NotFalse = k.Or

-- the comparison that is true where one of this sign is, and that where it is false
abbrev pub is : Sign → Comparison
is equal = c.Equal
is unequal = c.Unequal
is below = c.Below
is at_most = c.AtMost
is above = c.Above
is at_least = c.AtLeast
is same = c.Same
is like = c.Like

abbrev pub is_not : Sign → Comparison
is_not equal = c.Unequal
is_not unequal = c.Equal
is_not below = c.AtLeast
is_not at_most = c.Above
is_not above = c.AtMost
is_not at_least = c.Below
is_not same = c.NotSame
is_not like = c.NotLike

-- a literal, or a column that is known to hold no null
abbrev pub holds_value : (ℕ → ℕ → Bool) → Term → Bool
holds_value not_null (int n) = true
holds_value not_null (text s) = true
holds_value not_null null_int = false
holds_value not_null null_text = false
holds_value not_null (col q k) = not_null q k
holds_value not_null (scalar q) = false
holds_value not_null (both o x y) = false
holds_value not_null (minus_of x) = false
holds_value not_null (choose s x) = false
holds_value not_null count_all = false
holds_value not_null (fold f d x) = false

-- how a condition of some row, or of every one, is read of a row
abbrev pub of_some : Reading → Reading
of_some True = True
of_some False = NotFalse
of_some NotTrue = True
of_some NotFalse = NotFalse

abbrev pub of_every : Reading → Reading
of_every True = NotTrue
of_every False = False
of_every NotTrue = NotTrue
of_every NotFalse = False

module _ {R : Type 0} where
  -- a comparison, by whether both operands are known not to be null
  abbrev pub plain_sql : Reading → Sign → Bool → Expression R → Expression R → Test R
  plain_sql True sign sure x y = compared (is sign) x y
  plain_sql False sign sure x y = compared (is_not sign) x y
  plain_sql NotTrue sign sure x y = if sure then compared (is_not sign) x y else not_true (compared (is sign) x y)
  plain_sql NotFalse sign sure x y = if sure then compared (is sign) x y else not_false (compared (is sign) x y)

  -- whether two cells are the same, by whether one of them, and both, are known not to be null: then an index or a hash serves
  abbrev pub are_same : Bool → Expression R → Expression R → Test R
  are_same one x y = if one then compared c.Equal x y else compared c.Same x y

  abbrev pub are_not_same : Bool → Bool → Expression R → Expression R → Test R
  are_not_same one two x y = if two then compared c.Unequal x y else if one then not_true (compared c.Equal x y) else compared c.NotSame x y

  abbrev pub same_sql : Reading → Bool → Bool → Expression R → Expression R → Test R
  same_sql True one two x y = are_same one x y
  same_sql False one two x y = are_not_same one two x y
  same_sql NotTrue one two x y = are_not_same one two x y
  same_sql NotFalse one two x y = are_same one x y

  abbrev pub compare_sql : Reading → Sign → Bool → Bool → Expression R → Expression R → Test R
  compare_sql r equal a b x y = plain_sql r equal (a && b) x y
  compare_sql r unequal a b x y = plain_sql r unequal (a && b) x y
  compare_sql r below a b x y = plain_sql r below (a && b) x y
  compare_sql r at_most a b x y = plain_sql r at_most (a && b) x y
  compare_sql r above a b x y = plain_sql r above (a && b) x y
  compare_sql r at_least a b x y = plain_sql r at_least (a && b) x y
  compare_sql r like a b x y = plain_sql r like (a && b) x y
  compare_sql r same a b x y = same_sql r (a || b) (a && b) x y

  -- IS NULL is never unknown
  abbrev pub null_sql : Reading → Expression R → Test R
  null_sql True x = null x
  null_sql False x = filled x
  null_sql NotTrue x = filled x
  null_sql NotFalse x = null x

  abbrev pub always_sql : Reading → Test R
  always_sql True = constant true
  always_sql False = constant false
  always_sql NotTrue = constant false
  always_sql NotFalse = constant true

  -- for some row the test of a row is asked of one that is there, and else of none; for every row the other way round
  abbrev pub some_sql : Reading → ℕ → R → Test R → Test R
  some_sql True q rows test = exists q rows test
  some_sql False q rows test = missing q rows test
  some_sql NotTrue q rows test = missing q rows test
  some_sql NotFalse q rows test = exists q rows test

  abbrev pub every_sql : Reading → ℕ → R → Test R → Test R
  every_sql True q rows test = missing q rows test
  every_sql False q rows test = exists q rows test
  every_sql NotTrue q rows test = exists q rows test
  every_sql NotFalse q rows test = missing q rows test

  abbrev mutual
    pub cell_sql : Names R → Term → Expression R
    cell_sql n (int m) = number m
    cell_sql n (text s) = string s
    cell_sql n null_int = null_of Integer
    cell_sql n null_text = null_of Varchar
    cell_sql n (col q k) = n.column q k
    cell_sql n (scalar q) = only_cell q (n.range q)
    cell_sql n (both op x y) = operated op (cell_sql n x) (cell_sql n y)
    cell_sql n (minus_of x) = opposite (cell_sql n x)
    cell_sql n (choose s x) = cases (arms_sql n s) (cell_sql n x)
    -- an aggregate is a cell of a group alone
    cell_sql n count_all = null_of Integer
    cell_sql n (fold f t x) = null_of Integer

    pub arms_sql : Names R → Arms → Whens R
    arms_sql n no_arm = no_when
    arms_sql n (arm p x s) = when (cond_sql n True p) (cell_sql n x) (arms_sql n s)

    -- a test that is true just where what is asked of the condition is so
    pub cond_sql : Names R → Reading → Cond → Test R
    cond_sql n r always = always_sql r
    cond_sql n r (compare sign x y) = compare_sql r sign (holds_value n.not_null x) (holds_value n.not_null y) (cell_sql n x) (cell_sql n y)
    cond_sql n r (is_null x) = null_sql r (cell_sql n x)
    cond_sql n r (and p q) = joined (of_and r) (cond_sql n r p) (cond_sql n r q)
    cond_sql n r (or p q) = joined (of_or r) (cond_sql n r p) (cond_sql n r q)
    cond_sql n r (not p) = cond_sql n (turned r) p
    cond_sql n r (some q p) = some_sql r q (n.source q) (cond_sql n (of_some r) p)
    cond_sql n r (every q p) = every_sql r q (n.source q) (cond_sql n (of_every r) p)
