-- Queries without names of columns: a column is the number of scopes that lie between, and a place in the row of a FROM. All else stands as it is written.
use Rattle.std.specs.Prelude.{ℕ, ℤ, Bool, List, Option}
use Rattle.shared_types.specs.declared.compare.CmpOp.{CmpOp}
use Rattle.sql_ast.specs.declared.word.AdditiveOp.{AdditiveOp}
use Rattle.sql_ast.specs.declared.word.MultiplicativeOp.{MultiplicativeOp}
use Rattle.sql_ast.specs.declared.word.Quantifier.{Quantifier}
use Rattle.sql_ast.specs.declared.word.SetFunction.{SetFunction}
use Rattle.sql_ast.specs.declared.word.SetOperator.{SetOperator}
use Rattle.sql_value.specs.declared.order_key.SqlType.{SqlType}

mutual
  pub data Value : Type 0 where
    number : ℤ → Value
    text : List ℕ → Value
    -- of the type of a CAST; a NULL that is a result of a CASE has no type of its own
    null : Option SqlType → Value
    -- the scope, from the innermost, and the place in its row, both from 0
    column : ℕ → ℕ → Value
    sum : Value → Addends → Value
    product : Value → Multipliers → Value
    negative : Value → Value
    searched : Arms → Value → Value
    simple : Value → Choices → Value → Value
    coalesce : Value → Values → Value
    null_if : Value → Value → Value
    scalar : Query → Value
    count_all : Value
    -- with DISTINCT where true stands
    aggregate : SetFunction → Bool → Value → Value

  pub data Addends : Type 0 where
    no_addend : Addends
    one_addend : AdditiveOp → Value → Addends → Addends

  pub data Multipliers : Type 0 where
    no_multiplier : Multipliers
    one_multiplier : MultiplicativeOp → Value → Multipliers → Multipliers

  pub data Values : Type 0 where
    no_value : Values
    one_value : Value → Values → Values

  pub data Arms : Type 0 where
    no_arm : Arms
    one_arm : Test → Value → Arms → Arms

  pub data Choices : Type 0 where
    no_choice : Choices
    one_choice : Value → Value → Choices → Choices

  pub data Test : Type 0 where
    all : Tests → Test
    any : Tests → Test
    negated : Test → Test
    compare : Value → CmpOp → Value → Test
    quantified : Value → CmpOp → Quantifier → Query → Test
    between : Value → Value → Value → Test
    among : Value → Values → Test
    among_rows : Value → Query → Test
    like : Value → Value → Test
    is_null : Value → Test
    exists : Query → Test

  pub data Tests : Type 0 where
    no_test : Tests
    one_test : Test → Tests → Tests

  pub data From : Type 0 where
    -- a table or a view
    named : List ℕ → From
    derived : Query → From
    crossed : From → From → From
    joined : From → From → Test → From
    -- with the number of columns of the right
    left_joined : From → From → ℕ → Test → From

  pub data Froms : Type 0 where
    no_from : Froms
    one_from : From → Froms → Froms

  pub data Query : Type 0 where
    -- with DISTINCT where true stands; the list; FROM; WHERE
    block : Bool → Values → Froms → Test → Query
    -- and the places of the grouping columns, where GROUP BY is written; the number of columns of the FROM; HAVING
    grouped : Bool → Values → Froms → Test → Option (List ℕ) → ℕ → Test → Query
    -- with ALL where true stands, and the number of columns
    combine : Query → SetOperator → Bool → ℕ → Query → Query
    intersect : Query → Bool → ℕ → Query → Query
