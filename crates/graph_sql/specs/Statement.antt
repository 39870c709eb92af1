-- What a statement of SQL is made of. R is what stands for the rows that a quantifier ranges over.
use Rattle.std.specs.Prelude.{ℕ, ℤ, Bool, List}
use Rattle.qgm_terms.specs.declared.tree.Op.{Op}
use Rattle.sql_value.specs.declared.order_key.SqlType.{SqlType}
use Rattle.graph_sql.specs.declared.reading.Comparison.{Comparison}
use Rattle.graph_sql.specs.declared.reading.Connective.{Connective}

mutual
  pub data Expression (R : Type 0) : Type 0 where
    number : ℤ → Expression R
    string : List ℕ → Expression R
    null_of : SqlType → Expression R
    -- a column, by its place from 1, of the row that a quantifier is bound to
    column : ℕ → ℕ → Expression R
    -- the one cell of the rows of a quantifier
    only_cell : ℕ → R → Expression R
    operated : Op → Expression R → Expression R → Expression R
    opposite : Expression R → Expression R
    cases : Whens R → Expression R → Expression R

  -- the arms of a CASE
  pub data Whens (R : Type 0) : Type 0 where
    no_when : Whens R
    when : Test R → Expression R → Whens R → Whens R

  pub data Test (R : Type 0) : Type 0 where
    constant : Bool → Test R
    compared : Comparison → Expression R → Expression R → Test R
    -- IS NULL, and IS NOT NULL
    null : Expression R → Test R
    filled : Expression R → Test R
    -- IS NOT TRUE, and IS NOT FALSE
    not_true : Test R → Test R
    not_false : Test R → Test R
    joined : Connective → Test R → Test R → Test R
    -- EXISTS, and NOT EXISTS: of the rows of a quantifier, to each of which it is bound in the test
    exists : ℕ → R → Test R → Test R
    missing : ℕ → R → Test R → Test R
