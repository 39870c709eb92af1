-- How expressions and tests are written. R is text: that of a FROM item for the rows of a quantifier, and for EXISTS all between FROM and the test.
-- `at` gives the number of a quantifier.
use Rattle.std.specs.Prelude.{ℕ, ◌++◌, Bool, true, false, List, [], Option, Some, None, codes, decimal}
use Rattle.std.specs.Fmt.{signed_decimal}
use Rattle.graph_print.specs.TermText.{doubled}
use Rattle.qgm_terms.specs.declared.tree.Op.{Op}
use Rattle.qgm_terms.specs.declared.tree.Op.TheVariants.{Add, Sub, Mul, Div, Cat}
use Rattle.sql_value.specs.declared.order_key.SqlType.{SqlType}
use Rattle.sql_value.specs.declared.order_key.SqlType.TheVariants.{Integer, Varchar}
use Rattle.graph_sql.specs.Statement.{Expression, number, string, null_of, column, only_cell, operated, opposite, cases, Whens, no_when, when}
use Rattle.graph_sql.specs.Statement.{Test, constant, compared, null, filled, not_true, not_false, joined, exists, missing}
use Rattle.graph_sql.specs.declared.reading.Comparison.{Comparison}
use Rattle.graph_sql.specs.declared.reading.Comparison.TheVariants.{Equal, Unequal, Below, AtMost, Above, AtLeast, Like, NotLike, Same, NotSame}
use Rattle.graph_sql.specs.declared.reading.Connective.{Connective}
use Rattle.graph_sql.specs.declared.reading.Connective.TheVariants.{And, Or}

-- ---- words

abbrev pub op_word : Op → List ℕ
op_word Add = codes " + "
op_word Sub = codes " - "
op_word Mul = codes " * "
op_word Div = codes " / "
op_word Cat = codes " || "

abbrev pub null_word : SqlType → List ℕ
null_word Integer = codes "CAST(NULL AS bigint)"
null_word Varchar = codes "(CAST(NULL AS text) COLLATE \"C\")"

abbrev pub constant_word : Bool → List ℕ
constant_word true = codes "(TRUE)"
constant_word false = codes "(FALSE)"

abbrev pub connective_word : Connective → List ℕ
connective_word And = codes " AND "
connective_word Or = codes " OR "

-- what stands before, between and behind the operands of a comparison
abbrev pub open_comparison : Comparison → List ℕ
open_comparison Equal = codes "("
open_comparison Unequal = codes "("
open_comparison Below = codes "("
open_comparison AtMost = codes "("
open_comparison Above = codes "("
open_comparison AtLeast = codes "("
open_comparison Like = codes "("
open_comparison NotLike = codes "("
open_comparison Same = codes "(ARRAY["
open_comparison NotSame = codes "(ARRAY["

abbrev pub comparison_word : Comparison → List ℕ
comparison_word Equal = codes " = "
comparison_word Unequal = codes " <> "
comparison_word Below = codes " < "
comparison_word AtMost = codes " <= "
comparison_word Above = codes " > "
comparison_word AtLeast = codes " >= "
comparison_word Like = codes " LIKE "
comparison_word NotLike = codes " NOT LIKE "
comparison_word Same = codes "] = ARRAY["
comparison_word NotSame = codes "] <> ARRAY["

abbrev pub close_comparison : Comparison → List ℕ
close_comparison Equal = codes ")"
close_comparison Unequal = codes ")"
close_comparison Below = codes ")"
close_comparison AtMost = codes ")"
close_comparison Above = codes ")"
close_comparison AtLeast = codes ")"
close_comparison Like = codes " ESCAPE '')"
close_comparison NotLike = codes " ESCAPE '')"
close_comparison Same = codes "])"
close_comparison NotSame = codes "])"

-- brackets of a chain of one connective; none where it goes on as the first operand of such a chain
abbrev pub open_chain : Option Connective → Connective → List ℕ
open_chain None k = codes "("
open_chain (Some And) And = []
open_chain (Some And) Or = codes "("
open_chain (Some Or) And = codes "("
open_chain (Some Or) Or = []

abbrev pub close_chain : Option Connective → Connective → List ℕ
close_chain None k = codes ")"
close_chain (Some And) And = []
close_chain (Some And) Or = codes ")"
close_chain (Some Or) And = codes ")"
close_chain (Some Or) Or = []

-- ---- expressions and tests

abbrev pub column_text : (ℕ → ℕ) → ℕ → ℕ → List ℕ
column_text at q k = codes "q" ++ decimal (at q) ++ codes ".c" ++ decimal k

abbrev mutual
  pub expression_text : (ℕ → ℕ) → Expression (List ℕ) → List ℕ
  expression_text at (number n) = codes "BIGINT '" ++ signed_decimal n ++ codes "'"
  expression_text at (string s) = codes "(TEXT '" ++ doubled 39 s ++ codes "' COLLATE \"C\")"
  expression_text at (null_of type) = null_word type
  expression_text at (column q k) = column_text at q k
  expression_text at (only_cell q range) = codes "(SELECT " ++ column_text at q 1 ++ codes " FROM " ++ range ++ codes ")"
  expression_text at (operated o x y) = codes "(" ++ expression_text at x ++ op_word o ++ expression_text at y ++ codes ")"
  expression_text at (opposite x) = codes "(- " ++ expression_text at x ++ codes ")"
  expression_text at (cases ws x) = codes "(CASE" ++ whens_text at ws ++ codes " ELSE " ++ expression_text at x ++ codes " END)"

  pub whens_text : (ℕ → ℕ) → Whens (List ℕ) → List ℕ
  whens_text at no_when = []
  whens_text at (when p x ws) = codes " WHEN " ++ test_text at None p ++ codes " THEN " ++ expression_text at x ++ whens_text at ws

  -- a test; where it is the first operand of a chain, by the connective of the chain
  pub test_text : (ℕ → ℕ) → Option Connective → Test (List ℕ) → List ℕ
  test_text at chain (constant b) = constant_word b
  test_text at chain (compared c x y) = open_comparison c ++ expression_text at x ++ comparison_word c ++ expression_text at y ++ close_comparison c
  test_text at chain (null x) = codes "(" ++ expression_text at x ++ codes " IS NULL)"
  test_text at chain (filled x) = codes "(" ++ expression_text at x ++ codes " IS NOT NULL)"
  test_text at chain (not_true p) = codes "(" ++ test_text at None p ++ codes " IS NOT TRUE)"
  test_text at chain (not_false p) = codes "(" ++ test_text at None p ++ codes " IS NOT FALSE)"
  test_text at chain (joined k p q) = open_chain chain k ++ test_text at (Some k) p ++ connective_word k ++ test_text at None q ++ close_chain chain k
  test_text at chain (exists q source p) = codes "(EXISTS (SELECT 1 FROM " ++ source ++ test_text at None p ++ codes "))"
  test_text at chain (missing q source p) = codes "(NOT EXISTS (SELECT 1 FROM " ++ source ++ test_text at None p ++ codes "))"
