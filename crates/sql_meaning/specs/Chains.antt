-- What is a chain of operators: as it is written, two operands at a time, and as it is resolved.
use Rattle.std.specs.Prelude.{Bool, true, false}
use Rattle.sql_ast.specs.Syntax as s
use Rattle.sql_meaning.specs.ResolvedTrees as q

-- ---- as written

-- "+", "-" or "||"
abbrev pub is_sum : s.Expr → Bool
is_sum (s.add x op y) = true
is_sum _ = false

-- "*" or "/"
abbrev pub is_product : s.Expr → Bool
is_product (s.multiply x op y) = true
is_product _ = false

-- OR
abbrev pub is_disjunction : s.Cond → Bool
is_disjunction (s.either p q) = true
is_disjunction _ = false

-- AND
abbrev pub is_conjunction : s.Cond → Bool
is_conjunction (s.both p q) = true
is_conjunction _ = false

-- ---- resolved

-- a chain of "+", "-" or "||"
abbrev pub sums : q.Value → Bool
sums (q.sum x xs) = true
sums _ = false

-- a chain of "*" or "/"
abbrev pub multiplies : q.Value → Bool
multiplies (q.product x xs) = true
multiplies _ = false
