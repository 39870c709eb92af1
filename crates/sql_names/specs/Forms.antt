-- Forms of which chains are made.
use Rattle.std.specs.Prelude.{Bool, true, false}
pub use Rattle.sql_meaning.specs.Chains.{is_conjunction, is_disjunction, is_product, is_sum, multiplies, sums}
use Rattle.sql_meaning.specs.ResolvedTrees as q

-- a chain of AND
abbrev pub wants_all : q.Test → Bool
wants_all (q.all ps) = true
wants_all _ = false

-- a chain of OR
abbrev pub wants_any : q.Test → Bool
wants_any (q.any ps) = true
wants_any _ = false
