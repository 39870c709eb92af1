-- What chains and lists of conditions are, operand by operand.
use Rattle.std.specs.Prelude.{ℕ, List, [], ◌∷◌}
use Rattle.qgm_terms.specs.Terms.{Link, Cond}
use Rattle.sql_value.specs.Truths as t
use Rattle.sql_value.specs.declared.cell.Cell.{Cell}
use Rattle.sql_value.specs.declared.truth.Truth.{Truth}
use Rattle.qgm_meaning.specs.Values.{Bag, Environment, operate, truth, value}

-- a cell, and then operators and operands, from the left
abbrev pub chained : (ℕ → Bag) → Cell → List Link → Environment → Cell
chained s x [] env = x
chained s x (l ∷ ls) env = chained s (operate l.op x (value s l.right env)) ls env

abbrev pub all_of : (ℕ → Bag) → Truth → List Cond → Environment → Truth
all_of s p [] env = p
all_of s p (q ∷ qs) env = all_of s (t.and p (truth s q env)) qs env

abbrev pub any_of : (ℕ → Bag) → Truth → List Cond → Environment → Truth
any_of s p [] env = p
any_of s p (q ∷ qs) env = any_of s (t.or p (truth s q env)) qs env
