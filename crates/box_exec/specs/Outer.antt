-- The rows of an outer join, over the rows of its two quantifiers.
use Rattle.std.specs.Prelude.{ℕ, Bool, IfSome, List, []}
use Rattle.row_bag.specs.Bags.{bind, unit}
use Rattle.row_bag.specs.Joins.{or_else}
use Rattle.sql_value.specs.declared.cell.Cell.{Cell}
use Rattle.qgm_core.specs.declared.node.Node.{Node}
use Rattle.qgm_meaning.specs.Meaning.{given, nothing}
use Rattle.qgm_meaning.specs.Values.{Bag, Environment, all_true, bound, head_cells}
use Rattle.box_exec.specs.Early.{is_none}
use Rattle.box_exec.specs.Lookup.{Hashes}
use Rattle.box_exec.specs.declared.joining.Join.{Join}
use Rattle.box_exec.specs.declared.joining.Right.{Right}

-- what the box gives of a left row beside each right row
abbrev pub partner_rows : Node → ℕ → ℕ → List Cell → Bag → Environment → Bag
partner_rows n p q left ys env = bind ys (λ b. given nothing n (bound q b (bound p left env)))

-- what it gives of a left row without a partner
abbrev pub null_row : Node → ℕ → ℕ → List Cell → Environment → Bag
null_row n p q left env = unit (head_cells nothing n.parts.head (bound q [] (bound p left env)))

abbrev pub joined_rows : Node → ℕ → ℕ → Bag → Bag → Environment → Bag
joined_rows n p q xs ys env = bind xs (λ left. or_else (partner_rows n p q left ys env) (null_row n p q left env))

-- the conditions of a box reject wholly
abbrev pub rejects_on : Node → Environment → Bool
rejects_on n env = is_none (all_true nothing n.parts.conds.items env).t

-- hashes of right rows, if there are any, are those of keys among the conditions
abbrev pub HashedOn : Join → Right → Type 0
HashedOn join right = IfSome right.hashed (λ h. Hashes (rejects_on join.node.now) join.right right.rows.now h.now)
