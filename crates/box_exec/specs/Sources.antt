-- The rows of the E, A and S quantifiers of a box.
use Rattle.std.specs.Prelude.{ℕ, ◌==◌, List, [], ◌∷◌, if◌then◌else◌}
use Rattle.qgm_meaning.specs.Values.{Bag}
pub use Rattle.row_bag.specs.Operands.{held}
use Rattle.box_exec.specs.declared.source.Sub.{Sub}
use Rattle.box_exec.specs.declared.source.SubRows.{SubRows}
use Rattle.box_exec.specs.declared.source.SubRows.TheVariants.{Plain, Indexed}

-- of an E, A or S quantifier
abbrev pub rows_held : SubRows → Bag
rows_held (Plain source) = held source
rows_held (Indexed rows) = rows

-- the rows of the first of this number
abbrev pub held_by : List Sub → ℕ → Bag
held_by [] q = []
held_by (s ∷ subs) q = if s.quant == q then rows_held s.rows else held_by subs q
