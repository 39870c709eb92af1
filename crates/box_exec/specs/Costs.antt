-- How many evaluations of boxes one evaluation of a box takes, where the rows of some boxes are kept.
use Rattle.std.specs.Prelude.{ℕ, ◌≡◌, ◌≤◌, ◌+◌, ◌==◌, if◌then◌else◌, Bool, true, false, List, [], ◌∷◌, length, slice_get, Option, Some, None, ⊤}
use Rattle.sql_value.specs.declared.level.Level.{Level}
use Rattle.sql_value.specs.declared.level.Level.TheVariants.{No, Cardinality, Division, Overflow, Yes}
use Rattle.row_bag.specs.declared.tables.Table.{Table}
use Rattle.qgm_core.specs.declared.node.Node.{Node}
use Rattle.qgm_meaning.specs.Meaning.{bag_in}
use Rattle.qgm_meaning.specs.Plain.{Counts, counted_by}
use Rattle.row_bag.specs.declared.operand.Operand.{Operand}

-- a box that is kept takes none
abbrev pub unless_kept : (ℕ → Bool) → Counts → Counts
unless_kept kept count b env = if kept b then 0 else count b env

-- of the boxes among these
abbrev pub costs : List Table → (ℕ → Bool) → List Node → Counts
costs tables kept [] b env = 0
costs tables kept (n ∷ ns) b env =
    if n.id == b then counted_by n.parts.kind n (bag_in tables ns) (unless_kept kept (costs tables kept ns)) env else costs tables kept ns b env

-- where their rows are asked for
abbrev pub asked : List Table → (ℕ → Bool) → List Node → Counts
asked tables kept ns = unless_kept kept (costs tables kept ns)

abbrev pub is_held : Option (Option Operand) → Bool
is_held None = false
is_held (Some None) = false
is_held (Some (Some s)) = true

-- there are rows for those of these boxes that are kept
abbrev pub Keeps : List (Option Operand) → (ℕ → Bool) → List Node → Type 0
Keeps memo kept [] = ⊤
Keeps memo kept (n ∷ ns) = (is_held (slice_get memo (length ns)) ≡ kept n.id) × Keeps memo kept ns

-- steps from a number to another, so many at least and so many at most
abbrev pub Between : ℕ → ℕ → ℕ → ℕ → Type 0
Between least most before after = (before + least ≤ after) × (after ≤ before + most)

-- none at no
abbrev pub at_level : Level → ℕ → ℕ
at_level No n = 0
at_level Cardinality n = n
at_level Division n = n
at_level Overflow n = n
at_level Yes n = n
