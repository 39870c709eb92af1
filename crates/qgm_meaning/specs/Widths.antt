-- How many cells the rows of a box have.
use Rattle.std.specs.Prelude.{ℕ, ◌≡◌, List, [], ◌∷◌, length, ⊤}
use Rattle.row_bag.specs.Tables.{bag_named}
use Rattle.row_bag.specs.declared.tables.Table.{Table}
use Rattle.qgm_core.specs.Boxes.{width}
use Rattle.qgm_core.specs.declared.kinds.BoxKind.{BoxKind}
use Rattle.qgm_core.specs.declared.kinds.BoxKind.TheVariants.{Base, Select, Group, SetOp, OuterJoin}
use Rattle.qgm_core.specs.declared.node.Node.{Node}
use Rattle.qgm_core.specs.declared.owned.OwnedQuant.{OwnedQuant}
use Rattle.qgm_meaning.specs.Meaning.{bag_in, rows_or_none}
use Rattle.qgm_meaning.specs.Ranks.{by_rank}
use Rattle.qgm_meaning.specs.Values.{Bag, Environment}

-- each row has so many cells
abbrev pub Wide : ℕ → Bag → Type 0
Wide w [] = ⊤
Wide w (r ∷ rows) = (length r.cells ≡ w) × Wide w rows

-- the table of a base has rows of as many cells as the base has columns
abbrev pub FilledBy : BoxKind → List Table → Type 0
FilledBy (Base table) tables = Wide (length table.types) (rows_or_none (bag_named tables table.name))
FilledBy Select tables = ⊤
FilledBy (Group keys) tables = ⊤
FilledBy (SetOp operator types) tables = ⊤
FilledBy OuterJoin tables = ⊤

-- so have those of all bases among these boxes
abbrev pub Filled : List Table → List Node → Type 0
Filled tables [] = ⊤
Filled tables (n ∷ ns) = FilledBy n.parts.kind tables × Filled tables ns

-- how many columns a box among these has
abbrev pub width_in : List Node → ℕ → ℕ
width_in ns b = by_rank 0 (λ n below. width n) ns b

-- each of these quantifiers ranges over a box of so many columns
abbrev pub Arms : ℕ → List Node → List OwnedQuant → Type 0
Arms w ns [] = ⊤
Arms w ns (r ∷ rs) = (width_in ns r.over ≡ w) × Arms w ns rs

-- the arms of a set operation have its columns
abbrev pub ArmsOf : BoxKind → Node → List Node → Type 0
ArmsOf (Base table) n ns = ⊤
ArmsOf Select n ns = ⊤
ArmsOf (Group keys) n ns = ⊤
ArmsOf (SetOp operator types) n ns = Arms (length types) ns n.quants
ArmsOf OuterJoin n ns = ⊤

abbrev pub Even : List Node → Type 0
Even [] = ⊤
Even (n ∷ ns) = ArmsOf n.parts.kind n ns × Even ns

-- a box's rows have as many cells as it has columns
abbrev pub WideBoxes : Type 0
WideBoxes = (tables : List Table) (ns : List Node) → Filled tables ns → Even ns → (b : ℕ) (env : Environment) → Wide (width_in ns b) (bag_in tables ns b env)
