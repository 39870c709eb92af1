-- What the root gives where a column that no box names goes.
use Rattle.std.specs.Prelude.{ℕ, ◌≡◌, ◌<◌, ◌==◌, false, List}
use Rattle.row_bag.specs.declared.tables.Table.{Table}
use Rattle.qgm_core.specs.Boxes.{QueryGraph}
use Rattle.qgm_core.specs.Edits.{drop_column}
use Rattle.qgm_core.specs.Kinds.{is_enforce}
use Rattle.qgm_core.specs.declared.kinds.BoxKind.TheVariants.{Select}
use Rattle.qgm_core.specs.declared.node.Node.{Node}
use Rattle.qgm_meaning.specs.Meaning.{root_bag}
use Rattle.qgm_edit_laws.specs.Changes.{LosesColumn}
use Rattle.qgm_edit_laws.specs.FormedColumn.{Unasked, keys_of}
use Rattle.qgm_edit_laws.specs.Graph.{Sound}

-- a column of a box that isn't the root nor an ENFORCE select, of a group an aggregate, goes, which no cell or condition names (a scalar names column 1), where no set operation ranges over the box: the root gives the same rows
abbrev pub DropColumnBag : Type 0
DropColumnBag =
    (g : QueryGraph) → Sound g.boxes g.root → (b : Node) (k : ℕ) → LosesColumn g.boxes b k → Unasked g.boxes b.id k → keys_of b.parts.kind < k → (b.parts.kind ≡ Select → is_enforce b.parts.distinct ≡ false)
    → (g.root == b.id) ≡ false → (tables : List Table) → root_bag tables (drop_column b.id k g) ≡ root_bag tables g
