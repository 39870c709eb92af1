-- How the rows of PERMIT boxes are read.
use Rattle.std.specs.Prelude.{ℕ, ◌≡◌, Bool, true, List}
use Rattle.qgm_core.specs.Kinds.{is_permit}
use Rattle.list_laws.specs.Lists.{In}
use Rattle.qgm_core.specs.declared.node.Node.{Node}
use Rattle.qgm_meaning.specs.AsSets.{ReadsSets}
use Rattle.qgm_edit_laws.specs.Graph.{Sound}
use Rattle.qgm_edit_laws.specs.Shaped.{Shaped}

-- boxes read the rows of PERMIT boxes by some and every alone
abbrev pub PermitRead : Type 0
PermitRead =
    (bs : List Node) (root : ℕ) → Sound bs root → Shaped bs root → (sets : ℕ → Bool) → ((n : Node) → In n bs → sets n.id ≡ true → is_permit n.parts.distinct ≡ true)
    → (n : Node) → In n bs → ReadsSets sets n
