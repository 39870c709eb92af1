-- What the check finds where a column of a box is dropped.
use Rattle.std.specs.Prelude.{ℕ, ◌≡◌, ◌≤◌, ◌<◌, true, false, List, length, None}
use Rattle.qgm_wellformed.specs.Shapes.{is_scalar}
use Rattle.qgm_wellformed.specs.WellFormed.{fault}
use Rattle.qgm_core.specs.Boxes.{QueryGraph, numbers}
use Rattle.qgm_core.specs.Edits.{drop_column}
use Rattle.qgm_core.specs.Kinds.{is_fed}
use Rattle.list_laws.specs.Lists.{EachOnce, In}
use Rattle.qgm_core.specs.declared.kinds.BoxKind.{BoxKind}
use Rattle.qgm_core.specs.declared.kinds.BoxKind.TheVariants.{Base, Select, Group, SetOp, OuterJoin}
use Rattle.qgm_core.specs.declared.node.Node.{Node}
use Rattle.qgm_core.specs.declared.owned.OwnedQuant.{OwnedQuant}
use Rattle.qgm_edit_laws.specs.Changes.{LosesColumn}
use Rattle.qgm_edit_laws.specs.FormedAdds.{types_asked}
use Rattle.qgm_edit_laws.specs.Graph.{Sound}
use Rattle.qgm_edit_laws.specs.FedOpen.{FedOpen}
use Rattle.qgm_edit_laws.specs.Shaped.{Typed}

-- no cell or condition names column k of a quantifier over b; a scalar names column 1
abbrev pub Unasked : List Node → ℕ → ℕ → Type 0
Unasked bs b k = (n o : Node) (r : OwnedQuant) → In n bs → In o bs → In r o.quants → r.over ≡ b → types_asked r.id k n ≡ false

-- types agree where a column that no box names goes
abbrev pub DropColumnTyped : Type 0
DropColumnTyped = (g : QueryGraph) → Sound g.boxes g.root → Typed g.boxes → (b : Node) (k : ℕ) → LosesColumn g.boxes b k → Unasked g.boxes b.id k → Typed (drop_column b.id k g).boxes

-- how many of the first cells of a box are keys
abbrev pub keys_of : BoxKind → ℕ
keys_of (Base table) = 0
keys_of Select = 0
keys_of (Group keys) = keys
keys_of (SetOp operator types) = 0
keys_of OuterJoin = 0

-- column k of b, which isn't fed, may go: no cell or condition names it, it is no key, and another column is left where an S quantifier ranges over b; no fed box is left over a closed box
pub record MayDropColumn (g : QueryGraph) (b : Node) (k : ℕ) : Type 0 where
  pub loses : LosesColumn g.boxes b k
  pub unasked : Unasked g.boxes b.id k
  pub not_fed : is_fed b.parts.role ≡ false
  pub no_key : keys_of b.parts.kind < k
  pub left : is_scalar g.boxes b.id ≡ true → 2 ≤ length b.parts.head
  pub fed_open : FedOpen (drop_column b.id k g).boxes

-- the check finds nothing after it where it found nothing before
abbrev pub DropColumnWellFormed : Type 0
DropColumnWellFormed = (g : QueryGraph) → EachOnce (numbers g.boxes) → fault g ≡ None → (b : Node) (k : ℕ) → MayDropColumn g b k → fault (drop_column b.id k g) ≡ None
