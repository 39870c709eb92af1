-- Types and shapes, where boxes change and keep their numbers and the types of their columns.
use Rattle.std.specs.Prelude.{ℕ, ◌≡◌, ◌⊎◌, nat_lt, true, false, List, [], ◌∷◌, map, None, Option}
use Rattle.sql_value.specs.declared.order_key.SqlType.{SqlType}
use Rattle.qgm_wellformed.specs.Columns.{columns_fit}
use Rattle.qgm_wellformed.specs.Shapes.{shape_fits}
use Rattle.qgm_wellformed.specs.Types.{is_typed, lookup_of, types_agree, types_by, types_found, types_of}
use Rattle.qgm_wellformed.specs.WellFormed.{fault}
use Rattle.qgm_core.specs.Boxes.{QueryGraph, numbers, width}
use Rattle.qgm_core.specs.Edits.{on_boxes}
use Rattle.qgm_core.specs.Free.{named_by}
use Rattle.qgm_core.specs.Kinds.{is_F_or_S, is_S, is_fed, is_magic, is_permit}
use Rattle.list_laws.specs.Lists.{EachOnce, In, first, holds}
use Rattle.qgm_core.specs.declared.node.Node.{Node}
use Rattle.qgm_core.specs.declared.owned.OwnedQuant.{OwnedQuant}
use Rattle.qgm_meaning.specs.Scope.{loose}
use Rattle.qgm_edit_laws.specs.Graph.{Sound}
use Rattle.qgm_edit_laws.specs.Shaped.{Shaped, Typed}

-- the types of the columns of box b
abbrev pub types_at : List Node → ℕ → List (Option SqlType)
types_at bs b = types_found (first (is_typed b) (types_of bs))

-- under its second quantifier a fed box has the first one looked up, and no other
abbrev pub FedAlone : List Node → Type 0
FedAlone bs =
    (n : Node) → In n bs → is_fed n.parts.role ≡ true → (a d : OwnedQuant) → n.quants ≡ a ∷ (d ∷ [])
    → (loose bs d.over a.id ≡ true) × ((q : ℕ) → loose bs d.over q ≡ true → q ≡ a.id)

-- these boxes have the quantifier, over a box with columns of the same types
abbrev pub Stood : List Node → OwnedQuant → Type 0
Stood bs r = (o : Node) × (In o bs × ((s : OwnedQuant) × (In s o.quants × ((s.id ≡ r.id) × (types_at bs s.over ≡ types_at bs r.over)))))

-- each box of hs is one of bs, changed: its number and the types of its columns stay, and whether it is magic; a quantifier that is named stood before
-- over the boxes of bs each has types, columns and its shape
-- what an S quantifier ranges over has a column; no F or S quantifier ranges over a PERMIT box, which isn't the root
pub record Reforms (bs hs : List Node) (root : ℕ) (g : Node → Node) : Type 0 where
  pub from : (n : Node) → In n hs → (y : Node) × (In y bs × (g y ≡ n))
  pub id : (y : Node) → (g y).id ≡ y.id
  pub stay : (y : Node) → In y bs → types_by (lookup_of bs) (g y).parts.kind (g y).parts.head ≡ types_by (lookup_of bs) y.parts.kind y.parts.head
  pub magic : (y : Node) → In y bs → is_magic (g y).parts.role ≡ is_magic y.parts.role
  pub stood : (y z : Node) (r : OwnedQuant) → In y bs → In r (g y).quants → In z bs → holds r.id (named_by (g z)) ≡ true → Stood bs r
  pub types : (y : Node) → In y bs → types_agree bs (g y) ≡ true
  pub columns : (y : Node) → In y bs → columns_fit bs (g y) ≡ true
  pub shapes : (y : Node) → In y bs → shape_fits root bs (g y) ≡ true
  pub scalars : (y z : Node) (r : OwnedQuant) → In y bs → In r (g y).quants → is_S r.kind ≡ true → In z bs → z.id ≡ r.over → nat_lt 0 (width z) ≡ true
  pub unseen : (y z : Node) (r : OwnedQuant) → In y bs → In r (g y).quants → is_F_or_S r.kind ≡ true → In z bs → z.id ≡ r.over → is_permit (g z).parts.distinct ≡ false
  pub root_seen : (y : Node) → In y bs → y.id ≡ root → is_permit (g y).parts.distinct ≡ false
  pub fed : FedAlone hs

-- where such a change keeps the graph sound, types agree and boxes have their shapes
abbrev pub Reformed : Type 0
Reformed = (bs hs : List Node) (root : ℕ) (g : Node → Node) → Sound bs root → Sound hs root → Reforms bs hs root g → Typed hs × Shaped hs root

-- what is asked of one such box, y, after the change: over the boxes as they were it has types, columns and its shape
pub record BoxForm (bs : List Node) (root : ℕ) (g : Node → Node) (y : Node) : Type 0 where
  pub stay : types_by (lookup_of bs) (g y).parts.kind (g y).parts.head ≡ types_by (lookup_of bs) y.parts.kind y.parts.head
  pub magic : is_magic (g y).parts.role ≡ is_magic y.parts.role
  pub stood : (r : OwnedQuant) → In r (g y).quants → Stood bs r ⊎ ((z : Node) → In z bs → holds r.id (named_by (g z)) ≡ false)
  pub types : types_agree bs (g y) ≡ true
  pub columns : columns_fit bs (g y) ≡ true
  pub shape : shape_fits root bs (g y) ≡ true
  pub scalars : (z : Node) (r : OwnedQuant) → In r (g y).quants → is_S r.kind ≡ true → In z bs → z.id ≡ r.over → nat_lt 0 (width z) ≡ true
  pub unseen : (z : Node) (r : OwnedQuant) → In r (g y).quants → is_F_or_S r.kind ≡ true → In z bs → z.id ≡ r.over → is_permit (g z).parts.distinct ≡ false
  pub permit : is_permit (g y).parts.distinct ≡ true → (y.id ≡ root → ⊥) × ((n : Node) (r : OwnedQuant) → In n bs → In r n.quants → r.over ≡ y.id → is_F_or_S r.kind ≡ false)

-- boxes change where they stand, and each that does has this form: where the graph stays sound, and fed boxes look up as they must, the check finds nothing that it didn't find before
abbrev pub BoxesFormed : Type 0
BoxesFormed =
    (g : QueryGraph) → EachOnce (numbers g.boxes) → fault g ≡ None → (f : Node → Node) → ((y : Node) → (f y).id ≡ y.id) → ((y : Node) → In y g.boxes → (f y ≡ y) ⊎ BoxForm g.boxes g.root f y)
    → Sound (map f g.boxes) g.root → FedAlone (map f g.boxes) → fault (on_boxes (map f) g) ≡ None
