-- A graph of which some boxes stay as they were and others are made anew: it is sound, types agree and all have their shapes.
use Rattle.std.specs.Prelude.{ℕ, ◌≡◌, ◌≤◌, ◌⊎◌, nat_lt, Bool, true, false, List, None}
use Rattle.qgm_core.specs.Boxes.{Ordered, QueryGraph, has_box, ids_in, overs_in, owns, numbers, width}
use Rattle.qgm_core.specs.Free.{named_by}
use Rattle.qgm_core.specs.Kinds.{is_F_or_S, is_S, is_magic, is_permit}
use Rattle.list_laws.specs.Lists.{EachOnce, In, holds, times}
use Rattle.qgm_core.specs.declared.node.Node.{Node}
use Rattle.qgm_core.specs.declared.owned.OwnedQuant.{OwnedQuant}
use Rattle.qgm_wellformed.specs.Columns.{columns_fit}
use Rattle.qgm_wellformed.specs.Shapes.{shape_fits}
use Rattle.qgm_wellformed.specs.Types.{types_by}
use Rattle.qgm_wellformed.specs.WellFormed.{fault}
use Rattle.qgm_meaning.specs.Scope.{loose}
use Rattle.qgm_edit_laws.specs.Facts.{Asks}
use Rattle.qgm_edit_laws.specs.Graph.{ArmsBy, BareBy, Fits, Sound, binds_row, nodes_in, reads_in}
use Rattle.qgm_edit_laws.specs.Reforms.{types_at}
use Rattle.qgm_edit_laws.specs.Scoped.{Scoped}
use Rattle.qgm_edit_laws.specs.TypesBy.{Types, agrees_by, via}

-- the boxes own this quantifier
abbrev pub IsOwned : List Node → OwnedQuant → Type 0
IsOwned bs r = (o : Node) × (In o bs × In r o.quants)

-- a box that stays: it looks up what it did and so do the boxes under it, which are kept; each quantifier that it names is there as before, over the same kept box
pub record StaysIn (bs hs : List Node) (kept : ℕ → Bool) (look : ℕ → ℕ → Bool) (n : Node) : Type 0 where
  pub within : In n bs
  pub number : kept n.id ≡ true
  pub same : (q : ℕ) → look n.id q ≡ loose bs n.id q
  pub over : (r : OwnedQuant) → In r n.quants → (kept r.over ≡ true) × ((q : ℕ) → look r.over q ≡ loose bs r.over q)
  pub named : (r : OwnedQuant) → holds r.id (named_by n) ≡ true → IsOwned bs r → (kept r.over ≡ true) × ((s : OwnedQuant) × (IsOwned hs s × ((s.id ≡ r.id) × (s.over ≡ r.over))))

-- a box that is made, or changed: it is scoped by what is looked up, and asks for it
pub record MadeIn (hs : List Node) (look : ℕ → ℕ → Bool) (n : Node) : Type 0 where
  pub scoped : Scoped look n
  pub settled : (q : ℕ) → owns q n ≡ true → look n.id q ≡ false
  pub asks : Asks look n
  pub fits : (q k : ℕ) → reads_in q k n ≡ true → Fits hs q k
  pub own_nodes : (q : ℕ) → nodes_in q n ≡ true → (owns q n ≡ true) × (binds_row q n.quants ≡ false)
  pub bare : BareBy n.parts.kind n
  pub arms : (m : Node) (r : OwnedQuant) → In r n.quants → In m hs → m.id ≡ r.over → ArmsBy n.parts.kind (width m) (width n)

-- kept boxes have as many columns, of the same types, as before; what is looked up is told, and which boxes are made
pub record Rebuilds (bs hs : List Node) (root : ℕ) (kept : ℕ → Bool) (look : ℕ → ℕ → Bool) (fresh : ℕ → Bool) : Type 0 where
  pub ordered : Ordered hs
  pub rooted : has_box hs root ≡ true
  pub top : times root (overs_in hs) ≡ 0
  pub once : (q : ℕ) → times q (ids_in hs) ≤ 1
  -- a kept box has its width, and is magic if it was
  pub wide : (u m : Node) → In u bs → In m hs → kept u.id ≡ true → u.id ≡ m.id → width m ≡ width u
  pub magic : (u m : Node) → In u bs → In m hs → kept u.id ≡ true → u.id ≡ m.id → is_magic m.parts.role ≡ is_magic u.parts.role
  pub held : (u : Node) → In u bs → kept u.id ≡ true → has_box hs u.id ≡ true
  -- one that looks something up is used once
  pub used : (b q : ℕ) → look b q ≡ true → times b (overs_in hs) ≡ 1
  pub each : (n : Node) → In n hs → StaysIn bs hs kept look n ⊎ (fresh n.id ≡ true)
  pub made : (n : Node) → In n hs → fresh n.id ≡ true → MadeIn hs look n

abbrev pub RebuiltSound : Type 0
RebuiltSound = (bs hs : List Node) (root : ℕ) (kept : ℕ → Bool) (look : ℕ → ℕ → Bool) (fresh : ℕ → Bool) → Sound bs root → Rebuilds bs hs root kept look fresh → Sound hs root

-- what is looked up after it is exactly so
abbrev pub RebuiltLooks : Type 0
RebuiltLooks = (bs hs : List Node) (root : ℕ) (kept : ℕ → Bool) (look : ℕ → ℕ → Bool) (fresh : ℕ → Bool) → Sound bs root → Rebuilds bs hs root kept look fresh → (b q : ℕ) → has_box hs b ≡ true → loose hs b q ≡ look b q

-- it isn't the root, and no F or S quantifier ranges over it
abbrev pub IsUnseen : List Node → ℕ → Node → Type 0
IsUnseen hs root n = (n.id ≡ root → ⊥) × ((m : Node) (r : OwnedQuant) → In m hs → In r m.quants → r.over ≡ n.id → is_F_or_S r.kind ≡ false)

-- of a made box, where boxes have these types: its columns have them, what it compares agrees, and it has columns and its shape; a PERMIT box is unseen, and no F or S quantifier of it ranges over one
pub record HasForm (hs : List Node) (root : ℕ) (types : Types) (n : Node) : Type 0 where
  pub columns_typed : types n.id ≡ types_by (via types hs) n.parts.kind n.parts.head
  pub agrees : agrees_by (via types hs) types n ≡ true
  pub columns : columns_fit hs n ≡ true
  pub shape : shape_fits root hs n ≡ true
  pub hidden : is_permit n.parts.distinct ≡ true → IsUnseen hs root n
  pub unseen : (r : OwnedQuant) (m : Node) → In r n.quants → is_F_or_S r.kind ≡ true → In m hs → m.id ≡ r.over → is_permit m.parts.distinct ≡ false
  pub scalars : (r : OwnedQuant) (m : Node) → In r n.quants → is_S r.kind ≡ true → In m hs → m.id ≡ r.over → nat_lt 0 (width m) ≡ true

-- the check finds nothing after it where it found nothing before
abbrev pub RebuiltWellFormed : Type 0
RebuiltWellFormed =
    (g h : QueryGraph) (kept : ℕ → Bool) (look : ℕ → ℕ → Bool) (fresh : ℕ → Bool) (types : Types) → EachOnce (numbers g.boxes) → fault g ≡ None → h.root ≡ g.root → Rebuilds g.boxes h.boxes g.root kept look fresh
    → ((u : Node) → In u g.boxes → kept u.id ≡ true → types u.id ≡ types_at g.boxes u.id)
    → ((n : Node) → In n h.boxes → Sound h.boxes g.root → fresh n.id ≡ true → HasForm h.boxes g.root types n)
    → fault h ≡ None
