-- Edits of boxes where they stand.
use Rattle.std.specs.Prelude.{ℕ, ◌≡◌, ◌==◌, ◌≤◌, ◌||◌, Bool, true, false, List, length, map}
use Rattle.std.specs.List.{list_any}
use Rattle.qgm_core.specs.Boxes.{ids_in, overs_in, owns, width}
use Rattle.qgm_core.specs.Edits.{put_range, without_quant}
use Rattle.list_laws.specs.Lists.{In, times}
use Rattle.qgm_core.specs.declared.kinds.BoxKind.{BoxKind}
use Rattle.qgm_core.specs.declared.kinds.BoxKind.TheVariants.{Base, Select, Group, SetOp, OuterJoin}
use Rattle.qgm_core.specs.declared.node.Node.{Node}
use Rattle.qgm_core.specs.declared.owned.OwnedQuant.{OwnedQuant}
use Rattle.qgm_meaning.specs.Scope.{loose, read_by}
use Rattle.qgm_edit_laws.specs.Checked.{own_seen}
use Rattle.qgm_edit_laws.specs.Graph.{ArmsBy, BareBy, Fits, binds_row, nodes_in, reads_in}
use Rattle.qgm_edit_laws.specs.Placed.{Below}
use Rattle.qgm_edit_laws.specs.Scoped.{Scoped}

abbrev pub is_set_op : BoxKind → Bool
is_set_op (Base table) = false
is_set_op Select = false
is_set_op (Group keys) = false
is_set_op (SetOp operator types) = true
is_set_op OuterJoin = false

-- column k of q, a quantifier that these boxes have after the change, is there
abbrev pub FitsAfter : List Node → (Node → Node) → ℕ → ℕ → Type 0
FitsAfter bs g q k = (y z : Node) (r : OwnedQuant) → In y bs → In r (g y).quants → r.id ≡ q → In z bs → z.id ≡ r.over → (1 ≤ k) × (k ≤ width (g z))

-- boxes that keep their numbers; their quantifiers range over boxes below, have numbers of their own, and none ranges over the root; what is read fits, and each box has its shape
pub record Changes (bs : List Node) (root : ℕ) (g : Node → Node) : Type 0 where
  pub id : (y : Node) → (g y).id ≡ y.id
  pub over : (y : Node) (r : OwnedQuant) → In y bs → In r (g y).quants → Below bs y.id r.over
  pub once : (q : ℕ) → times q (ids_in (map g bs)) ≤ 1
  pub top : times root (overs_in (map g bs)) ≡ 0
  pub fits : (y : Node) → In y bs → (q k : ℕ) → reads_in q k (g y) ≡ true → FitsAfter bs g q k
  pub own_nodes : (y : Node) → In y bs → (q : ℕ) → nodes_in q (g y) ≡ true → (owns q (g y) ≡ true) × (binds_row q (g y).quants ≡ false)
  pub bare : (y : Node) → In y bs → BareBy (g y).parts.kind (g y)
  pub arms : (y z : Node) (r : OwnedQuant) → In y bs → In r (g y).quants → In z bs → z.id ≡ r.over → ArmsBy (g y).parts.kind (width (g z)) (width (g y))

-- only parts change: boxes keep kinds, widths and quantifiers; what they read is bound in them or was looked up in them, and fits; their nodes are of own quantifiers that bind no row
pub record Reparts (bs : List Node) (g : Node → Node) : Type 0 where
  pub id : (y : Node) → (g y).id ≡ y.id
  pub kind : (y : Node) → In y bs → (g y).parts.kind ≡ y.parts.kind
  pub quants : (y : Node) → In y bs → (g y).quants ≡ y.quants
  pub wide : (y : Node) → In y bs → width (g y) ≡ width y
  pub reads : (y : Node) → In y bs → (q : ℕ) → read_by (g y) q ≡ true → (own_seen y.parts.kind y q || loose bs y.id q) ≡ true
  pub fits : (y : Node) → In y bs → (q k : ℕ) → reads_in q k (g y) ≡ true → Fits bs q k
  pub own_nodes : (y : Node) → In y bs → (q : ℕ) → nodes_in q (g y) ≡ true → (owns q y ≡ true) × (binds_row q y.quants ≡ false)
  pub bare : (y : Node) → In y bs → BareBy y.parts.kind (g y)

-- quantifier r is put into o at place i: its number is new, it ranges over a box below that isn't the root and looks nothing up; what o reads of its own is still bound there
pub record PutsQuant (bs : List Node) (root : ℕ) (o : Node) (i : ℕ) (r : OwnedQuant) : Type 0 where
  pub within : In o bs
  pub new : list_any (owns r.id) bs ≡ false
  pub below : Below bs o.id r.over
  pub not_root : (r.over == root) ≡ false
  pub closed : (q : ℕ) → loose bs r.over q ≡ false
  pub seen : (q : ℕ) → read_by o q ≡ true → own_seen o.parts.kind o q ≡ true → own_seen o.parts.kind (put_range i r o) q ≡ true
  pub bare : BareBy o.parts.kind (put_range i r o)
  pub arms : (m : Node) → In m bs → m.id ≡ r.over → ArmsBy o.parts.kind (width m) (width o)

-- quantifier q of o goes: no box reads it, no node of o is of it, and what o reads of its own is still bound there
pub record LosesQuant (bs : List Node) (o : Node) (q : ℕ) : Type 0 where
  pub within : In o bs
  pub owned : owns q o ≡ true
  pub unread : (n : Node) → In n bs → read_by n q ≡ false
  pub no_node : nodes_in q o ≡ false
  pub seen : (p : ℕ) → read_by o p ≡ true → own_seen o.parts.kind o p ≡ true → own_seen o.parts.kind (without_quant q o) p ≡ true

-- quantifiers of o change, and keep numbers and boxes: what is below o, and what it reads, is shown as before or was looked up in o; its nodes are of quantifiers that bind no row
pub record TurnsQuants (bs : List Node) (o : Node) (f : Node → Node) : Type 0 where
  pub within : In o bs
  pub id : (y : Node) → (f y).id ≡ y.id
  pub parts : (f o).parts ≡ o.parts
  pub ids : map (λ r. r.id) (f o).quants ≡ map (λ r. r.id) o.quants
  pub overs : map (λ r. r.over) (f o).quants ≡ map (λ r. r.over) o.quants
  pub same : (r : OwnedQuant) → In r (f o).quants → (s : OwnedQuant) × (In s o.quants × ((s.id ≡ r.id) × (s.over ≡ r.over)))
  pub scoped : Scoped (loose bs) (f o)
  pub no_rows : (q : ℕ) → nodes_in q o ≡ true → binds_row q (f o).quants ≡ false

-- quantifier r of o moves onto a box below, which isn't the root and looks nothing up, and has the columns that are read of r
pub record Redirects (bs : List Node) (root : ℕ) (o : Node) (r : OwnedQuant) (c : Node) : Type 0 where
  pub within : In o bs
  pub owned : In r o.quants
  pub in_c : In c bs
  pub below : Below bs o.id c.id
  pub not_root : (c.id == root) ≡ false
  pub closed : (q : ℕ) → loose bs c.id q ≡ false
  pub fits : (n : Node) → In n bs → (k : ℕ) → reads_in r.id k n ≡ true → (1 ≤ k) × (k ≤ width c)
  pub arms : ArmsBy o.parts.kind (width c) (width o)

-- column k of b goes: it is a cell of its head that no box reads, and no set operation ranges over b
pub record LosesColumn (bs : List Node) (b : Node) (k : ℕ) : Type 0 where
  pub within : In b bs
  pub from_one : 1 ≤ k
  pub column : k ≤ length b.parts.head
  pub wide : width b ≡ length b.parts.head
  pub unread : (n o : Node) (r : OwnedQuant) → In n bs → In o bs → In r o.quants → r.over ≡ b.id → reads_in r.id k n ≡ false
  pub no_arm : (o : Node) (r : OwnedQuant) → In o bs → In r o.quants → r.over ≡ b.id → is_set_op o.parts.kind ≡ false
