-- Scope box by box: what a box below looks up is shown to it by its owner, or looked up in its owner.
use Rattle.std.specs.Prelude.{ℕ, ◌≡◌, ◌≤◌, ◌++◌, ◌||◌, if◌then◌else◌, Bool, true, false, List, ◌∷◌}
use Rattle.qgm_core.specs.Boxes.{Ordered, has_box, ids_in, overs_in, owns, width}
use Rattle.qgm_core.specs.Kinds.{is_F}
use Rattle.list_laws.specs.Lists.{In, times}
use Rattle.qgm_core.specs.declared.kinds.BoxKind.{BoxKind}
use Rattle.qgm_core.specs.declared.kinds.BoxKind.TheVariants.{Base, Select, Group, SetOp, OuterJoin}
use Rattle.qgm_core.specs.declared.node.Node.{Node}
use Rattle.qgm_core.specs.declared.owned.OwnedQuant.{OwnedQuant}
use Rattle.qgm_meaning.specs.Scope.{loose, read_by}
use Rattle.qgm_edit_laws.specs.Checked.{own_seen}
use Rattle.qgm_edit_laws.specs.Graph.{ArmsBy, BareBy, Fits, binds_row, nodes_in, reads_in}

-- a box of this kind shows q to the box under r, which stands behind `done`: a select shows the F quantifiers before an F, and all of them to any other
abbrev pub shows_by : BoxKind → List OwnedQuant → List OwnedQuant → OwnedQuant → ℕ → Bool
shows_by (Base table) all done r q = false
shows_by Select all done r q = if is_F r.kind then binds_row q done else binds_row q all
shows_by (Group keys) all done r q = false
shows_by (SetOp operator types) all done r q = false
shows_by OuterJoin all done r q = false

-- where `look` bounds what boxes look up: what is looked up under a box is shown by it or looked up in it, and so is what it reads itself
pub record Scoped (look : ℕ → ℕ → Bool) (n : Node) : Type 0 where
  pub under : (done : List OwnedQuant) (r : OwnedQuant) (rest : List OwnedQuant) → n.quants ≡ done ++ r ∷ rest → (q : ℕ) → look r.over q ≡ true → (shows_by n.parts.kind n.quants done r q || look n.id q) ≡ true
  pub own : (q : ℕ) → read_by n q ≡ true → (own_seen n.parts.kind n q || look n.id q) ≡ true

-- what is sound of boxes but for scope
pub record Local (bs : List Node) (root : ℕ) : Type 0 where
  pub ordered : Ordered bs
  pub rooted : has_box bs root ≡ true
  pub once : (q : ℕ) → times q (ids_in bs) ≤ 1
  pub top : times root (overs_in bs) ≡ 0
  pub fits : (n : Node) → In n bs → (q k : ℕ) → reads_in q k n ≡ true → Fits bs q k
  pub own_nodes : (n : Node) → In n bs → (q : ℕ) → nodes_in q n ≡ true → (owns q n ≡ true) × (binds_row q n.quants ≡ false)
  pub bare : (n : Node) → In n bs → BareBy n.parts.kind n
  pub arms : (n m : Node) (r : OwnedQuant) → In n bs → In r n.quants → In m bs → m.id ≡ r.over → ArmsBy n.parts.kind (width m) (width n)

-- scope by such a bound: nothing that a box owns is looked up in it, and what is looked up in a box has at most one quantifier over it; nothing is in the root
pub record Bounds (look : ℕ → ℕ → Bool) (bs : List Node) (root : ℕ) : Type 0 where
  pub scoped : (n : Node) → In n bs → Scoped look n
  pub settled : (n : Node) → In n bs → (q : ℕ) → owns q n ≡ true → look n.id q ≡ false
  pub few : (b q : ℕ) → look b q ≡ true → times b (overs_in bs) ≤ 1
  pub none_at_root : (q : ℕ) → look root q ≡ false

-- sound but for boxes that the root doesn't reach
pub record NearlySound (bs : List Node) (root : ℕ) : Type 0 where
  pub local : Local bs root
  pub settled : (n : Node) → In n bs → (q : ℕ) → owns q n ≡ true → loose bs n.id q ≡ false
  pub few : (b q : ℕ) → loose bs b q ≡ true → times b (overs_in bs) ≤ 1
  pub none_at_root : (q : ℕ) → loose bs root q ≡ false
