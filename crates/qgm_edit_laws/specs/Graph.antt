-- What rules need of a graph.
use Rattle.std.specs.Prelude.{ℕ, ◌≡◌, ◌≤◌, ◌&&◌, ◌||◌, Bool, true, false, List, [], ⊤}
use Rattle.std.specs.List.{list_any}
use Rattle.qgm_core.specs.Boxes.{Ordered, has_box, ids_in, is_quant, overs_in, owns, width}
use Rattle.qgm_core.specs.Kinds.{is_F}
use Rattle.list_laws.specs.Lists.{In, times}
use Rattle.qgm_core.specs.declared.kinds.BoxKind.{BoxKind}
use Rattle.qgm_core.specs.declared.kinds.BoxKind.TheVariants.{Base, Select, Group, SetOp, OuterJoin}
use Rattle.qgm_core.specs.declared.node.Node.{Node}
use Rattle.qgm_core.specs.declared.owned.OwnedQuant.{OwnedQuant}
use Rattle.qgm_meaning.specs.Scope.{loose}
use Rattle.qgm_meaning.specs.Searches.{names, names_cond}
use Rattle.qgm_terms.specs.Wanted.{reads_at, reads_at_cond}

-- an F quantifier of these is q
abbrev pub binds_row : ℕ → List OwnedQuant → Bool
binds_row q rs = list_any (λ r. is_F r.kind && is_quant q r) rs

-- a box reads column k of q in its own cells and conditions
abbrev pub reads_in : ℕ → ℕ → Node → Bool
reads_in q k n = list_any (reads_at q k) n.parts.head || list_any (reads_at_cond q k) n.parts.conds.items

-- a scalar, some or every of q stands there
abbrev pub nodes_in : ℕ → Node → Bool
nodes_in q n = list_any (names q) n.parts.head || list_any (names_cond q) n.parts.conds.items

-- a base has no quantifier, and it and a set operation have no cell and no condition of their own
abbrev pub BareBy : BoxKind → Node → Type 0
BareBy (Base table) n = (n.quants ≡ []) × (n.parts.head ≡ []) × (n.parts.conds.items ≡ [])
BareBy Select n = ⊤
BareBy (Group keys) n = ⊤
BareBy (SetOp operator types) n = (n.parts.head ≡ []) × (n.parts.conds.items ≡ [])
BareBy OuterJoin n = ⊤

-- the arms of a set operation have its width
abbrev pub ArmsBy : BoxKind → ℕ → ℕ → Type 0
ArmsBy (Base table) u v = ⊤
ArmsBy Select u v = ⊤
ArmsBy (Group keys) u v = ⊤
ArmsBy (SetOp operator types) u v = u ≡ v
ArmsBy OuterJoin u v = ⊤

-- column k of q is one of the box that q ranges over
abbrev pub Fits : List Node → ℕ → ℕ → Type 0
Fits boxes q k = (n : Node) (r : OwnedQuant) (m : Node) → In n boxes → In r n.quants → r.id ≡ q → In m boxes → m.id ≡ r.over → (1 ≤ k) × (k ≤ width m)

-- boxes in order, the root among them and under none; each quantifier has a number of its own, and is looked up only where it is bound; a box that looks something up is used once; columns that are read are there; nodes are of own quantifiers that bind no row
pub record Sound (bs : List Node) (root : ℕ) : Type 0 where
  pub ordered : Ordered bs
  pub rooted : has_box bs root ≡ true
  pub once : (q : ℕ) → times q (ids_in bs) ≤ 1
  pub settled : (n : Node) → In n bs → (q : ℕ) → owns q n ≡ true → loose bs n.id q ≡ false
  pub used : (b q : ℕ) → loose bs b q ≡ true → times b (overs_in bs) ≡ 1
  pub top : times root (overs_in bs) ≡ 0
  pub fits : (n : Node) → In n bs → (q k : ℕ) → reads_in q k n ≡ true → Fits bs q k
  pub own_nodes : (n : Node) → In n bs → (q : ℕ) → nodes_in q n ≡ true → (owns q n ≡ true) × (binds_row q n.quants ≡ false)
  pub bare : (n : Node) → In n bs → BareBy n.parts.kind n
  pub arms : (n m : Node) (r : OwnedQuant) → In n bs → In r n.quants → In m bs → m.id ≡ r.over → ArmsBy n.parts.kind (width m) (width n)
