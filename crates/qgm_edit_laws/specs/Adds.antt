-- A box added, and one put between a quantifier and the box that it ranges over.
use Rattle.std.specs.Prelude.{ℕ, ◌≡◌, ◌==◌, ◌≤◌, ◌++◌, ◌⊎◌, if◌then◌else◌, Bool, true, false, List, ◌∷◌, map}
use Rattle.std.specs.List.{list_any}
use Rattle.qgm_core.specs.Boxes.{has_box, overs_of, owns, width, ids_of}
use Rattle.qgm_core.specs.Edits.{on_quant}
use Rattle.list_laws.specs.Lists.{In, times}
use Rattle.qgm_core.specs.declared.node.Node.{Node}
use Rattle.qgm_core.specs.declared.owned.OwnedQuant.{OwnedQuant}
use Rattle.qgm_meaning.specs.Scope.{loose}
use Rattle.qgm_edit_laws.specs.Graph.{ArmsBy, BareBy, binds_row, nodes_in, reads_in}
use Rattle.qgm_edit_laws.specs.Scoped.{Scoped}

-- s may stand between xs and ys: its number and its quantifiers are new, they range over boxes of ys that aren't the root, and it has its shape
pub record Adds (xs ys : List Node) (root : ℕ) (s : Node) : Type 0 where
  pub fresh : has_box (xs ++ ys) s.id ≡ false
  pub over : (r : OwnedQuant) → In r s.quants → has_box ys r.over ≡ true
  pub not_root : (r : OwnedQuant) → In r s.quants → (r.over == root) ≡ false
  pub new : (q : ℕ) → owns q s ≡ true → list_any (owns q) (xs ++ ys) ≡ false
  pub once : (q : ℕ) → times q (ids_of s) ≤ 1
  pub fits : (q k : ℕ) → reads_in q k s ≡ true → (n m : Node) (r : OwnedQuant) → In n (xs ++ s ∷ ys) → In r n.quants → r.id ≡ q → In m (xs ++ ys) → m.id ≡ r.over → (1 ≤ k) × (k ≤ width m)
  pub own_nodes : (q : ℕ) → nodes_in q s ≡ true → (owns q s ≡ true) × (binds_row q s.quants ≡ false)
  pub bare : BareBy s.parts.kind s
  pub arms : (m : Node) (r : OwnedQuant) → In r s.quants → In m (xs ++ ys) → m.id ≡ r.over → ArmsBy s.parts.kind (width m) (width s)

-- box b changed
abbrev pub at : ℕ → (Node → Node) → Node → Node
at b f y = if y.id == b then f y else y

-- quantifier q of box o ranges over s
abbrev pub onto : ℕ → ℕ → ℕ → Node → Node
onto o q s = at o (on_quant q (λ r. record r { over = s }))

-- s put among the boxes, and quantifier q of box o moved onto it
abbrev pub interposed : List Node → List Node → Node → ℕ → ℕ → List Node
interposed xs ys s o q = map (onto o q s.id) (xs ++ s ∷ ys)

-- s looks up what c does
abbrev pub as_box : List Node → ℕ → ℕ → ℕ → ℕ → Bool
as_box bs s c b q = if b == s then loose bs c q else loose bs b q

-- a quantifier r of o, a box above s, over c, moves onto s, which ranges once over c and otherwise over boxes that look nothing up; s has c's width where a column of r is read or o is a set operation
pub record Interposes (xs ys : List Node) (root : ℕ) (s o c : Node) (r : OwnedQuant) : Type 0 where
  pub adds : Adds xs ys root s
  pub in_o : In o xs
  pub in_c : In c ys
  pub owned : In r o.quants
  pub over_c : r.over ≡ c.id
  pub once_c : times c.id (overs_of s) ≡ 1
  pub others : (p : OwnedQuant) → In p s.quants → (p.over ≡ c.id) ⊎ ((q : ℕ) → loose (xs ++ ys) p.over q ≡ false)
  pub scoped : Scoped (as_box (xs ++ ys) s.id c.id) s
  pub fits : (n : Node) → In n (xs ++ s ∷ ys) → (k : ℕ) → reads_in r.id k n ≡ true → (1 ≤ k) × (k ≤ width s)
  pub arms : ArmsBy o.parts.kind (width s) (width o)
