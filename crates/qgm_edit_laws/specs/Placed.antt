-- I1 to I3 of a graph, and what edits keep of them.
use Rattle.std.specs.Prelude.{ℕ, suc, ◌≡◌, ◌==◌, ◌≤◌, ◌<◌, if◌then◌else◌, true, List, [], ◌∷◌}
use Rattle.std.specs.List.{list_any}
use Rattle.qgm_core.specs.Boxes.{Ordered, has_box, ids_in, owns}
use Rattle.qgm_core.specs.Free.{named_by}
use Rattle.list_laws.specs.Lists.{In, holds, times}
use Rattle.qgm_core.specs.declared.node.Node.{Node}

-- how many boxes stand above the first box of this number
abbrev pub place : List Node → ℕ → ℕ
place [] b = 0
place (n ∷ ns) b = if n.id == b then 0 else suc (place ns b)

-- box c stands below box b
abbrev pub Below : List Node → ℕ → ℕ → Type 0
Below bs b c = (has_box bs c ≡ true) × (place bs b < place bs c)

-- the root is a box; each quantifier has one owner and ranges over a box below it; each quantifier that a box names has an owner
pub record Placed (bs : List Node) (root : ℕ) : Type 0 where
  pub rooted : has_box bs root ≡ true
  pub ordered : Ordered bs
  pub once : (q : ℕ) → times q (ids_in bs) ≤ 1
  pub known : (n : Node) → In n bs → (q : ℕ) → holds q (named_by n) ≡ true → list_any (owns q) bs ≡ true
