-- How many boxes are closed, and the graphs in which these tell how many evaluations an execution takes.
use Rattle.std.specs.Prelude.{ℕ, ◌≡◌, ◌≤◌, ◌+◌, ◌↔◌, if◌then◌else◌, true, List, [], ◌∷◌}
use Rattle.qgm_core.specs.Boxes.{Ordered, QueryGraph, has_box, ids_in}
use Rattle.qgm_core.specs.Free.{Reaches, free_in, reached}
use Rattle.list_laws.specs.Lists.{In, holds, times}
use Rattle.qgm_core.specs.declared.node.Node.{Node}
use Rattle.row_bag.specs.declared.tables.Table.{Table}
use Rattle.qgm_meaning.specs.Plain.{if_closed, plain}
use Rattle.box_exec.specs.Beyond.{beyond}

-- boxes in order, the root among them; each quantifier has a number of its own, and none is named beyond the root
pub record NamesBound (g : QueryGraph) : Type 0 where
  pub ordered : Ordered g.boxes
  pub rooted : has_box g.boxes g.root ≡ true
  pub once : (q : ℕ) → times q (ids_in g.boxes) ≤ 1
  pub top : beyond g.boxes g.root ≡ []

-- each box that the root reaches is closed
abbrev pub AllClosed : QueryGraph → Type 0
AllClosed g = (n : Node) → In n g.boxes → Reaches g.boxes g.root n.id → free_in g.boxes n.id ≡ []

-- how many of these boxes are marked
abbrev pub marked_number : List ℕ → List Node → ℕ
marked_number marks [] = 0
marked_number marks (n ∷ ns) = (if holds n.id marks then 1 else 0) + marked_number marks ns

-- how many of these are marked and closed
abbrev pub closed_marked : List Node → List ℕ → List Node → ℕ
closed_marked boxes marks [] = 0
closed_marked boxes marks (n ∷ ns) = (if holds n.id marks then if_closed (free_in boxes n.id) 1 else 0) + closed_marked boxes marks ns

-- how many boxes the root reaches
abbrev pub reached_number : QueryGraph → ℕ
reached_number g = marked_number (reached (g.root ∷ []) g.boxes) g.boxes

-- how many of them are closed
abbrev pub closed_number : QueryGraph → ℕ
closed_number g = closed_marked g.boxes (reached (g.root ∷ []) g.boxes) g.boxes

-- ---- laws

-- a box that the root reaches names no quantifier beyond itself exactly where none is free in it
abbrev pub ClosedAlike : Type 0
ClosedAlike = (g : QueryGraph) → NamesBound g → (b : ℕ) → Reaches g.boxes g.root b → (beyond g.boxes b ≡ []) ↔ (free_in g.boxes b ≡ [])

-- where all boxes that the root reaches are closed, loops that skip nothing evaluate each of them once
abbrev pub PlainOfClosed : Type 0
PlainOfClosed = (tables : List Table) (g : QueryGraph) → NamesBound g → AllClosed g → plain tables g ≡ reached_number g
