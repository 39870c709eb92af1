-- What each clause says of a box, and what a fault is: without the passes by which they are tested.
use Rattle.std.specs.Prelude.{ℕ, ◌≡◌, ◌≤◌, ◌<◌, ◌++◌, true, false, List, ◌∷◌, ◌⊎◌}
use Rattle.qgm_core.specs.Boxes.{HasBox, HasQuant, QueryGraph, has_box, ids_in, overs_in}
use Rattle.qgm_core.specs.Free.{IsFree, named_by}
use Rattle.qgm_core.specs.Kinds.{is_F_or_S, is_permit}
use Rattle.list_laws.specs.Lists.{In, holds, times}
use Rattle.qgm_core.specs.declared.node.Node.{Node}
use Rattle.qgm_core.specs.declared.owned.OwnedQuant.{OwnedQuant}
use Rattle.qgm_wellformed.specs.Columns.{columns_fit}
use Rattle.qgm_wellformed.specs.Shapes.{shape_fits}
use Rattle.qgm_wellformed.specs.Types.{types_agree}
use Rattle.qgm_wellformed.specs.View.{InView}
use Rattle.qgm_wellformed.specs.declared.clause.Clause.{Clause}
use Rattle.qgm_wellformed.specs.declared.clause.Clause.TheVariants.{I1, I2, I3, I4, I5, I6, I7, I8, I9}
use Rattle.qgm_wellformed.specs.declared.clause.Fault.{Fault}

-- I1: the graph has each box that a quantifier of it ranges over, and each quantifier that it names
abbrev pub IdsKnown : QueryGraph → Node → Type 0
IdsKnown g n = ((r : OwnedQuant) → In r n.quants → HasBox r.over g) × ((q : ℕ) → holds q (named_by n) ≡ true → HasQuant q g)

-- I2: each quantifier of it is owned once
abbrev pub OwnedOnce : QueryGraph → Node → Type 0
OwnedOnce g n = (r : OwnedQuant) → In r n.quants → times r.id (ids_in g.boxes) ≡ 1

-- I3: each quantifier of it ranges over a box of lower rank, which is one behind it
abbrev pub RangesBelow : QueryGraph → Node → Type 0
RangesBelow g n = (up low : List Node) → g.boxes ≡ up ++ n ∷ low → (r : OwnedQuant) → In r n.quants → has_box low r.over ≡ true

-- I6: each name is in view, and nothing is free in the root
abbrev pub NamesInView : QueryGraph → Node → Type 0
NamesInView g n = ((q : ℕ) → holds q (named_by n) ≡ true → InView g.boxes n q) × (n.id ≡ g.root → (q : ℕ) → IsFree g.boxes g.root q → ⊥)

-- I7: no quantifier ranges over the root, and one over another box in which something is free
abbrev pub OpenedOnce : QueryGraph → Node → Type 0
OpenedOnce g n =
    (n.id ≡ g.root → times g.root (overs_in g.boxes) ≡ 0)
    × ((n.id ≡ g.root → ⊥) → (q : ℕ) → IsFree g.boxes n.id q → times n.id (overs_in g.boxes) ≡ 1)

-- I8: if it is PERMIT, it isn't the root, and no F or S quantifier ranges over it
abbrev pub PermitUnseen : QueryGraph → Node → Type 0
PermitUnseen g n =
    is_permit n.parts.distinct ≡ true
    → (n.id ≡ g.root → ⊥) × ((m : Node) (r : OwnedQuant) → In m g.boxes → In r m.quants → r.over ≡ n.id → is_F_or_S r.kind ≡ false)

-- a box keeps a clause
abbrev pub IsKept : Clause → QueryGraph → Node → Type 0
IsKept I1 g n = IdsKnown g n
IsKept I2 g n = OwnedOnce g n
IsKept I3 g n = RangesBelow g n
IsKept I4 g n = columns_fit g.boxes n ≡ true
IsKept I5 g n = types_agree g.boxes n ≡ true
IsKept I6 g n = NamesInView g n
IsKept I7 g n = OpenedOnce g n
IsKept I8 g n = PermitUnseen g n
IsKept I9 g n = shape_fits g.root g.boxes n ≡ true

-- the graph has its root, and each box keeps each clause
pub record WellFormed (g : QueryGraph) : Type 0 where
  pub rooted : HasBox g.root g
  pub kept : (c : Clause) (n : Node) → In n g.boxes → IsKept c g n

-- a clause fails at a box that doesn't keep it; I1 also at the greatest number, if the graph lacks its root
abbrev pub FailsAt : Clause → QueryGraph → ℕ → Type 0
FailsAt c g b =
    ((n : Node) × (In n g.boxes × ((n.id ≡ b) × (IsKept c g n → ⊥))))
    ⊎ ((c ≡ I1) × ((b ≡ 18446744073709551615) × (HasBox g.root g → ⊥)))

-- the number of a clause
abbrev pub number : Clause → ℕ
number I1 = 1
number I2 = 2
number I3 = 3
number I4 = 4
number I5 = 5
number I6 = 6
number I7 = 7
number I8 = 8
number I9 = 9

-- the least clause that fails, with the least box at which it does
pub record IsFault (g : QueryGraph) (f : Fault) : Type 0 where
  pub fails : FailsAt f.clause g f.at
  pub least : (b : ℕ) → FailsAt f.clause g b → f.at ≤ b
  pub first : (c : Clause) → number c < number f.clause → (b : ℕ) → FailsAt c g b → ⊥
