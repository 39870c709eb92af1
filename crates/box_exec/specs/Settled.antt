-- Facts of the boxes of a graph from which each of them is fit.
use Rattle.std.specs.Prelude.{ℕ, ◌≡◌, ◌≤◌, ◌&&◌, ◌||◌, Bool, true, false, List, ◌⊎◌}
use Rattle.std.specs.List.{list_any}
use Rattle.qgm_core.specs.Boxes.{Ordered, QueryGraph, has_box, ids_in, is_quant, owns}
use Rattle.qgm_core.specs.Kinds.{is_F}
use Rattle.list_laws.specs.Lists.{In, times}
use Rattle.qgm_core.specs.declared.node.Node.{Node}
use Rattle.qgm_meaning.specs.Scope.{loose, read_by, under_any}
use Rattle.qgm_meaning.specs.Searches.{names, names_cond}
use Rattle.box_exec.specs.Closed.{NamesBound}
use Rattle.box_exec.specs.Ready.{AllFit}

-- a scalar, some or every of q stands in a box, and an F quantifier of it is q
abbrev pub node_stands : ℕ → Node → Bool
node_stands q n = list_any (names q) n.parts.head || list_any (names_cond q) n.parts.conds.items

abbrev pub is_own_row : ℕ → Node → Bool
is_own_row q n = list_any (λ r. is_F r.kind && is_quant q r) n.quants

-- boxes in order; each quantifier has a number of its own; nodes are of quantifiers that bind no row; a box looks up none of its own in its environment
pub record Settled (bs : List Node) : Type 0 where
  pub ordered : Ordered bs
  pub once : (q : ℕ) → times q (ids_in bs) ≤ 1
  pub own_nodes : (n : Node) → In n bs → (q : ℕ) → node_stands q n ≡ true → is_own_row q n ≡ false
  pub settled : (n : Node) → In n bs → (q : ℕ) → owns q n ≡ true → loose bs n.id q ≡ false

-- such boxes are fit
abbrev pub FitIfSettled : Type 0
FitIfSettled = (bs : List Node) → Settled bs → AllFit bs

-- each node of a box is of a quantifier of its own
abbrev pub OwnNodes : List Node → Type 0
OwnNodes bs = (n : Node) → In n bs → (q : ℕ) → node_stands q n ≡ true → owns q n ≡ true

-- what a box reads, or a box under a quantifier of it looks up, it owns or looks up
abbrev pub Touched : List Node → Type 0
Touched bs = (n : Node) (q : ℕ) → In n bs → (read_by n q || under_any n.quants (loose bs) q) ≡ true → (owns q n ≡ true) ⊎ (loose bs n.id q ≡ true)

-- in such boxes, whose root looks nothing up, no quantifier is named beyond the root
abbrev pub BoundIfTouched : Type 0
BoundIfTouched = (g : QueryGraph) → Settled g.boxes → has_box g.boxes g.root ≡ true → OwnNodes g.boxes → Touched g.boxes → ((q : ℕ) → loose g.boxes g.root q ≡ true → ⊥) → NamesBound g
