-- The order in which boxes are visited from the root, each at its first visit.
use Rattle.std.specs.Prelude.{ℕ, zero, suc, ◌==◌, ◌++◌, if◌then◌else◌, List, [], ◌∷◌, map, length}
use Rattle.std.specs.List.{flat_map}
use Rattle.qgm_core.specs.Boxes.{QueryGraph, is_box, overs_of, quants_in}
use Rattle.list_laws.specs.Lists.{each, first, holds}
use Rattle.qgm_core.specs.declared.node.Node.{Node}
use Rattle.shared_types.specs.declared.walk.Walk.{Walk}
use Rattle.shared_types.specs.declared.walk.Walk.TheVariants.{Depth, Breadth}

-- depth first: a box that wasn't seen, and then those under its quantifiers, in their order; a box ranges over boxes behind it
abbrev pub visit : List Node → ℕ → List ℕ → List ℕ
visit [] b seen = seen
visit (n ∷ ns) b seen = if n.id == b then (if holds b seen then seen else each (visit ns) (overs_of n) (seen ++ b ∷ [])) else visit ns b seen

-- those of these that weren't seen, each once
abbrev pub news : List ℕ → List ℕ → List ℕ
news seen [] = []
news seen (b ∷ bs) = if holds b seen then news seen bs else b ∷ news (seen ++ b ∷ []) bs

-- the boxes under the quantifiers of these, in their order
abbrev pub under : List Node → List ℕ → List ℕ
under boxes bs = flat_map (λ b. map (λ r. r.over) (quants_in (first (is_box b) boxes))) bs

-- level by level: those of a level, and then those under them that weren't seen
abbrev pub levels : ℕ → List Node → List ℕ → List ℕ → List ℕ
levels zero boxes now seen = seen
levels (suc m) boxes now seen = levels m boxes (news seen (under boxes now)) (seen ++ news seen (under boxes now))

abbrev pub walk : Walk → QueryGraph → List ℕ
walk Depth g = visit g.boxes g.root []
walk Breadth g = levels (length g.boxes) g.boxes (g.root ∷ []) (g.root ∷ [])
