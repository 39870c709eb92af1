-- Quantifiers that are left to be bound, with the other sides of their keys.
use Rattle.std.specs.Prelude.{ℕ, ◌≡◌, List, map}
use Rattle.std.specs.List.{flat_map}
use Rattle.qgm_core.specs.declared.node.Node.{Node}
use Rattle.qgm_core.specs.declared.owned.OwnedQuant.{OwnedQuant}
use Rattle.qgm_terms.specs.Shown.{term}
use Rattle.qgm_terms.specs.Terms.{Term}
use Rattle.box_exec.specs.Taken.{matched}
use Rattle.box_exec.specs.declared.order.Seeker.{Seeker}

-- of the keys of q among the conditions of a box
abbrev pub other_sides : Node → ℕ → List Term
other_sides n q = map (λ m. m.other) (flat_map (matched q) n.parts.conds.items)

abbrev pub left_ranges : List Seeker → List OwnedQuant
left_ranges left = map (λ s. s.range) left

-- it has the other sides of the keys of its quantifier
abbrev pub IsSeeker : Node → Seeker → Type 0
IsSeeker n s = map (λ x. term x.now) s.others.items ≡ other_sides n s.range.id
