-- The steps of M1's action.
use Rattle.std.specs.Prelude.{ℕ, ◌≡◌, ◌==◌, ◌≤◌, ◌-◌, ◌++◌, ◌||◌, ◌&&◌, not, if◌then◌else◌, Bool, false, List, [], ◌∷◌, Some, filter, length, map, slice_get}
use Rattle.std.specs.List.{list_any}
use Rattle.qgm_core.specs.Boxes.{HasBox, QueryGraph, box_of, is_box, overs_in, quants_of}
use Rattle.qgm_core.specs.Edits.{absorb, keep, on_boxes, with_terms}
use Rattle.qgm_core.specs.Free.{reached}
use Rattle.list_laws.specs.Lists.{In, change, times}
use Rattle.qgm_core.specs.declared.kinds.BoxKind.TheVariants.{Select}
use Rattle.qgm_core.specs.declared.node.Node.{Node}
use Rattle.qgm_core.specs.declared.owned.OwnedQuant.{OwnedQuant}
use Rattle.qgm_core.specs.declared.parts.BoxParts.{BoxParts}
use Rattle.qgm_terms.specs.Substitution.{substituted, substituted_cond}
use Rattle.qgm_terms.specs.Terms.{Cond}
use Rattle.qgm_terms.specs.Wanted.{reads, reads_cond}
use Rattle.rule_merge.specs.declared.merge_select.action.MergePlan.{MergePlan}
use Rattle.rule_merge.specs.declared.merge_select.action.NewTerms.{NewTerms}

-- a box of these parts reads a column of q
abbrev pub reads_any : ℕ → BoxParts → Bool
reads_any q parts = list_any (reads q) parts.head || list_any (reads_cond q) parts.conds.items

-- the conditions of box n with c's cells for the columns of q; behind those of b stand c's
abbrev pub conds_for : ℕ → ℕ → Node → Node → List Cond
conds_for b q c n = if n.id == b then map (substituted_cond q c.parts.head) n.parts.conds.items ++ c.parts.conds.items else map (substituted_cond q c.parts.head) n.parts.conds.items

-- what box n becomes
abbrev pub terms_for : ℕ → ℕ → Node → Node → NewTerms
terms_for b q c n = record { at = n.id; conds = record n.parts.conds { items = conds_for b q c n }; head = map (substituted q c.parts.head) n.parts.head }

-- b becomes another box, and so does each but c that reads a column of q
abbrev pub is_changed : ℕ → ℕ → ℕ → Node → Bool
is_changed b q c n = not (n.id == c) && ((n.id == b) || reads_any q n.parts)

-- what these become, that do
abbrev pub new_terms : ℕ → ℕ → Node → List Node → List NewTerms
new_terms b q c ns = map (terms_for b q c) (filter (is_changed b q c.id) ns)

-- a box has other terms
abbrev pub put_one : NewTerms → List Node → List Node
put_one t boxes = change (is_box t.at) (with_terms t.conds t.head) boxes

-- each of these has, the last one first
abbrev pub put_all : List NewTerms → List Node → List Node
put_all [] boxes = boxes
put_all (t ∷ ts) boxes = put_one t (put_all ts boxes)

-- the steps: c's quantifiers go to b, the boxes have their terms, and those stay that the root reached before
abbrev pub merge_steps : MergePlan → QueryGraph → QueryGraph
merge_steps m g = keep (reached (g.root ∷ []) g.boxes) (on_boxes (put_all m.terms.items) (absorb m.b (m.place - 1) m.c g))

-- they can be done
pub record MayStep (g : QueryGraph) (m : MergePlan) : Type 0 where
  pub owner : HasBox m.b g
  pub other : HasBox m.c g
  pub apart : (m.b == m.c) ≡ false
  pub from_one : 1 ≤ m.place
  pub within : m.place ≤ length (quants_of m.b g)
  pub held : (t : NewTerms) → In t m.terms.items → HasBox t.at (absorb m.b (m.place - 1) m.c g)

-- they are those of r, the quantifier of b at this place, from 1, over c
pub record Plans (g : QueryGraph) (b : Node) (place : ℕ) (r : OwnedQuant) (c : Node) (m : MergePlan) : Type 0 where
  pub upper : m.b ≡ b.id
  pub at : m.place ≡ place
  pub lower : m.c ≡ c.id
  pub changed : m.terms.items ≡ new_terms b.id r.id c g.boxes

-- b is a select of the graph, and r its quantifier at this place, from 1, over c, over which no other ranges
pub record Stands (g : QueryGraph) (b : Node) (place : ℕ) (r : OwnedQuant) (c : Node) : Type 0 where
  pub at : box_of b.id g ≡ Some b
  pub select_b : b.parts.kind ≡ Select
  pub from_one : 1 ≤ place
  pub nth : slice_get b.quants (place - 1) ≡ Some r
  pub under : box_of r.over g ≡ Some c
  pub one_use : times c.id (overs_in g.boxes) ≡ 1
