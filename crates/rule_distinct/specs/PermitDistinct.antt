-- L2, DISTINCT may go under EXISTS: its condition, its places and its action.
use Rattle.std.specs.Prelude.{ℕ, ◌≡◌, false, List, Some, ◌==◌, ◌&&◌, not, Bool}
use Rattle.std.specs.List.{list_any}
use Rattle.qgm_core.specs.Boxes.{QueryGraph, box_of}
use Rattle.qgm_core.specs.Edits.{compact, set_distinct}
use Rattle.qgm_core.specs.Kinds.{is_F_or_S, is_permit}
use Rattle.list_laws.specs.Lists.{In}
use Rattle.qgm_core.specs.declared.kinds.Distinct.TheVariants.{Permit}
use Rattle.qgm_core.specs.declared.node.Node.{Node}
use Rattle.qgm_core.specs.declared.owned.OwnedQuant.{OwnedQuant}
use Rattle.qgm_props.specs.Inferred.{Inferred, clean}
use Rattle.rule_api.specs.declared.place.Place.{Place}
use Rattle.rule_api.specs.Rules.{Pair}
use Rattle.rule_facts.specs.Told.{infers}
use Rattle.rule_facts.specs.Places.{box_pairs, is_plain_select}
use Rattle.rule_distinct.specs.PlainAt.{PlainAt}

-- ---- the condition

-- b, a plain select, isn't PERMIT, nor the root, E and A quantifiers alone range over it, and it is inferred clean
pub record MayPermitDistinctAt (p : Place) (g : QueryGraph) (b : Node) : Type 0 where
  pub box : PlainAt p g b
  pub not_permit : is_permit b.parts.distinct ≡ false
  pub not_root : b.id ≡ g.root → ⊥
  pub unseen : (y : Node) (r : OwnedQuant) → In y g.boxes → In r y.quants → r.over ≡ b.id → is_F_or_S r.kind ≡ false
  pub clean : Inferred g.boxes (clean b.id)

unfoldable pub MayPermitDistinct : Place → QueryGraph → Type 0
MayPermitDistinct p g = (b : Node) × MayPermitDistinctAt p g b

-- ---- the places

-- an F or S quantifier ranges over b
abbrev pub counted : ℕ → Node → Bool
counted b y = list_any (λ (r : OwnedQuant). (r.over == b) && is_F_or_S r.kind) y.quants

-- a plain select that isn't PERMIT, nor the root, and over which no F or S quantifier ranges
abbrev pub is_read_as_set : QueryGraph → Node → Bool
is_read_as_set g n = ((is_plain_select n && not (is_permit n.parts.distinct)) && not (n.id == g.root)) && not (list_any (counted n.id) g.boxes)

abbrev pub may_permit_distinct : QueryGraph → Node → Bool
may_permit_distinct g n = is_read_as_set g n && infers g.boxes (clean n.id)

-- the places of L2 at b
unfoldable pub permit_distinct_pairs : QueryGraph → ℕ → List Pair
permit_distinct_pairs g b = box_pairs (may_permit_distinct g) g b

-- ---- the action

-- the box of the place is PERMIT; boxes that the root doesn't reach are gone; all else is as in g
abbrev pub made_permit : QueryGraph → Node → QueryGraph
made_permit g b = compact (set_distinct b.id Permit g)

unfoldable pub PermitsDistinct : Place → QueryGraph → QueryGraph → Type 0
PermitsDistinct p g h = (b : Node) × ((box_of p.at g ≡ Some b) × (h ≡ made_permit g b))
