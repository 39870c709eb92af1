-- G2, a select under a fed box takes the magic box as its first quantifier: its condition, its places, its action, and what it keeps.
use Rattle.std.specs.Prelude.{ℕ, ◌≡◌, ◌==◌, ◌&&◌, ◌⊎◌, Bool, true, false, List, ◌∷◌, ◌++◌, Some}
use Rattle.std.specs.List.{list_any}
use Rattle.row_bag.specs.Bags.{Agree}
use Rattle.row_bag.specs.Sets.{same_cells}
use Rattle.row_bag.specs.declared.tables.Table.{Table}
use Rattle.qgm_core.specs.Boxes.{Ordered, QueryGraph, box_of, has_box, width, numbers}
use Rattle.list_laws.specs.Lists.{In, EachOnce}
use Rattle.qgm_core.specs.declared.kinds.BoxKind.TheVariants.{Select}
use Rattle.qgm_core.specs.declared.kinds.Role.TheVariants.{Plain}
use Rattle.qgm_core.specs.declared.node.Node.{Node}
use Rattle.qgm_core.specs.declared.owned.OwnedQuant.{OwnedQuant}
use Rattle.qgm_core.specs.Edits.{compact, on_boxes}
use Rattle.qgm_wellformed.specs.Sentences.{WellFormed}
use Rattle.qgm_meaning.specs.Meaning.{bag}
use Rattle.qgm_meaning.specs.Values.{Environment}
use Rattle.qgm_props.specs.Inferred.{Facts}
use Rattle.qgm_props.specs.Laws.{Tells}
use Rattle.qgm_props.specs.Measure.{Lowers}
use Rattle.qgm_edit_laws.specs.Graph.{nodes_in}
use Rattle.rule_api.specs.Rules.{Pair, Preserves}
use Rattle.rule_api.specs.declared.place.Place.{Place}
use Rattle.rule_facts.specs.Places.{is_plain_select}
use Rattle.rule_magic.specs.Boxes.{absorbed_box}
use Rattle.rule_magic.specs.Feeding.{Feeding, feeding_pairs, inferred_facts, is_ready}
use Rattle.rule_magic.specs.Places.{MayAbsorb}
use Rattle.rule_magic.specs.FedBox.{IsFedAt, IsOld}

-- ---- the condition

-- d is a fed box that may be absorbed, over an open box that is a select
pub record MayAbsorbSelectAt (p : Place) (g : QueryGraph) (d : Node) : Type 0 where
  pub no_first : p.i ≡ 0
  pub no_second : p.j ≡ 0
  pub at : box_of p.at g ≡ Some d
  pub ready : MayAbsorb g.boxes (inferred_facts g.boxes) d
  pub a_select : ready.c.parts.kind ≡ Select

unfoldable pub MayAbsorbSelect : Place → QueryGraph → Type 0
MayAbsorbSelect p g = (d : Node) × MayAbsorbSelectAt p g d

-- ---- the places

abbrev pub may_absorb_select : QueryGraph → Feeding → Bool
may_absorb_select g f = is_plain_select f.c && is_ready g.boxes f

-- the places of G2 at b
unfoldable pub absorb_select_pairs : QueryGraph → ℕ → List Pair
absorb_select_pairs g b = feeding_pairs may_absorb_select g b

-- ---- the action

-- in the place of d stands c's select over the magic box, and c is gone
abbrev pub absorbed_select : (g : QueryGraph) (known : Facts) (d : Node) (may : MayAbsorb g.boxes known d) (up l1 l2 : List Node) → QueryGraph
absorbed_select g known d may up l1 l2 = on_boxes (λ boxes. up ++ absorbed_box d.id may.a (width may.m) may.c ∷ (l1 ++ l2)) g

-- so it is in h, without the boxes that the root doesn't reach
pub record AbsorbsSelectAt (p : Place) (g h : QueryGraph) (d : Node) : Type 0 where
  pub may : MayAbsorbSelectAt p g d
  pub up : List Node
  pub l1 : List Node
  pub l2 : List Node
  pub before : g.boxes ≡ up ++ d ∷ (l1 ++ may.ready.c ∷ l2)
  pub after : h ≡ compact (absorbed_select g (inferred_facts g.boxes) d may.ready up l1 l2)

unfoldable pub AbsorbsSelect : Place → QueryGraph → QueryGraph → Type 0
AbsorbsSelect p g h = (d : Node) × AbsorbsSelectAt p g h d

-- ---- what it keeps

-- in the place of d stands c, whose first quantifier is now a: so every bag is as before
abbrev pub SelectBags : Type 0
SelectBags =
    (tables : List Table) (g h : QueryGraph) (d m c : Node) (a r : OwnedQuant) → IsFedAt tables g d m c a r → Ordered h.boxes → c.parts.kind ≡ Select
    → list_any (λ s. s.id == a.id) c.quants ≡ false → nodes_in a.id c ≡ false
    → ((n : Node) → In n h.boxes → IsOld g d c n ⊎ (n ≡ absorbed_box d.id a (width m) c))
    → (b : ℕ) → has_box h.boxes b ≡ true → (e : Environment) → Agree same_cells (bag tables h b e) (bag tables g b e)

-- the fed box d and the plain select under it stand in the graph
pub record SelectAt (g : QueryGraph) (known : Facts) (d : Node) (may : MayAbsorb g.boxes known d) (up l1 l2 : List Node) : Type 0 where
  pub once : EachOnce (numbers g.boxes)
  pub formed : WellFormed g
  pub tells : Tells known g.boxes
  pub a_select : may.c.parts.kind ≡ Select
  pub plain : may.c.parts.role ≡ Plain
  pub before : g.boxes ≡ up ++ d ∷ (l1 ++ may.c ∷ l2)

abbrev pub SelectPreserves : Type 0
SelectPreserves = (g : QueryGraph) (known : Facts) (d : Node) (may : MayAbsorb g.boxes known d) (up l1 l2 : List Node) → SelectAt g known d may up l1 l2 → Preserves g (compact (absorbed_select g known d may up l1 l2))

abbrev pub SelectLowers : Type 0
SelectLowers = (g : QueryGraph) (known : Facts) (d : Node) (may : MayAbsorb g.boxes known d) (up l1 l2 : List Node) → SelectAt g known d may up l1 l2 → Lowers g.boxes (absorbed_select g known d may up l1 l2).boxes
