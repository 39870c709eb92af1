-- G3, a group under a fed box is grouped by the columns of the magic box as well, with keys before and without: its condition, its places, its action, and what it keeps.
use Rattle.std.specs.Prelude.{ℕ, suc, ◌≡◌, ◌==◌, ◌&&◌, ◌+◌, ◌⊎◌, Bool, true, false, List, [], ◌∷◌, drop, length, None, Some, ◌++◌}
use Rattle.std.specs.List.{list_all}
use Rattle.sql_value.specs.declared.cell.Cell.{Cell}
use Rattle.row_bag.specs.AsSets.{stands}
use Rattle.row_bag.specs.Bags.{Agree}
use Rattle.row_bag.specs.Errors.{error_among, error_in}
use Rattle.row_bag.specs.Sets.{same_cells}
use Rattle.row_bag.specs.declared.tables.Table.{Table}
use Rattle.qgm_core.specs.Boxes.{Ordered, QueryGraph, box_of, has_box, width, numbers, ids_in}
use Rattle.qgm_core.specs.Kinds.{is_F}
use Rattle.list_laws.specs.Lists.{In, EachOnce, times}
use Rattle.qgm_core.specs.declared.kinds.BoxKind.{BoxKind}
use Rattle.qgm_core.specs.declared.kinds.BoxKind.TheVariants.{Base, Select, Group, SetOp, OuterJoin}
use Rattle.qgm_core.specs.declared.kinds.Role.TheVariants.{Fed}
use Rattle.qgm_core.specs.declared.node.Node.{Node}
use Rattle.qgm_core.specs.declared.owned.OwnedQuant.{OwnedQuant}
use Rattle.qgm_core.specs.Edits.{compact, on_boxes}
use Rattle.qgm_wellformed.specs.Shapes.{is_aggregate}
use Rattle.qgm_wellformed.specs.Sentences.{WellFormed}
use Rattle.qgm_meaning.specs.Meaning.{bag, key_cells}
use Rattle.qgm_meaning.specs.Values.{Environment, bound}
use Rattle.qgm_props.specs.Inferred.{Facts, clean}
use Rattle.qgm_props.specs.Laws.{Tells}
use Rattle.qgm_props.specs.Measure.{Lowers}
use Rattle.rule_api.specs.Rules.{Pair, Preserves}
use Rattle.rule_api.specs.declared.place.Place.{Place}
use Rattle.rule_facts.specs.Told.{infers}
use Rattle.rule_magic.specs.Boxes.{counted_box, joined_box, keyed_box, pair_box}
use Rattle.rule_magic.specs.Feeding.{Feeding, are_few, feeding_pairs, inferred_facts, is_ready}
use Rattle.rule_magic.specs.Own.{AllOwn}
use Rattle.rule_magic.specs.Places.{MayAbsorb}
use Rattle.rule_magic.specs.FedBox.{IsFedAt, IsOld}

-- ---- the condition

-- d is a fed box that may be absorbed, over an open box that is a group
pub record MayAbsorbGroupAt (p : Place) (g : QueryGraph) (d : Node) : Type 0 where
  pub no_first : p.i ≡ 0
  pub no_second : p.j ≡ 0
  pub at : box_of p.at g ≡ Some d
  pub ready : MayAbsorb g.boxes (inferred_facts g.boxes) d
  pub keys : ℕ
  pub a_group : ready.c.parts.kind ≡ Group keys

unfoldable pub MayAbsorbGroup : Place → QueryGraph → Type 0
MayAbsorbGroup p g = (d : Node) × MayAbsorbGroupAt p g d

-- ---- the places

abbrev pub is_group : BoxKind → Bool
is_group (Base table) = false
is_group Select = false
is_group (Group keys) = true
is_group (SetOp form types) = false
is_group OuterJoin = false

-- a group is inferred clean exactly where its input is and its keys are error-free
abbrev pub may_absorb_group : QueryGraph → Feeding → Bool
may_absorb_group g f = (is_group f.c.parts.kind && are_few g.boxes) && (infers g.boxes (clean f.c.id) && is_ready g.boxes f)

-- the places of G3 at b
unfoldable pub absorb_group_pairs : QueryGraph → ℕ → List Pair
absorb_group_pairs g b = feeding_pairs may_absorb_group g b

-- ---- the action

-- in the place of d stands the group by tags and keys, over the fed box, which has c's number
abbrev pub absorbed_group : (g : QueryGraph) (known : Facts) (d : Node) (may : MayAbsorb g.boxes known d) (k : ℕ) (q : OwnedQuant) (x : Node) (up l1 l2 : List Node) → QueryGraph
absorbed_group g known d may k q x up l1 l2 =
    on_boxes (λ boxes. up ++ keyed_box d.id (width may.m + suc k) q.id may.r.id (width may.m) (width x) may.c.parts.head may.c.id ∷ (pair_box may.c.id Fed may.a.id may.m.id (width may.m) q.id x.id (width x) ∷ (l1 ++ l2))) g

-- c is a group with keys, by q over x: so it is in h, without the boxes that the root doesn't reach
pub record AbsorbsKeyedAt (p : Place) (g h : QueryGraph) (d : Node) : Type 0 where
  pub may : MayAbsorbGroupAt p g d
  pub k : ℕ
  pub keyed : may.keys ≡ suc k
  pub q : OwnedQuant
  pub x : Node
  pub alone : may.ready.c.quants ≡ q ∷ []
  pub in_x : In x g.boxes
  pub over_x : q.over ≡ x.id
  pub up : List Node
  pub l1 : List Node
  pub l2 : List Node
  pub before : g.boxes ≡ up ++ d ∷ (l1 ++ may.ready.c ∷ l2)
  pub after : h ≡ compact (absorbed_group g (inferred_facts g.boxes) d may.ready k q x up l1 l2)

-- numbers of boxes and of quantifiers that the graph doesn't have
pub record AreFresh (g : QueryGraph) (o n om oc p : ℕ) : Type 0 where
  pub o_new : has_box g.boxes o ≡ false
  pub n_new : has_box g.boxes n ≡ false
  pub two : (o == n) ≡ false
  pub om_new : times om (ids_in g.boxes) ≡ 0
  pub oc_new : times oc (ids_in g.boxes) ≡ 0
  pub p_new : times p (ids_in g.boxes) ≡ 0
  pub om_oc : (om == oc) ≡ false
  pub om_p : (om == p) ≡ false
  pub oc_p : (oc == p) ≡ false

-- in the place of d stands the select of counts over the outer join of the magic box and the groups by tags, over the fed box, which has c's number
abbrev pub absorbed_keyless : (g : QueryGraph) (known : Facts) (d : Node) (may : MayAbsorb g.boxes known d) (q : OwnedQuant) (x : Node) (o n om oc p : ℕ) (up l1 l2 : List Node) → QueryGraph
absorbed_keyless g known d may q x o n om oc p up l1 l2 =
    on_boxes (λ boxes. up ++ (counted_box d.id may.r.id (width may.m) may.c.parts.head o ∷ (joined_box o om may.m.id oc n (width may.m) (length may.c.parts.head) ∷ (keyed_box n (width may.m) q.id p (width may.m) (width x) may.c.parts.head may.c.id ∷ (pair_box may.c.id Fed may.a.id may.m.id (width may.m) q.id x.id (width x) ∷ (l1 ++ l2)))))) g

-- c is a group without keys, by q over x: so it is in h, without the boxes that the root doesn't reach; the numbers of the new boxes and quantifiers are new
pub record AbsorbsKeylessAt (p : Place) (g h : QueryGraph) (d : Node) : Type 0 where
  pub may : MayAbsorbGroupAt p g d
  pub keyless : may.keys ≡ 0
  pub q : OwnedQuant
  pub x : Node
  pub alone : may.ready.c.quants ≡ q ∷ []
  pub in_x : In x g.boxes
  pub over_x : q.over ≡ x.id
  pub o : ℕ
  pub n : ℕ
  pub om : ℕ
  pub oc : ℕ
  pub t : ℕ
  pub fresh : AreFresh g o n om oc t
  pub up : List Node
  pub l1 : List Node
  pub l2 : List Node
  pub before : g.boxes ≡ up ++ d ∷ (l1 ++ may.ready.c ∷ l2)
  pub after : h ≡ compact (absorbed_keyless g (inferred_facts g.boxes) d may.ready q x o n om oc t up l1 l2)

unfoldable pub AbsorbsGroup : Place → QueryGraph → QueryGraph → Type 0
AbsorbsGroup p g h = (d : Node) × (AbsorbsKeyedAt p g h d ⊎ AbsorbsKeylessAt p g h d)

-- ---- what it keeps

-- c is a group by q over x
pub record IsGroupOver (tables : List Table) (g : QueryGraph) (d m c x : Node) (a q : OwnedQuant) (keys : ℕ) : Type 0 where
  pub in_x : In x g.boxes
  pub a_group : c.parts.kind ≡ Group keys
  pub one : c.quants ≡ q ∷ []
  pub row_q : is_F q.kind ≡ true
  pub over_x : q.over ≡ x.id
  pub own : AllOwn q.id c.parts.head
  pub folds : list_all is_aggregate (drop keys c.parts.head) ≡ true
  pub apart : (q.id == a.id) ≡ false
  -- no row under a tag is at an error level, and no key is an error
  pub sound : (e : Environment) (u : List Cell) → stands same_cells u (bag tables g m.id e) ≡ true → error_among (λ cells. error_in (key_cells keys c.parts.head q.id (bound a.id u e) cells)) (bag tables g x.id (bound a.id u e)) ≡ None
  pub x_not_c : (x.id == c.id) ≡ false
  pub m_not_c : (m.id == c.id) ≡ false
  pub d_not_c : (d.id == c.id) ≡ false

-- G3 with keys: d is now the group over c, which is now the fed box over m and c's input
abbrev pub GroupBags : Type 0
GroupBags =
    (tables : List Table) (g h : QueryGraph) (d m c x : Node) (a r q : OwnedQuant) (k : ℕ) → IsFedAt tables g d m c a r → IsGroupOver tables g d m c x a q (suc k) → Ordered h.boxes
    → ((n : Node) → In n h.boxes → IsOld g d c n ⊎ ((n ≡ keyed_box d.id (width m + suc k) q.id r.id (width m) (width x) c.parts.head c.id) ⊎ (n ≡ pair_box c.id Fed a.id m.id (width m) q.id x.id (width x))))
    → (b : ℕ) → has_box h.boxes b ≡ true → (b == c.id) ≡ false → (e : Environment) → Agree same_cells (bag tables h b e) (bag tables g b e)

-- the fed box d stands in the graph, and below it the group by q over x
pub record GroupAt (g : QueryGraph) (known : Facts) (d : Node) (may : MayAbsorb g.boxes known d) (k : ℕ) (q : OwnedQuant) (x : Node) (up l1 l2 : List Node) : Type 0 where
  pub once : EachOnce (numbers g.boxes)
  pub formed : WellFormed g
  pub tells : Tells known g.boxes
  pub a_group : may.c.parts.kind ≡ Group (suc k)
  pub alone : may.c.quants ≡ q ∷ []
  pub in_x : In x g.boxes
  pub over_x : q.over ≡ x.id
  pub before : g.boxes ≡ up ++ d ∷ (l1 ++ may.c ∷ l2)

abbrev pub GroupPreserves : Type 0
GroupPreserves =
    (g : QueryGraph) (known : Facts) (d : Node) (may : MayAbsorb g.boxes known d) (k : ℕ) (q : OwnedQuant) (x : Node) (up l1 l2 : List Node) → GroupAt g known d may k q x up l1 l2 → Preserves g (compact (absorbed_group g known d may k q x up l1 l2))

abbrev pub GroupLowers : Type 0
GroupLowers =
    (g : QueryGraph) (known : Facts) (d : Node) (may : MayAbsorb g.boxes known d) (k : ℕ) (q : OwnedQuant) (x : Node) (up l1 l2 : List Node) → GroupAt g known d may k q x up l1 l2 → Lowers g.boxes (absorbed_group g known d may k q x up l1 l2).boxes

-- numbers of new boxes
pub record AreNew (g : QueryGraph) (c : Node) (o n : ℕ) : Type 0 where
  pub o_new : has_box g.boxes o ≡ false
  pub n_new : has_box g.boxes n ≡ false
  pub apart : (o == n) ≡ false

-- G3 without keys: d is now a select over the outer join o of m with n, the groups by tags over c, which is now the fed box
abbrev pub KeylessBags : Type 0
KeylessBags =
    (tables : List Table) (g h : QueryGraph) (d m c x : Node) (a r q : OwnedQuant) (w o n om oc p : ℕ) → width m ≡ suc w → IsFedAt tables g d m c a r → IsGroupOver tables g d m c x a q 0 → Ordered h.boxes
    → AreNew g c o n → (om == oc) ≡ false
    → ((y : Node) → In y h.boxes → IsOld g d c y
    ⊎ ((y ≡ counted_box d.id r.id (suc w) c.parts.head o)
    ⊎ ((y ≡ joined_box o om m.id oc n (suc w) (length c.parts.head))
    ⊎ ((y ≡ keyed_box n (suc w) q.id p (suc w) (width x) c.parts.head c.id) ⊎ (y ≡ pair_box c.id Fed a.id m.id (suc w) q.id x.id (width x))))))
    → (b : ℕ) → has_box g.boxes b ≡ true → has_box h.boxes b ≡ true → (b == c.id) ≡ false → (e : Environment) → Agree same_cells (bag tables h b e) (bag tables g b e)

-- the fed box d stands in the graph, and below it the group without keys by q over x
pub record KeylessAt (g : QueryGraph) (known : Facts) (d : Node) (may : MayAbsorb g.boxes known d) (q : OwnedQuant) (x : Node) (o n om oc p : ℕ) (up l1 l2 : List Node) : Type 0 where
  pub once : EachOnce (numbers g.boxes)
  pub formed : WellFormed g
  pub tells : Tells known g.boxes
  pub a_group : may.c.parts.kind ≡ Group 0
  pub alone : may.c.quants ≡ q ∷ []
  pub in_x : In x g.boxes
  pub over_x : q.over ≡ x.id
  pub fresh : AreFresh g o n om oc p
  pub before : g.boxes ≡ up ++ d ∷ (l1 ++ may.c ∷ l2)

abbrev pub KeylessPreserves : Type 0
KeylessPreserves =
    (g : QueryGraph) (known : Facts) (d : Node) (may : MayAbsorb g.boxes known d) (q : OwnedQuant) (x : Node) (o n om oc p : ℕ) (up l1 l2 : List Node) → KeylessAt g known d may q x o n om oc p up l1 l2
    → Preserves g (compact (absorbed_keyless g known d may q x o n om oc p up l1 l2))

abbrev pub KeylessLowers : Type 0
KeylessLowers =
    (g : QueryGraph) (known : Facts) (d : Node) (may : MayAbsorb g.boxes known d) (q : OwnedQuant) (x : Node) (o n om oc p : ℕ) (up l1 l2 : List Node) → KeylessAt g known d may q x o n om oc p up l1 l2
    → Lowers g.boxes (absorbed_keyless g known d may q x o n om oc p up l1 l2).boxes
