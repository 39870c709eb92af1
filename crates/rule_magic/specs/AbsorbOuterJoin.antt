-- G5, an outer join under a fed box is one of a tagged left operand, and of a tagged right one where that is open: its condition, its places, its action, and what it keeps.
use Rattle.std.specs.Prelude.{ℕ, ◌≡◌, ◌==◌, ◌&&◌, ◌++◌, ◌⊎◌, if◌then◌else◌, map, Bool, true, false, List, [], ◌∷◌, Some}
use Rattle.row_bag.specs.Bags.{Agree}
use Rattle.row_bag.specs.Sets.{same_cells}
use Rattle.row_bag.specs.declared.tables.Table.{Table}
use Rattle.qgm_core.specs.Boxes.{Ordered, QueryGraph, box_of, has_box, numbers, width}
use Rattle.qgm_core.specs.Edits.{compact, on_boxes, range}
use Rattle.qgm_core.specs.Free.{IsFree}
use Rattle.list_laws.specs.Lists.{EachOnce, In}
use Rattle.qgm_core.specs.declared.kinds.BoxKind.{BoxKind}
use Rattle.qgm_core.specs.declared.kinds.BoxKind.TheVariants.{Base, Select, Group, SetOp, OuterJoin}
use Rattle.qgm_core.specs.declared.kinds.QuantKind.TheVariants.{F}
use Rattle.qgm_core.specs.declared.kinds.Role.{Role}
use Rattle.qgm_core.specs.declared.node.Node.{Node}
use Rattle.qgm_core.specs.declared.owned.OwnedQuant.{OwnedQuant}
use Rattle.qgm_meaning.specs.Meaning.{bag}
use Rattle.qgm_meaning.specs.Scope.{loose, put_node}
use Rattle.qgm_meaning.specs.Tags.{columns_from}
use Rattle.qgm_meaning.specs.Values.{Environment}
use Rattle.qgm_wellformed.specs.Sentences.{WellFormed}
use Rattle.qgm_props.specs.Calm.{is_closed}
use Rattle.qgm_props.specs.Inferred.{Facts}
use Rattle.qgm_props.specs.Laws.{Tells}
use Rattle.qgm_props.specs.Measure.{Lowers}
use Rattle.rule_api.specs.Rules.{Pair, Preserves}
use Rattle.rule_api.specs.declared.place.Place.{Place}
use Rattle.rule_magic.specs.Boxes.{arms_box, left_box, pair_box}
use Rattle.rule_magic.specs.FedBox.{IsFedAt}
use Rattle.rule_magic.specs.Feeding.{Feeding, are_few, feeding_pairs, inferred_facts, is_ready}
use Rattle.rule_magic.specs.Places.{MayAbsorb}
use Rattle.rule_magic.specs.Region.{is_below}
use Rattle.rule_magic.specs.UnderTags.{IsOuter}
use Rattle.rule_magic.specs.AbsorbArms.{Renames, IsFreshSelect, IsStill, IsRenamed, HasArms, role_over}

-- ---- the condition

-- d is a fed box that may be absorbed, over an open box that is an outer join
pub record MayAbsorbOuterAt (p : Place) (g : QueryGraph) (d : Node) : Type 0 where
  pub no_first : p.i ≡ 0
  pub no_second : p.j ≡ 0
  pub at : box_of p.at g ≡ Some d
  pub ready : MayAbsorb g.boxes (inferred_facts g.boxes) d
  pub an_outer : ready.c.parts.kind ≡ OuterJoin

unfoldable pub MayAbsorbOuter : Place → QueryGraph → Type 0
MayAbsorbOuter p g = (d : Node) × MayAbsorbOuterAt p g d

-- ---- the places

abbrev pub is_outer : BoxKind → Bool
is_outer (Base table) = false
is_outer Select = false
is_outer (Group keys) = false
is_outer (SetOp form types) = false
is_outer OuterJoin = true

abbrev pub may_absorb_outer : QueryGraph → Feeding → Bool
may_absorb_outer g f = (is_outer f.c.parts.kind && are_few g.boxes) && is_ready g.boxes f

-- the places of G5 at b
unfoldable pub absorb_outer_pairs : QueryGraph → ℕ → List Pair
absorb_outer_pairs g b = feeding_pairs may_absorb_outer g b

-- ---- the action

-- in the place of d stands the outer join of the select of the magic box and x, which has c's number, and of y; the select is fed, or plain
abbrev pub absorbed_left : (g : QueryGraph) (known : Facts) (d : Node) (may : MayAbsorb g.boxes known d) (l r : OwnedQuant) (x y : Node) (left : Role) (up l1 l2 : List Node) → QueryGraph
absorbed_left g known d may l r x y left up l1 l2 =
    on_boxes (λ boxes. up ++ left_box d.id may.a.id l.id (width may.m) (width x) may.c (range l.id F may.c.id ∷ (range r.id F y.id ∷ [])) ∷ (pair_box may.c.id left may.a.id may.m.id (width may.m) may.r.id x.id (width x) ∷ (l1 ++ l2))) g

-- where the right operand is open: the outer join of this select and of one of the magic box and y; box s, and its quantifiers p and u, are new
abbrev pub absorbed_arms : (g : QueryGraph) (known : Facts) (d : Node) (may : MayAbsorb g.boxes known d) (l r : OwnedQuant) (x y : Node) (s u p : ℕ) (left right : Role) (up l1 l2 : List Node) → QueryGraph
absorbed_arms g known d may l r x y s u p left right up l1 l2 =
    on_boxes (λ boxes. up ++ (arms_box d.id may.a.id l.id (width may.m) (width x) r.id (width y) may.c (range l.id F may.c.id ∷ (range r.id F s ∷ []))
    ∷ (pair_box s right p may.m.id (width may.m) u y.id (width y) ∷ (pair_box may.c.id left may.a.id may.m.id (width may.m) may.r.id x.id (width x) ∷ (l1 ++ l2))))) g

-- and below y names of the magic box's quantifier become those of the new one
abbrev pub renamed_arms : (g : QueryGraph) (known : Facts) (d : Node) (may : MayAbsorb g.boxes known d) (l r : OwnedQuant) (x y : Node) (s u p : ℕ) (left right : Role) (up l1 l2 : List Node) → QueryGraph
renamed_arms g known d may l r x y s u p left right up l1 l2 =
    on_boxes (λ boxes. map (λ (n : Node). if is_below g.boxes r.over n.id then put_node may.a.id (columns_from p 1 (width may.m)) n else n) (absorbed_arms g known d may l r x y s u p left right up l1 l2).boxes) g

-- c's quantifiers are l over x and r over y
pub record AreOver (g : QueryGraph) (c : Node) (l r : OwnedQuant) (x y : Node) : Type 0 where
  pub two : c.quants ≡ l ∷ (r ∷ [])
  pub in_x : In x g.boxes
  pub over_x : l.over ≡ x.id
  pub in_y : In y g.boxes
  pub over_y : r.over ≡ y.id

-- y is closed: so it is in h, without the boxes that the root doesn't reach
pub record AbsorbsLeftAt (p : Place) (g h : QueryGraph) (d : Node) : Type 0 where
  pub may : MayAbsorbOuterAt p g d
  pub l : OwnedQuant
  pub r : OwnedQuant
  pub x : Node
  pub y : Node
  pub operands : AreOver g may.ready.c l r x y
  pub shut : is_closed g.boxes y.id ≡ true
  pub up : List Node
  pub l1 : List Node
  pub l2 : List Node
  pub before : g.boxes ≡ up ++ d ∷ (l1 ++ may.ready.c ∷ l2)
  pub after : h ≡ compact (absorbed_left g (inferred_facts g.boxes) d may.ready l r x y (role_over g.boxes x.id) up l1 l2)

-- y is open
pub record AbsorbsArmsAt (p : Place) (g h : QueryGraph) (d : Node) : Type 0 where
  pub may : MayAbsorbOuterAt p g d
  pub l : OwnedQuant
  pub r : OwnedQuant
  pub x : Node
  pub y : Node
  pub operands : AreOver g may.ready.c l r x y
  pub opened : is_closed g.boxes y.id ≡ false
  pub s : ℕ
  pub u : ℕ
  pub t : ℕ
  pub fresh : IsFreshSelect g s u t
  pub up : List Node
  pub l1 : List Node
  pub l2 : List Node
  pub before : g.boxes ≡ up ++ d ∷ (l1 ++ may.ready.c ∷ l2)
  pub after : h ≡ compact (renamed_arms g (inferred_facts g.boxes) d may.ready l r x y s u t (role_over g.boxes x.id) (role_over g.boxes y.id) up l1 l2)

unfoldable pub AbsorbsOuter : Place → QueryGraph → QueryGraph → Type 0
AbsorbsOuter p g h = (d : Node) × (AbsorbsLeftAt p g h d ⊎ AbsorbsArmsAt p g h d)

-- ---- what it keeps

-- G5 with an open right arm
abbrev pub OuterArmsBags : Type 0
OuterArmsBags =
    (tables : List Table) (g h : QueryGraph) (d m c x y : Node) (a r l1 r1 : OwnedQuant) (p q1 q2 s : ℕ) (marked : ℕ → Bool) (left right : Role)
    → IsFedAt tables g d m c a r → HasArms g d m c x y a l1 r1 marked → Renames g a.id p marked → c.parts.kind ≡ OuterJoin → IsOuter a.id l1.id r1.id c → Ordered h.boxes
    → (q1 == a.id) ≡ false → (q2 == p) ≡ false → has_box g.boxes s ≡ false → marked s ≡ false
    → ((n : Node) → In n h.boxes → IsStill g d c a.id marked n ⊎ (IsRenamed g a.id p (width m) marked n
    ⊎ ((n ≡ arms_box d.id a.id l1.id (width m) (width x) r1.id (width y) c (range l1.id F c.id ∷ (range r1.id F s ∷ [])))
    ⊎ ((n ≡ pair_box c.id left a.id m.id (width m) q1 x.id (width x)) ⊎ (n ≡ pair_box s right p m.id (width m) q2 y.id (width y))))))
    → (b : ℕ) → has_box g.boxes b ≡ true → has_box h.boxes b ≡ true → (b == c.id) ≡ false → (marked b && loose g.boxes b a.id) ≡ false → (e : Environment) → Agree same_cells (bag tables h b e) (bag tables g b e)

-- G5 with a closed right arm; s is any number that no box has
abbrev pub OuterLeftBags : Type 0
OuterLeftBags =
    (tables : List Table) (g h : QueryGraph) (d m c x y : Node) (a r l1 r1 : OwnedQuant) (q1 s : ℕ) (left : Role)
    → IsFedAt tables g d m c a r → HasArms g d m c x y a l1 r1 (λ n. false) → c.parts.kind ≡ OuterJoin → IsOuter a.id l1.id r1.id c → ((q : ℕ) → loose g.boxes y.id q ≡ false)
    → Ordered h.boxes → (q1 == a.id) ≡ false → has_box g.boxes s ≡ false
    → ((n : Node) → In n h.boxes → IsStill g d c a.id (λ n. false) n
    ⊎ ((n ≡ left_box d.id a.id l1.id (width m) (width x) c (range l1.id F c.id ∷ (range r1.id F y.id ∷ []))) ⊎ (n ≡ pair_box c.id left a.id m.id (width m) q1 x.id (width x))))
    → (b : ℕ) → has_box g.boxes b ≡ true → has_box h.boxes b ≡ true → (b == c.id) ≡ false → (e : Environment) → Agree same_cells (bag tables h b e) (bag tables g b e)

-- the fed box d stands in the graph, and below it an outer join of x and y
pub record OuterAt (g : QueryGraph) (known : Facts) (d : Node) (may : MayAbsorb g.boxes known d) (l r : OwnedQuant) (x y : Node) (up l1 l2 : List Node) : Type 0 where
  pub once : EachOnce (numbers g.boxes)
  pub formed : WellFormed g
  pub tells : Tells known g.boxes
  pub an_outer : may.c.parts.kind ≡ OuterJoin
  pub two : may.c.quants ≡ l ∷ (r ∷ [])
  pub in_x : In x g.boxes
  pub over_x : l.over ≡ x.id
  pub in_y : In y g.boxes
  pub over_y : r.over ≡ y.id
  pub before : g.boxes ≡ up ++ d ∷ (l1 ++ may.c ∷ l2)

-- where the right operand is closed
abbrev pub OuterLeftPreserves : Type 0
OuterLeftPreserves =
    (g : QueryGraph) (known : Facts) (d : Node) (may : MayAbsorb g.boxes known d) (l r : OwnedQuant) (x y : Node) (up l1 l2 : List Node) → OuterAt g known d may l r x y up l1 l2
    → ((q : ℕ) → IsFree g.boxes y.id q → ⊥) → Preserves g (compact (absorbed_left g known d may l r x y (role_over g.boxes x.id) up l1 l2))

abbrev pub OuterLeftLowers : Type 0
OuterLeftLowers =
    (g : QueryGraph) (known : Facts) (d : Node) (may : MayAbsorb g.boxes known d) (l r : OwnedQuant) (x y : Node) (up l1 l2 : List Node) → OuterAt g known d may l r x y up l1 l2
    → ((q : ℕ) → IsFree g.boxes y.id q → ⊥) → Lowers g.boxes (absorbed_left g known d may l r x y (role_over g.boxes x.id) up l1 l2).boxes

-- where it is open
abbrev pub OuterArmsPreserves : Type 0
OuterArmsPreserves =
    (g : QueryGraph) (known : Facts) (d : Node) (may : MayAbsorb g.boxes known d) (l r : OwnedQuant) (x y : Node) (s u p : ℕ) (up l1 l2 : List Node) → OuterAt g known d may l r x y up l1 l2 → IsFreshSelect g s u p
    → IsFree g.boxes y.id may.a.id → Preserves g (compact (renamed_arms g known d may l r x y s u p (role_over g.boxes x.id) (role_over g.boxes y.id) up l1 l2))

abbrev pub OuterArmsLowers : Type 0
OuterArmsLowers =
    (g : QueryGraph) (known : Facts) (d : Node) (may : MayAbsorb g.boxes known d) (l r : OwnedQuant) (x y : Node) (s u p : ℕ) (up l1 l2 : List Node) → OuterAt g known d may l r x y up l1 l2 → IsFreshSelect g s u p
    → IsFree g.boxes y.id may.a.id → Lowers g.boxes (renamed_arms g known d may l r x y s u p (role_over g.boxes x.id) (role_over g.boxes y.id) up l1 l2).boxes
