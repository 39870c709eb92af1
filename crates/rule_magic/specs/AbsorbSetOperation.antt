-- G4, a set operation under a fed box is one of selects over the magic box and its operands: its condition, its places, its action, and what it keeps.
use Rattle.std.specs.Prelude.{ℕ, ◌≡◌, ◌==◌, ◌&&◌, ◌||◌, ◌++◌, ◌⊎◌, if◌then◌else◌, map, not, Bool, true, false, List, [], ◌∷◌, Option, Some, None}
use Rattle.sql_value.specs.declared.cell.Cell.{Cell}
use Rattle.sql_value.specs.declared.order_key.SqlType.{SqlType}
use Rattle.row_bag.specs.AsSets.{stands}
use Rattle.row_bag.specs.Bags.{Agree}
use Rattle.row_bag.specs.Sets.{same_cells}
use Rattle.row_bag.specs.declared.tables.Table.{Table}
use Rattle.qgm_core.specs.Boxes.{Ordered, QueryGraph, box_of, has_box, ids_in, width, numbers}
use Rattle.qgm_core.specs.Edits.{compact, on_boxes, range}
use Rattle.qgm_core.specs.Free.{IsFree}
use Rattle.list_laws.specs.Lists.{In, EachOnce, times}
use Rattle.qgm_core.specs.declared.kinds.BoxKind.{BoxKind}
use Rattle.qgm_core.specs.declared.kinds.BoxKind.TheVariants.{Base, Select, Group, SetOp, OuterJoin}
use Rattle.qgm_core.specs.declared.kinds.Distinct.TheVariants.{Preserve}
use Rattle.qgm_core.specs.declared.kinds.QuantKind.TheVariants.{F}
use Rattle.qgm_core.specs.declared.kinds.Role.{Role}
use Rattle.qgm_core.specs.declared.kinds.Role.TheVariants.{Fed, Plain}
use Rattle.qgm_core.specs.declared.kinds.SetOperator.{SetOperator}
use Rattle.qgm_core.specs.declared.kinds.SetOperator.TheVariants.{Union, UnionAll, Intersect, IntersectAll, Except, ExceptAll}
use Rattle.qgm_core.specs.declared.node.Node.{Node}
use Rattle.qgm_core.specs.declared.owned.OwnedQuant.{OwnedQuant}
use Rattle.qgm_meaning.specs.Meaning.{bag}
use Rattle.qgm_meaning.specs.Scope.{loose, put_node}
use Rattle.qgm_meaning.specs.Tags.{columns_from}
use Rattle.qgm_edit_laws.specs.Graph.{Sound}
use Rattle.qgm_meaning.specs.Values.{Environment, bound}
use Rattle.qgm_wellformed.specs.Sentences.{WellFormed}
use Rattle.qgm_props.specs.Calm.{is_closed}
use Rattle.qgm_props.specs.Inferred.{Facts, clean}
use Rattle.qgm_props.specs.Laws.{Tells}
use Rattle.qgm_props.specs.Measure.{Lowers}
use Rattle.qgm_wellformed.specs.Types.{known as all_known}
use Rattle.qgm_edit_laws.specs.Reforms.{types_at}
use Rattle.rule_api.specs.Rules.{Pair, Preserves}
use Rattle.rule_api.specs.declared.place.Place.{Place}
use Rattle.rule_facts.specs.Told.{infers}
use Rattle.rule_magic.specs.Feeding.{Feeding, are_few, feeding_pairs, inferred_facts, is_ready}
use Rattle.qgm_meaning.specs.Satisfies.{Satisfies}
use Rattle.rule_magic.specs.Places.{MayAbsorb}
use Rattle.rule_magic.specs.Boxes.{box_as, pair_box, set_box}
use Rattle.rule_magic.specs.FedBox.{IsFedAt}
use Rattle.rule_magic.specs.Region.{is_below}
use Rattle.rule_magic.specs.UnderTags.{NoneAmong}
use Rattle.rule_magic.specs.AbsorbArms.{Renames, IsFreshSelect, IsStill, IsRenamed, HasArms, role_over}

-- ---- the condition

-- d is a fed box that may be absorbed, over an open box that is a set operation
pub record MayAbsorbSetAt (p : Place) (g : QueryGraph) (d : Node) : Type 0 where
  pub no_first : p.i ≡ 0
  pub no_second : p.j ≡ 0
  pub at : box_of p.at g ≡ Some d
  pub ready : MayAbsorb g.boxes (inferred_facts g.boxes) d
  pub form : SetOperator
  pub types : List SqlType
  pub a_set : ready.c.parts.kind ≡ SetOp form types

unfoldable pub MayAbsorbSet : Place → QueryGraph → Type 0
MayAbsorbSet p g = (d : Node) × MayAbsorbSetAt p g d

-- ---- the places

-- an error among the rows of an operand is its result
abbrev pub collapses : SetOperator → Bool
collapses Union = false
collapses UnionAll = false
collapses Intersect = true
collapses IntersectAll = true
collapses Except = true
collapses ExceptAll = true

abbrev pub operator_of : BoxKind → Option SetOperator
operator_of (Base table) = None
operator_of Select = None
operator_of (Group keys) = None
operator_of (SetOp form types) = Some form
operator_of OuterJoin = None

-- INTERSECT and EXCEPT are inferred clean exactly where their operands are, with error-free columns
abbrev pub form_passes : List Node → ℕ → Option SetOperator → Bool
form_passes bs c None = false
form_passes bs c (Some form) = not (collapses form) || infers bs (clean c)

abbrev pub may_absorb_set : QueryGraph → Feeding → Bool
may_absorb_set g f = are_few g.boxes && (form_passes g.boxes f.c.id (operator_of f.c.parts.kind) && is_ready g.boxes f)

-- the places of G4 at b
unfoldable pub absorb_set_pairs : QueryGraph → ℕ → List Pair
absorb_set_pairs g b = feeding_pairs may_absorb_set g b

-- ---- the action

-- in the place of d stands the set operation of two selects of the magic box, one and x, which has c's number, and one and y: each is fed, or plain
abbrev pub absorbed_set : (g : QueryGraph) (known : Facts) (d : Node) (may : MayAbsorb g.boxes known d) (form : SetOperator) (mt : List SqlType) (l r : OwnedQuant) (x y : Node) (s u p : ℕ) (left right : Role) (up l1 l2 : List Node) → QueryGraph
absorbed_set g known d may form mt l r x y s u p left right up l1 l2 =
    on_boxes (λ boxes. up ++ (set_box d.id form mt may.r.id may.c.id u s ∷ (pair_box s right p may.m.id (width may.m) r.id y.id (width y) ∷ (pair_box may.c.id left may.a.id may.m.id (width may.m) l.id x.id (width x) ∷ (l1 ++ l2))))) g

-- and where the right operand is open, below it names of the magic box's quantifier become those of the new one
abbrev pub renamed_set : (g : QueryGraph) (known : Facts) (d : Node) (may : MayAbsorb g.boxes known d) (form : SetOperator) (mt : List SqlType) (l r : OwnedQuant) (x y : Node) (s u p : ℕ) (left right : Role) (up l1 l2 : List Node) → QueryGraph
renamed_set g known d may form mt l r x y s u p left right up l1 l2 =
    on_boxes (λ boxes. map (λ (n : Node). if is_below g.boxes r.over n.id then put_node may.a.id (columns_from p 1 (width may.m)) n else n) (absorbed_set g known d may form mt l r x y s u p left right up l1 l2).boxes) g

-- a select is fed where its operand is open; names change where the right one is
abbrev pub tagged_set : (g : QueryGraph) (known : Facts) (d : Node) (may : MayAbsorb g.boxes known d) (form : SetOperator) (mt : List SqlType) (l r : OwnedQuant) (x y : Node) (s u p : ℕ) (up l1 l2 : List Node) → QueryGraph
tagged_set g known d may form mt l r x y s u p up l1 l2 =
    if is_closed g.boxes y.id
    then absorbed_set g known d may form mt l r x y s u p (role_over g.boxes x.id) (role_over g.boxes y.id) up l1 l2
    else renamed_set g known d may form mt l r x y s u p (role_over g.boxes x.id) (role_over g.boxes y.id) up l1 l2

-- c is a set operation of x and y, by l and r: so it is in h, without the boxes that the root doesn't reach; mt are the types of the magic box before those of c
pub record AbsorbsSetAt (p : Place) (g h : QueryGraph) (d : Node) : Type 0 where
  pub may : MayAbsorbSetAt p g d
  pub l : OwnedQuant
  pub r : OwnedQuant
  pub x : Node
  pub y : Node
  pub two : may.ready.c.quants ≡ l ∷ (r ∷ [])
  pub in_x : In x g.boxes
  pub over_x : l.over ≡ x.id
  pub in_y : In y g.boxes
  pub over_y : r.over ≡ y.id
  pub mt : List SqlType
  pub typed : all_known mt ≡ types_at g.boxes may.ready.m.id ++ all_known may.types
  pub s : ℕ
  pub u : ℕ
  pub t : ℕ
  pub fresh : IsFreshSelect g s u t
  pub up : List Node
  pub l1 : List Node
  pub l2 : List Node
  pub before : g.boxes ≡ up ++ d ∷ (l1 ++ may.ready.c ∷ l2)
  pub after : h ≡ compact (tagged_set g (inferred_facts g.boxes) d may.ready may.form mt l r x y s u t up l1 l2)

unfoldable pub AbsorbsSet : Place → QueryGraph → QueryGraph → Type 0
AbsorbsSet p g h = (d : Node) × AbsorbsSetAt p g h d

-- ---- what it keeps

-- G4: in the place of d stands the set operation, over selects, which have the numbers of c and a new one
abbrev pub SetBags : Type 0
SetBags =
    (tables : List Table) (g h : QueryGraph) (d m c x y : Node) (a r l1 r1 : OwnedQuant) (p q1 q2 u1 u2 s : ℕ) (marked : ℕ → Bool) (form : SetOperator) (types mt : List SqlType) (left right : Role)
    → IsFedAt tables g d m c a r → HasArms g d m c x y a l1 r1 marked → Renames g a.id p marked → c.parts.kind ≡ SetOp form types → Ordered h.boxes
    → (q1 == a.id) ≡ false → (q2 == p) ≡ false → (u1 == u2) ≡ false → has_box g.boxes s ≡ false → marked s ≡ false
    → ((e : Environment) (u : List Cell) → stands same_cells u (bag tables g m.id e) ≡ true → NoneAmong form (bag tables g x.id (bound a.id u e)) (bag tables g y.id (bound a.id u e)))
    → ((n : Node) → In n h.boxes → IsStill g d c a.id marked n ⊎ (IsRenamed g a.id p (width m) marked n
    ⊎ ((n ≡ box_as d.id (SetOp form mt) Preserve Plain [] [] (range u1 F c.id ∷ (range u2 F s ∷ [])))
    ⊎ ((n ≡ pair_box c.id left a.id m.id (width m) q1 x.id (width x)) ⊎ (n ≡ pair_box s right p m.id (width m) q2 y.id (width y))))))
    → (b : ℕ) → has_box g.boxes b ≡ true → has_box h.boxes b ≡ true → (b == c.id) ≡ false → (marked b && loose g.boxes b a.id) ≡ false → (e : Environment) → Agree same_cells (bag tables h b e) (bag tables g b e)

-- the conditions of G4 give what this asks of errors: no arm has one under a tag, where the operation would collapse for it
abbrev pub SetsGiven : Type 0
SetsGiven =
    (g : QueryGraph) → EachOnce (numbers g.boxes) → WellFormed g → (known : Facts) → Tells known g.boxes → (d : Node) (may : MayAbsorb g.boxes known d) (tables : List Table) → Satisfies tables g.boxes
    → (form : SetOperator) (types : List SqlType) (l r : OwnedQuant) → may.c.parts.kind ≡ SetOp form types → may.c.quants ≡ l ∷ (r ∷ []) → (l.id == r.id) ≡ false → (x y : Node) → l.over ≡ x.id → r.over ≡ y.id
    → (e : Environment) (u : List Cell) → stands same_cells u (bag tables g may.m.id e) ≡ true → NoneAmong form (bag tables g x.id (bound may.a.id u e)) (bag tables g y.id (bound may.a.id u e))

-- the fed box d stands in the graph, and below it a set operation of x and y; mt are the types of the magic box before those of the set operation; the numbers of a box and of two quantifiers are new
pub record SetAt (g : QueryGraph) (known : Facts) (d : Node) (may : MayAbsorb g.boxes known d) (form : SetOperator) (types mt : List SqlType) (l r : OwnedQuant) (x y : Node) (s u p : ℕ) (up l1 l2 : List Node) : Type 0 where
  pub once : EachOnce (numbers g.boxes)
  pub formed : WellFormed g
  pub tells : Tells known g.boxes
  pub a_set : may.c.parts.kind ≡ SetOp form types
  pub two : may.c.quants ≡ l ∷ (r ∷ [])
  pub in_x : In x g.boxes
  pub over_x : l.over ≡ x.id
  pub in_y : In y g.boxes
  pub over_y : r.over ≡ y.id
  pub typed : all_known mt ≡ types_at g.boxes may.m.id ++ all_known types
  pub s_new : has_box g.boxes s ≡ false
  pub u_new : times u (ids_in g.boxes) ≡ 0
  pub p_new : times p (ids_in g.boxes) ≡ 0
  pub apart : (u == p) ≡ false
  pub before : g.boxes ≡ up ++ d ∷ (l1 ++ may.c ∷ l2)

-- G4 where the right operand is closed
abbrev pub SetPreserves : Type 0
SetPreserves =
    (g : QueryGraph) (known : Facts) (d : Node) (may : MayAbsorb g.boxes known d) (form : SetOperator) (types mt : List SqlType) (l r : OwnedQuant) (x y : Node) (s u p : ℕ) (up l1 l2 : List Node) → SetAt g known d may form types mt l r x y s u p up l1 l2
    → ((q : ℕ) → IsFree g.boxes y.id q → ⊥) → Preserves g (compact (absorbed_set g known d may form mt l r x y s u p Fed Plain up l1 l2))

abbrev pub SetLowers : Type 0
SetLowers =
    (g : QueryGraph) (known : Facts) (d : Node) (may : MayAbsorb g.boxes known d) (form : SetOperator) (types mt : List SqlType) (l r : OwnedQuant) (x y : Node) (s u p : ℕ) (up l1 l2 : List Node) → SetAt g known d may form types mt l r x y s u p up l1 l2
    → ((q : ℕ) → IsFree g.boxes y.id q → ⊥) → Lowers g.boxes (absorbed_set g known d may form mt l r x y s u p Fed Plain up l1 l2).boxes

-- and where it is open, and names below it change, the graph is sound
abbrev pub SetOpenSound : Type 0
SetOpenSound =
    (g : QueryGraph) (known : Facts) (d : Node) (may : MayAbsorb g.boxes known d) (form : SetOperator) (types mt : List SqlType) (l r : OwnedQuant) (x y : Node) (s u p : ℕ) (left right : Role) (up l1 l2 : List Node) → SetAt g known d may form types mt l r x y s u p up l1 l2
    → IsFree g.boxes y.id may.a.id → Sound (renamed_set g known d may form mt l r x y s u p left right up l1 l2).boxes g.root

-- and it preserves, where the select of an open operand is fed and that of a closed one plain
abbrev pub SetOpenPreserves : Type 0
SetOpenPreserves =
    (g : QueryGraph) (known : Facts) (d : Node) (may : MayAbsorb g.boxes known d) (form : SetOperator) (types mt : List SqlType) (l r : OwnedQuant) (x y : Node) (s u p : ℕ) (up l1 l2 : List Node) → SetAt g known d may form types mt l r x y s u p up l1 l2
    → IsFree g.boxes y.id may.a.id → Preserves g (compact (renamed_set g known d may form mt l r x y s u p (role_over g.boxes x.id) (role_over g.boxes y.id) up l1 l2))

abbrev pub SetOpenLowers : Type 0
SetOpenLowers =
    (g : QueryGraph) (known : Facts) (d : Node) (may : MayAbsorb g.boxes known d) (form : SetOperator) (types mt : List SqlType) (l r : OwnedQuant) (x y : Node) (s u p : ℕ) (left right : Role) (up l1 l2 : List Node) → SetAt g known d may form types mt l r x y s u p up l1 l2
    → IsFree g.boxes y.id may.a.id → Lowers g.boxes (renamed_set g known d may form mt l r x y s u p left right up l1 l2).boxes
