-- A firing of class magic adds at most three boxes.
use Rattle.std.proofs.Common.{suc, ◌≡◌, ◌≤◌, ◌+◌, Bool, true, false, cond, List, [], ◌∷◌, ◌++◌, length, map, filter, refl, ap, subst, inl, inr, arith}
use Rattle.std.proofs.lemmas.List.{length-append, length-map}
use Rattle.list_laws.specs.Lists.{In, holds}
use Rattle.qgm_core.specs.Boxes.{QueryGraph, width}
use Rattle.qgm_core.specs.Edits.{compact, on_boxes, range}
use Rattle.qgm_core.specs.Free.{reached}
use Rattle.qgm_core.specs.declared.kinds.QuantKind.TheVariants.{F}
use Rattle.qgm_core.specs.declared.kinds.Role.TheVariants.{Fed}
use Rattle.qgm_core.specs.declared.node.Node.{Node}
use Rattle.qgm_core.specs.declared.owned.OwnedQuant.{OwnedQuant}
use Rattle.qgm_edit_laws.specs.Adds.{onto}
use Rattle.qgm_meaning.specs.Scope.{put_node}
use Rattle.qgm_meaning.specs.Tags.{columns_from}
use Rattle.qgm_props.specs.Calm.{is_closed}
use Rattle.rule_plan.specs.declared.classes.Class.TheVariants.{Magic}
use Rattle.rule_api.specs.declared.place.Place.{Place}
use Rattle.rule_api.specs.declared.rule_id.RuleId.{RuleId}
use Rattle.rule_api.specs.declared.rule_id.RuleId.TheVariants.{U2, G1, G2, G3, G4, G5}
use Rattle.rule_engine.specs.Control.{rules_of}
use Rattle.rule_feed.specs.Feed.{Numbers, fed_boxes, fed_node, new_fed, new_magic}
use Rattle.rule_feed.specs.FeedActs.{Feeds, after_split, fed_up, new_select, settled_node, settled_quant}
use Rattle.rule_magic.specs.AbsorbArms.{role_over}
use Rattle.rule_magic.specs.AbsorbGroup.{AbsorbsGroup, absorbed_group, absorbed_keyless}
use Rattle.rule_magic.specs.AbsorbOuterJoin.{AbsorbsOuter, absorbed_arms, absorbed_left, renamed_arms}
use Rattle.rule_magic.specs.AbsorbSelect.{AbsorbsSelect, absorbed_select}
use Rattle.rule_magic.specs.AbsorbSetOperation.{AbsorbsSet, absorbed_set, renamed_set, tagged_set}
use Rattle.rule_magic.specs.Boxes.{absorbed_box, arms_box, counted_box, joined_box, keyed_box, left_box, pair_box, set_box}
use Rattle.rule_magic.specs.Feeding.{inferred_facts}
use Rattle.rule_magic.specs.Region.{is_below}
use Rattle.rule_subquery.specs.ScalarToGroup.{GroupsScalar}
use Rattle.rule_subquery.specs.ScalarToGroupLaws.{single_box, singled}
use Rattle.rule_set.specs.Built.{built_act}
use Rattle.rule_calm.specs.Decorrelated.{MagicAddsFew}

filtered : {X : Type 0} (p : X → Bool) (xs : List X) → length (filter p xs) ≤ length xs
filtered p [] = omega arith
filtered p (x ∷ xs) =
    let i = filtered p xs in
    elim (p x) as (λ b. length (cond b (x ∷ filter p xs) (filter p xs)) ≤ suc (length xs)) [ true ↦ omega (arith, i) | false ↦ omega (arith, i) ]

-- two boxes of a list give way to n
in-place : {X : Type 0} (up l1 l2 new : List X) (d c : X) → length (up ++ (new ++ (l1 ++ l2))) + 2 ≡ length (up ++ d ∷ (l1 ++ c ∷ l2)) + length new
in-place up l1 l2 new d c =
    let a = length-append up (new ++ (l1 ++ l2)) in
    let b = length-append new (l1 ++ l2) in
    let e = length-append l1 l2 in
    let f = length-append up (d ∷ (l1 ++ c ∷ l2)) in
    let i = length-append l1 (c ∷ l2) in
    omega (arith, a, b, e, f, i)

-- h is k without what the root doesn't reach
grown : (g k h : QueryGraph) → h ≡ compact k → length k.boxes ≤ length g.boxes + 3 → length h.boxes ≤ length g.boxes + 3
grown g k h e l =
    let f = filtered (λ (b : Node). holds b.id (reached (k.root ∷ []) k.boxes)) k.boxes in
    let s : length h.boxes ≡ length (compact k).boxes = ap (λ (x : QueryGraph). length x.boxes) e in
    omega (arith, f, s, l)

-- in the place of two boxes stand these
replaced : (g k h : QueryGraph) (up l1 l2 new : List Node) (d c : Node) → length new ≤ 5 → g.boxes ≡ up ++ d ∷ (l1 ++ c ∷ l2) → length k.boxes ≡ length (up ++ (new ++ (l1 ++ l2))) → h ≡ compact k → length h.boxes ≤ length g.boxes + 3
replaced g k h up l1 l2 new d c l b is e =
    let x = in-place up l1 l2 new d c in
    let y : length g.boxes ≡ length (up ++ d ∷ (l1 ++ c ∷ l2)) = ap length b in
    grown g k h e (omega (arith, l, x, y, is))

scalar-few : (p : Place) (g h : QueryGraph) → GroupsScalar p g h → length h.boxes ≤ length g.boxes + 3
unfolding GroupsScalar
scalar-few p g h x =
    let b = x.0 in
    let r = x.1.1.0 in
    let a = x.1.1.1.1.1 in
    let s = single_box a.group a.quant a.c.id in
    let e = length-map (a.xs ++ s ∷ a.ys) (onto b.id r.id s.id) in
    let f = length-append a.xs (s ∷ a.ys) in
    let i = length-append a.xs a.ys in
    let y : length g.boxes ≡ length (a.xs ++ a.ys) = ap length a.parted in
    grown g (singled a.xs a.ys a.group a.quant b a.c r g) h a.after (omega (arith, e, f, i, y))

fed-many : (xs ys : List Node) (b s c : Node) (p i : OwnedQuant) (x : Numbers) → length (fed_boxes xs ys b s c p i x) ≡ length xs + length ys + 2
fed-many xs ys b s c p i x =
    let f = fed_node (xs ++ ys) b s c p i x in
    let l = length-map xs f in
    let m = length-map ys f in
    let a = length-append (map f xs) (new_fed (xs ++ ys) b s c p i x ∷ (new_magic (xs ++ ys) b s c p i x ∷ map f ys)) in
    omega (arith, l, m, a)

feed-few : (p : Place) (g h : QueryGraph) → Feeds p g h → length h.boxes ≤ length g.boxes + 3
unfolding Feeds
feed-few p g h x =
    let us = x.1.0 in
    let r = x.1.1.0 in
    let vs = x.1.1.1.0 in
    let a = x.1.1.1.1 in
    let b = settled_node us r vs x.0 in
    let f : Node → Node = after_split g.boxes b r.over a.q a.s in
    let n : Node = new_select g.boxes b r.over a.q a.s in
    let up = map f (a.above ++ b ∷ []) in
    let low = n ∷ map f a.below in
    let many = fed-many up low (f b) n (f a.c) (range a.q F a.s) (settled_quant r) a.x in
    let l = length-map (a.above ++ b ∷ []) f in
    let m = length-map a.below f in
    let i = length-append a.above (b ∷ []) in
    let j = length-append a.above (x.0 ∷ a.below) in
    let y : length g.boxes ≡ length (a.above ++ x.0 ∷ a.below) = ap length a.stands in
    grown g (on_boxes (λ bs. fed_up g.boxes b r.over a.q a.s a.above a.below a.c (settled_quant r) a.x) g) h a.after (omega (arith, many, l, m, i, j, y))

select-few : (p : Place) (g h : QueryGraph) → AbsorbsSelect p g h → length h.boxes ≤ length g.boxes + 3
unfolding AbsorbsSelect
select-few p g h x =
    let a = x.1 in
    let m = a.may.ready in
    replaced g (absorbed_select g (inferred_facts g.boxes) x.0 m a.up a.l1 a.l2) h a.up a.l1 a.l2 (absorbed_box x.0.id m.a (width m.m) m.c ∷ []) x.0 m.c (omega arith) a.before refl a.after

group-few : (p : Place) (g h : QueryGraph) → AbsorbsGroup p g h → length h.boxes ≤ length g.boxes + 3
unfolding AbsorbsGroup
group-few p g h x = elim x.1 [
  | inl a ↦ (
      let m = a.may.ready in
      let k = absorbed_group g (inferred_facts g.boxes) x.0 m a.k a.q a.x a.up a.l1 a.l2 in
      replaced g k h a.up a.l1 a.l2 (keyed_box x.0.id (width m.m + suc a.k) a.q.id m.r.id (width m.m) (width a.x) m.c.parts.head m.c.id ∷ (pair_box m.c.id Fed m.a.id m.m.id (width m.m) a.q.id a.x.id (width a.x) ∷ [])) x.0 m.c (omega arith) a.before refl a.after)
  | inr a ↦ (
      let m = a.may.ready in
      let k = absorbed_keyless g (inferred_facts g.boxes) x.0 m a.q a.x a.o a.n a.om a.oc a.t a.up a.l1 a.l2 in
      replaced g k h a.up a.l1 a.l2
      (counted_box x.0.id m.r.id (width m.m) m.c.parts.head a.o ∷ (joined_box a.o a.om m.m.id a.oc a.n (width m.m) (length m.c.parts.head) ∷ (keyed_box a.n (width m.m) a.q.id a.t (width m.m) (width a.x) m.c.parts.head m.c.id ∷ (pair_box m.c.id Fed m.a.id m.m.id (width m.m) a.q.id a.x.id (width a.x) ∷ []))))
      x.0 m.c (omega arith) a.before refl a.after)
]

set-few : (p : Place) (g h : QueryGraph) → AbsorbsSet p g h → length h.boxes ≤ length g.boxes + 3
unfolding AbsorbsSet
set-few p g h x =
    let d = x.0 in
    let a = x.1 in
    let m = a.may.ready in
    let known = inferred_facts g.boxes in
    let left = role_over g.boxes a.x.id in
    let right = role_over g.boxes a.y.id in
    let new : List Node = set_box d.id a.may.form a.mt m.r.id m.c.id a.u a.s ∷ (pair_box a.s right a.t m.m.id (width m.m) a.r.id a.y.id (width a.y) ∷ (pair_box m.c.id left m.a.id m.m.id (width m.m) a.l.id a.x.id (width a.x) ∷ [])) in
    let shut = absorbed_set g known d m a.may.form a.mt a.l a.r a.x a.y a.s a.u a.t left right a.up a.l1 a.l2 in
    let renamed = renamed_set g known d m a.may.form a.mt a.l a.r a.x a.y a.s a.u a.t left right a.up a.l1 a.l2 in
    let many = λ (v : Bool). length (cond v shut renamed).boxes ≡ length (a.up ++ (new ++ (a.l1 ++ a.l2))) in
    let same = length-map shut.boxes (λ (n : Node). cond (is_below g.boxes a.r.over n.id) (put_node m.a.id (columns_from a.t 1 (width m.m)) n) n) in
    replaced g (tagged_set g known d m a.may.form a.mt a.l a.r a.x a.y a.s a.u a.t a.up a.l1 a.l2) h a.up a.l1 a.l2 new d m.c (omega arith) a.before
    (elim (is_closed g.boxes a.y.id) as many [ true ↦ refl | false ↦ same ]) a.after

outer-few : (p : Place) (g h : QueryGraph) → AbsorbsOuter p g h → length h.boxes ≤ length g.boxes + 3
unfolding AbsorbsOuter
outer-few p g h x = elim x.1 [
  | inl a ↦ (
      let d = x.0 in
      let m = a.may.ready in
      let known = inferred_facts g.boxes in
      let left = role_over g.boxes a.x.id in
      let new : List Node = left_box d.id m.a.id a.l.id (width m.m) (width a.x) m.c (range a.l.id F m.c.id ∷ (range a.r.id F a.y.id ∷ [])) ∷ (pair_box m.c.id left m.a.id m.m.id (width m.m) m.r.id a.x.id (width a.x) ∷ []) in
      replaced g (absorbed_left g known d m a.l a.r a.x a.y left a.up a.l1 a.l2) h a.up a.l1 a.l2 new d m.c (omega arith) a.before refl a.after)
  | inr a ↦ (
      let d = x.0 in
      let m = a.may.ready in
      let known = inferred_facts g.boxes in
      let left = role_over g.boxes a.x.id in
      let right = role_over g.boxes a.y.id in
      let new : List Node = arms_box d.id m.a.id a.l.id (width m.m) (width a.x) a.r.id (width a.y) m.c (range a.l.id F m.c.id ∷ (range a.r.id F a.s ∷ [])) ∷ (pair_box a.s right a.t m.m.id (width m.m) a.u a.y.id (width a.y) ∷ (pair_box m.c.id left m.a.id m.m.id (width m.m) m.r.id a.x.id (width a.x) ∷ [])) in
      let made = absorbed_arms g known d m a.l a.r a.x a.y a.s a.u a.t left right a.up a.l1 a.l2 in
      let renamed = length-map made.boxes (λ (n : Node). cond (is_below g.boxes a.r.over n.id) (put_node m.a.id (columns_from a.t 1 (width m.m)) n) n) in
      replaced g (renamed_arms g known d m a.l a.r a.x a.y a.s a.u a.t left right a.up a.l1 a.l2) h a.up a.l1 a.l2 new d m.c (omega arith) a.before renamed a.after)
]

of-magic : (r : RuleId) → In r (rules_of Magic) → In r (U2 ∷ (G1 ∷ (G2 ∷ (G3 ∷ (G4 ∷ (G5 ∷ []))))))
unfolding rules_of
of-magic r i = i

-- what holds of each of the six rules holds of each rule of class magic
pub each-magic : (claim : RuleId → Type 0) → claim U2 → claim G1 → claim G2 → claim G3 → claim G4 → claim G5 → (r : RuleId) → In r (rules_of Magic) → claim r
each-magic claim u2 g1 g2 g3 g4 g5 r i = elim (of-magic r i) [
  | inl e ↦ subst claim e u2
  | inr j ↦ elim j [
    | inl e ↦ subst claim e g1
    | inr j ↦ elim j [
      | inl e ↦ subst claim e g2
      | inr j ↦ elim j [
        | inl e ↦ subst claim e g3
        | inr j ↦ elim j [
          | inl e ↦ subst claim e g4
          | inr j ↦ elim j [
            | inl e ↦ subst claim e g5
            | inr n ↦ elim n [ ]
          ]
        ]
      ]
    ]
  ]
]

pub magic-adds-few : MagicAddsFew
magic-adds-few = each-magic (λ (r : RuleId). (p : Place) (g h : QueryGraph) → built_act r p g h → length h.boxes ≤ length g.boxes + 3) scalar-few feed-few select-few group-few set-few outer-few
