-- A step leaves few boxes where there were few.
use Rattle.std.proofs.Common.{ℕ, suc, ◌≡◌, ◌≤◌, ◌+◌, ◌-◌, Bool, true, false, cond, List, [], ◌∷◌, ◌++◌, length, map, filter, refl, sym, ◌∙◌, ap, subst, Some, None, inl, inr, arith}
use Rattle.std.proofs.lemmas.List.{length-append, length-map}
use Rattle.list_laws.specs.Lists.{change, each, holds, without}
use Rattle.qgm_core.specs.Boxes.{QueryGraph, box_of, is_box, width}
use Rattle.qgm_core.specs.Edits.{compact, drop_column, on_box, on_boxes, quants_over, range, set_distinct, shift_boxes, shift_node, with_distinct, without_cell}
use Rattle.qgm_core.specs.Free.{reached}
use Rattle.qgm_core.specs.declared.kinds.BoxKind.{BoxKind}
use Rattle.qgm_core.specs.declared.kinds.Distinct.TheVariants.{Permit, Preserve}
use Rattle.qgm_core.specs.declared.kinds.QuantKind.TheVariants.{F}
use Rattle.qgm_core.specs.declared.kinds.Role.TheVariants.{Fed}
use Rattle.qgm_core.specs.declared.node.Node.{Node}
use Rattle.qgm_core.specs.declared.owned.OwnedQuant.{OwnedQuant}
use Rattle.qgm_edit_laws.specs.Adds.{at, onto}
use Rattle.qgm_edit_laws.specs.Conditioned.{conditioned}
use Rattle.qgm_edit_laws.specs.ConjunctEdits.{more}
use Rattle.qgm_edit_laws.specs.DropQuants.{with_those}
use Rattle.qgm_edit_laws.specs.PermitToPreserve.{permit_found, permit_to_preserve}
use Rattle.qgm_edit_laws.specs.Ranges.{moved}
use Rattle.qgm_meaning.specs.Scope.{put_node}
use Rattle.qgm_meaning.specs.Tags.{columns_from}
use Rattle.qgm_props.specs.Calm.{is_closed}
use Rattle.qgm_terms.specs.Substitution.{substituted_cond}
use Rattle.qgm_terms.specs.Terms.{col, compare, equal}
use Rattle.rule_api.specs.declared.place.Place.{Place}
use Rattle.rule_api.specs.declared.rule_id.RuleId.TheVariants.{M1, M2, U1, U2, U3, U4, L1, L2, L3, P1, P2, P3, P4, J1, J2, N1, N2, G1, G2, G3, G4, G5}
use Rattle.rule_distinct.specs.PermitDistinct.{PermitsDistinct}
use Rattle.rule_distinct.specs.PlainAt.{DropsDistinct}
use Rattle.rule_feed.specs.Feed.{Numbers, fed_boxes, fed_node, new_fed, new_magic}
use Rattle.rule_feed.specs.FeedActs.{Feeds, after_split, fed_up, new_select, settled_node, settled_quant}
use Rattle.rule_magic.specs.AbsorbArms.{role_over}
use Rattle.rule_magic.specs.AbsorbGroup.{AbsorbsGroup, absorbed_group, absorbed_keyless}
use Rattle.rule_magic.specs.AbsorbOuterJoin.{AbsorbsOuter, absorbed_arms, absorbed_left, renamed_arms}
use Rattle.rule_magic.specs.AbsorbSelect.{AbsorbsSelect, absorbed_select}
use Rattle.rule_magic.specs.AbsorbSetOperation.{AbsorbsSet, absorbed_set, renamed_set, tagged_set}
use Rattle.rule_magic.specs.Boxes.{absorbed_box, arms_box, counted_box, joined_box, keyed_box, left_box, pair_box, set_box}
use Rattle.rule_magic.specs.Feeding.{inferred_facts}
use Rattle.rule_magic.specs.Places.{AbsorbsBy, AreFew}
use Rattle.rule_magic.specs.Region.{is_below}
use Rattle.rule_merge.specs.DropCopy.{DropsCopy}
use Rattle.rule_merge.specs.MergeSelect.{MergesSelect}
use Rattle.rule_merge.specs.Merged.{merge_node}
use Rattle.rule_prune.specs.DropColumn.{DropsColumn, stays}
use Rattle.rule_prune.specs.DropQuantifier.{DropsQuantifier, others}
use Rattle.rule_push.specs.PushIntoArms.{ActsPushIntoArms}
use Rattle.rule_push.specs.PushIntoLeft.{ActsPushIntoLeft}
use Rattle.rule_push.specs.PushIntoSelect.{ActsPushIntoSelect}
use Rattle.rule_push.specs.PushThroughGroup.{ActsPushThroughGroup}
use Rattle.rule_subquery.specs.ExistsToJoin as exists
use Rattle.rule_subquery.specs.ExistsToJoin.{JoinsExists}
use Rattle.rule_subquery.specs.ScalarToGroup.{GroupsScalar}
use Rattle.rule_subquery.specs.ScalarToGroupLaws.{single_box, singled}
use Rattle.rule_subquery.specs.ScalarToJoin.{JoinsScalar, column_box}
use Rattle.rule_subquery.specs.SetToExists as sets
use Rattle.rule_subquery.specs.SetToExists.{SelectsSet}
use Rattle.rule_trans.specs.EqualColumns.{AddsEqualColumns}
use Rattle.rule_trans.specs.EqualLiteral.{AddsEqualLiteral}
use Rattle.rule_set.specs.BoxLimit.{FiringsKeepLimit, IsUnderLimit, StepsKeepLimit}

-- ---- lists

filtered : {X : Type 0} (p : X → Bool) (xs : List X) → length (filter p xs) ≤ length xs
filtered p [] = omega arith
filtered p (x ∷ xs) =
    let i = filtered p xs in
    elim (p x) as (λ b. length (cond b (x ∷ filter p xs) (filter p xs)) ≤ suc (length xs)) [ true ↦ omega (arith, i) | false ↦ omega (arith, i) ]

left-out : {X : Type 0} (p : X → Bool) (xs : List X) → length (without p xs) ≤ length xs
left-out p [] = omega arith
left-out p (x ∷ xs) =
    let i = left-out p xs in
    elim (p x) as (λ b. length (cond b xs (x ∷ without p xs)) ≤ suc (length xs)) [ true ↦ omega arith | false ↦ omega (arith, i) ]

changed : {X : Type 0} (p : X → Bool) (f : X → X) (xs : List X) → length (change p f xs) ≡ length xs
changed p f [] = omega arith
changed p f (x ∷ xs) =
    let i = changed p f xs in
    elim (p x) as (λ b. length (cond b (f x ∷ xs) (x ∷ change p f xs)) ≡ suc (length xs)) [ true ↦ omega arith | false ↦ omega (arith, i) ]

-- ---- edits

-- h is k without what the root doesn't reach, and k has at most n boxes
compacted : (h k : QueryGraph) (n : ℕ) → h ≡ compact k → length k.boxes ≤ n → length h.boxes ≤ n
compacted h k n e l =
    let f = filtered (λ (b : Node). holds b.id (reached (k.root ∷ []) k.boxes)) k.boxes in
    let s : length h.boxes ≡ length (compact k).boxes = ap (λ (x : QueryGraph). length x.boxes) e in
    omega (arith, f, s, l)

-- so it is where boxes are changed each
mapped : (h g : QueryGraph) (f : Node → Node) → h ≡ compact (on_boxes (map f) g) → length h.boxes ≤ length g.boxes
mapped h g f e = let l = length-map g.boxes f in compacted h (on_boxes (map f) g) (length g.boxes) e (omega (arith, l))

twice : (h g : QueryGraph) (f f' : Node → Node) → h ≡ compact (on_boxes (map f) (on_boxes (map f') g)) → length h.boxes ≤ length g.boxes
twice h g f f' e =
    let l = length-map g.boxes f' in
    let m = mapped h (on_boxes (map f') g) f e in
    omega (arith, l, m)

thrice : (h g : QueryGraph) (f f' f'' : Node → Node) → h ≡ compact (on_boxes (map f) (on_boxes (map f') (on_boxes (map f'') g))) → length h.boxes ≤ length g.boxes
thrice h g f f' f'' e =
    let l = length-map g.boxes f'' in
    let m = twice h (on_boxes (map f'') g) f f' e in
    omega (arith, l, m)

-- or one box is
one-changed : (h g : QueryGraph) (b : ℕ) (f : Node → Node) → h ≡ compact (on_box b f g) → length h.boxes ≤ length g.boxes
one-changed h g b f e = let l = changed (is_box b) f g.boxes in compacted h (on_box b f g) (length g.boxes) e (omega (arith, l))

permitted : (b : ℕ) (g : QueryGraph) → length (permit_to_preserve b g).boxes ≡ length g.boxes
permitted b g =
    let i = changed (is_box b) (with_distinct Preserve) g.boxes in
    elim (permit_found (box_of b g)) as (λ (v : Bool). length (cond v (set_distinct b Preserve g) g).boxes ≡ length g.boxes) [ true ↦ i | false ↦ omega arith ]

shifted : (k : ℕ) (qs : List ℕ) (bs : List Node) → length (each (shift_boxes k) qs bs) ≡ length bs
shifted k [] bs = omega arith
shifted k (q ∷ qs) bs =
    let i = shifted k qs (shift_boxes k q bs) in
    let l : length (shift_boxes k q bs) ≡ length bs = length-map bs (shift_node k q) in
    i ∙ l

column-dropped : (b k : ℕ) (g : QueryGraph) → length (drop_column b k g).boxes ≡ length g.boxes
column-dropped b k g =
    let bs = change (is_box b) (without_cell (k - 1)) g.boxes in
    shifted k (quants_over b bs) bs ∙ changed (is_box b) (without_cell (k - 1)) g.boxes

-- ---- rules that add no box

merge-select-few : (p : Place) (g h : QueryGraph) → MergesSelect p g h → length h.boxes ≤ length g.boxes
unfolding MergesSelect
merge-select-few p g h a =
    let b = a.0 in
    let c = a.1.0 in
    let us = a.1.1.0 in
    let r = a.1.1.1.0 in
    let vs = a.1.1.1.1.0 in
    let f : Node → Node = merge_node b.id r.id c (us ++ (c.quants ++ vs)) in
    let l = length-map (without (is_box c.id) g.boxes) f in
    let o = left-out (is_box c.id) g.boxes in
    compacted h (on_boxes (λ bs. map f (without (is_box c.id) bs)) g) (length g.boxes) a.1.1.1.1.1.after (omega (arith, l, o))

drop-copy-few : (p : Place) (g h : QueryGraph) → DropsCopy p g h → length h.boxes ≤ length g.boxes
unfolding DropsCopy
drop-copy-few p g h a = mapped h g (moved p.at a.1.0.over) a.1.1.after

exists-few : (p : Place) (g h : QueryGraph) → JoinsExists p g h → length h.boxes ≤ length g.boxes
unfolding JoinsExists
exists-few p g h a =
    let b = a.0 in
    let r = a.1.1.0 in
    let e = permitted r.over g in
    let l = one-changed h (permit_to_preserve r.over g) b.id (exists.joined_box a.1.1.1.1.1.1.1.0 a.1.0 r a.1.1.1.0 a.1.1.1.1.0 a.1.1.1.1.1.0 a.1.1.1.1.1.1.0) a.1.1.1.1.1.1.1.1.1 in
    omega (arith, e, l)

scalar-few : (p : Place) (g h : QueryGraph) → JoinsScalar p g h → length h.boxes ≤ length g.boxes
unfolding JoinsScalar
scalar-few p g h a = one-changed h g a.0.id (column_box a.1.0 a.1.1.0 a.1.1.1.0) a.1.1.1.1.1

set-few : (p : Place) (g h : QueryGraph) → SelectsSet p g h → length h.boxes ≤ length g.boxes
unfolding SelectsSet
set-few p g h a = one-changed h g a.0.id (sets.set_box a.1.0 a.1.1.1.0 a.1.1.1.1.0 (length a.1.1.0)) a.1.1.1.1.1.1

distinct-few : (p : Place) (g h : QueryGraph) → DropsDistinct p g h → length h.boxes ≤ length g.boxes
unfolding DropsDistinct
distinct-few p g h a = one-changed h g a.0.id (with_distinct Preserve) a.1.1

permit-few : (p : Place) (g h : QueryGraph) → PermitsDistinct p g h → length h.boxes ≤ length g.boxes
unfolding PermitsDistinct
permit-few p g h a = one-changed h g a.0.id (with_distinct Permit) a.1.1

into-select-few : (p : Place) (g h : QueryGraph) → ActsPushIntoSelect p g h → length h.boxes ≤ length g.boxes
unfolding ActsPushIntoSelect
into-select-few p g h a = twice h g (at a.may.b.id (conditioned (a.may.ps ++ a.may.qs))) (at a.may.c.id (more (substituted_cond a.may.r.id a.may.c.parts.head a.may.p))) a.after

through-group-few : (p : Place) (g h : QueryGraph) → ActsPushThroughGroup p g h → length h.boxes ≤ length g.boxes
unfolding ActsPushThroughGroup
through-group-few p g h a =
    let m = a.given.may in
    twice h g (at m.b.id (conditioned (m.ps ++ m.qs))) (at m.fits.n.id (more (substituted_cond m.fits.s.id m.fits.n.parts.head (substituted_cond m.r.id m.c.parts.head m.p)))) a.after

into-arms-few : (p : Place) (g h : QueryGraph) → ActsPushIntoArms p g h → length h.boxes ≤ length g.boxes
unfolding ActsPushIntoArms
into-arms-few p g h a =
    let m = a.given.may in
    thrice h g (at m.b.id (conditioned (m.ps ++ m.qs))) (at m.fits.m.id (more (substituted_cond m.r.id m.fits.m.parts.head m.p))) (at m.fits.n.id (more (substituted_cond m.r.id m.fits.n.parts.head m.p))) a.after

into-left-few : (p : Place) (g h : QueryGraph) → ActsPushIntoLeft p g h → length h.boxes ≤ length g.boxes
unfolding ActsPushIntoLeft
into-left-few p g h a =
    let m = a.may in
    twice h g (at m.b.id (conditioned (m.ps ++ m.qs))) (at m.fits.n.id (more (substituted_cond m.fits.s.id m.fits.n.parts.head (substituted_cond m.r.id m.c.parts.head m.p)))) a.after

columns-few : (p : Place) (g h : QueryGraph) → AddsEqualColumns p g h → length h.boxes ≤ length g.boxes
columns-few p g h a = mapped h g (at a.may.n.id (more (compare equal (col a.may.p a.may.j) (col a.may.s a.may.l)))) a.after

literal-few : (p : Place) (g h : QueryGraph) → AddsEqualLiteral p g h → length h.boxes ≤ length g.boxes
literal-few p g h a = mapped h g (at a.may.n.id (more (compare equal (col a.may.p a.may.j) a.may.z))) a.after

drop-column-few : (p : Place) (g h : QueryGraph) → DropsColumn p g h → length h.boxes ≤ length g.boxes
drop-column-few p g h a =
    let e = column-dropped a.may.b.id p.i g in
    let l = mapped h (drop_column a.may.b.id p.i g) (at a.may.left.id (with_those (stays a.may.left))) a.after in
    omega (arith, e, l)

drop-quantifier-few : (p : Place) (g h : QueryGraph) → DropsQuantifier p g h → length h.boxes ≤ length g.boxes
drop-quantifier-few p g h a = mapped h g (at a.may.b.id (with_those (others a.may.r.id))) a.after

-- ---- rules that add some: there are at most 65,530 then

-- two boxes of a list give way to n
in-place : {X : Type 0} (up l1 l2 new : List X) (d c : X) → length (up ++ (new ++ (l1 ++ l2))) + 2 ≡ length (up ++ d ∷ (l1 ++ c ∷ l2)) + length new
in-place up l1 l2 new d c =
    let a = length-append up (new ++ (l1 ++ l2)) in
    let b = length-append new (l1 ++ l2) in
    let e = length-append l1 l2 in
    let f = length-append up (d ∷ (l1 ++ c ∷ l2)) in
    let i = length-append l1 (c ∷ l2) in
    omega (arith, a, b, e, f, i)

-- so many boxes more
grown : (g k h : QueryGraph) (n : ℕ) → n ≤ 5 → AreFew g.boxes → h ≡ compact k → length k.boxes ≤ n + length g.boxes → IsUnderLimit h
grown g k h n l few e m = let x = compacted h k (n + length g.boxes) e m in omega (arith, l, few, x)

-- in the place of two boxes stand these
replaced : (g k h : QueryGraph) (up l1 l2 new : List Node) (d c : Node) → length new ≤ 5 → AreFew g.boxes → g.boxes ≡ up ++ d ∷ (l1 ++ c ∷ l2) → length k.boxes ≡ length (up ++ (new ++ (l1 ++ l2))) → h ≡ compact k → IsUnderLimit h
replaced g k h up l1 l2 new d c l few b is e =
    let x = in-place up l1 l2 new d c in
    let y : length g.boxes ≡ length (up ++ d ∷ (l1 ++ c ∷ l2)) = ap length b in
    grown g k h (length new) l few e (omega (arith, x, y, is))

group-few : (p : Place) (g h : QueryGraph) → GroupsScalar p g h → IsUnderLimit h
unfolding GroupsScalar
group-few p g h x =
    let b = x.0 in
    let r = x.1.1.0 in
    let m = x.1.1.1.1.0 in
    let a = x.1.1.1.1.1 in
    let s = single_box a.group a.quant a.c.id in
    let e = length-map (a.xs ++ s ∷ a.ys) (onto b.id r.id s.id) in
    let f = length-append a.xs (s ∷ a.ys) in
    let i = length-append a.xs a.ys in
    let y : length g.boxes ≡ length (a.xs ++ a.ys) = ap length a.parted in
    grown g (singled a.xs a.ys a.group a.quant b a.c r g) h 1 (omega arith) m.few a.after (omega (arith, e, f, i, y))

fed-many : (xs ys : List Node) (b s c : Node) (p i : OwnedQuant) (x : Numbers) → length (fed_boxes xs ys b s c p i x) ≡ length xs + length ys + 2
fed-many xs ys b s c p i x =
    let f = fed_node (xs ++ ys) b s c p i x in
    let l = length-map xs f in
    let m = length-map ys f in
    let a = length-append (map f xs) (new_fed (xs ++ ys) b s c p i x ∷ (new_magic (xs ++ ys) b s c p i x ∷ map f ys)) in
    omega (arith, l, m, a)

feed-few : (p : Place) (g h : QueryGraph) → Feeds p g h → IsUnderLimit h
unfolding Feeds
feed-few p g h x =
    let us = x.1.0 in
    let r = x.1.1.0 in
    let vs = x.1.1.1.0 in
    let a = x.1.1.1.1 in
    let b = settled_node us r vs x.0 in
    let f : Node → Node = after_split g.boxes b r.over a.q a.s in
    let n : Node = new_select g.boxes b r.over a.q a.s in
    let up = map f (a.above ++ b ∷ []) in
    let low = n ∷ map f a.below in
    let many = fed-many up low (f b) n (f a.c) (range a.q F a.s) (settled_quant r) a.x in
    let l = length-map (a.above ++ b ∷ []) f in
    let m = length-map a.below f in
    let i = length-append a.above (b ∷ []) in
    let j = length-append a.above (x.0 ∷ a.below) in
    let y : length g.boxes ≡ length (a.above ++ x.0 ∷ a.below) = ap length a.stands in
    grown g (on_boxes (λ bs. fed_up g.boxes b r.over a.q a.s a.above a.below a.c (settled_quant r) a.x) g) h 3 (omega arith) a.may.few a.after (omega (arith, many, l, m, i, j, y))

select-few : (p : Place) (g h : QueryGraph) → AbsorbsSelect p g h → IsUnderLimit g → IsUnderLimit h
unfolding AbsorbsSelect
select-few p g h x under =
    let a = x.1 in
    let m = a.may.ready in
    let n = absorbed_box x.0.id m.a (width m.m) m.c in
    let e = in-place a.up a.l1 a.l2 (n ∷ []) x.0 m.c in
    let y : length g.boxes ≡ length (a.up ++ x.0 ∷ (a.l1 ++ m.c ∷ a.l2)) = ap length a.before in
    let l = compacted h (absorbed_select g (inferred_facts g.boxes) x.0 m a.up a.l1 a.l2) (length g.boxes) a.after (omega (arith, e, y)) in
    omega (arith, l, under)

group-absorbed-few : (p : Place) (g h : QueryGraph) → AbsorbsGroup p g h → IsUnderLimit h
unfolding AbsorbsGroup
group-absorbed-few p g h x = elim x.1 [
  | inl a ↦ (
      let m = a.may.ready in
      let few = (subst (λ (k : BoxKind). AbsorbsBy g.boxes (inferred_facts g.boxes) k m.c) a.may.a_group m.absorbs).1 in
      let k = absorbed_group g (inferred_facts g.boxes) x.0 m a.k a.q a.x a.up a.l1 a.l2 in
      replaced g k h a.up a.l1 a.l2 (keyed_box x.0.id (width m.m + suc a.k) a.q.id m.r.id (width m.m) (width a.x) m.c.parts.head m.c.id ∷ (pair_box m.c.id Fed m.a.id m.m.id (width m.m) a.q.id a.x.id (width a.x) ∷ [])) x.0 m.c (omega arith) few a.before refl a.after)
  | inr a ↦ (
      let m = a.may.ready in
      let few = (subst (λ (k : BoxKind). AbsorbsBy g.boxes (inferred_facts g.boxes) k m.c) a.may.a_group m.absorbs).1 in
      let k = absorbed_keyless g (inferred_facts g.boxes) x.0 m a.q a.x a.o a.n a.om a.oc a.t a.up a.l1 a.l2 in
      replaced g k h a.up a.l1 a.l2
      (counted_box x.0.id m.r.id (width m.m) m.c.parts.head a.o ∷ (joined_box a.o a.om m.m.id a.oc a.n (width m.m) (length m.c.parts.head) ∷ (keyed_box a.n (width m.m) a.q.id a.t (width m.m) (width a.x) m.c.parts.head m.c.id ∷ (pair_box m.c.id Fed m.a.id m.m.id (width m.m) a.q.id a.x.id (width a.x) ∷ []))))
      x.0 m.c (omega arith) few a.before refl a.after)
]

set-absorbed-few : (p : Place) (g h : QueryGraph) → AbsorbsSet p g h → IsUnderLimit h
unfolding AbsorbsSet
set-absorbed-few p g h x =
    let d = x.0 in
    let a = x.1 in
    let m = a.may.ready in
    let known = inferred_facts g.boxes in
    let left = role_over g.boxes a.x.id in
    let right = role_over g.boxes a.y.id in
    let few = (subst (λ (k : BoxKind). AbsorbsBy g.boxes known k m.c) a.may.a_set m.absorbs).1 in
    let new : List Node = set_box d.id a.may.form a.mt m.r.id m.c.id a.u a.s ∷ (pair_box a.s right a.t m.m.id (width m.m) a.r.id a.y.id (width a.y) ∷ (pair_box m.c.id left m.a.id m.m.id (width m.m) a.l.id a.x.id (width a.x) ∷ [])) in
    let shut = absorbed_set g known d m a.may.form a.mt a.l a.r a.x a.y a.s a.u a.t left right a.up a.l1 a.l2 in
    let renamed = renamed_set g known d m a.may.form a.mt a.l a.r a.x a.y a.s a.u a.t left right a.up a.l1 a.l2 in
    let many = λ (v : Bool). length (cond v shut renamed).boxes ≡ length (a.up ++ (new ++ (a.l1 ++ a.l2))) in
    let same = length-map shut.boxes (λ (n : Node). cond (is_below g.boxes a.r.over n.id) (put_node m.a.id (columns_from a.t 1 (width m.m)) n) n) in
    replaced g (tagged_set g known d m a.may.form a.mt a.l a.r a.x a.y a.s a.u a.t a.up a.l1 a.l2) h a.up a.l1 a.l2 new d m.c (omega arith) few a.before
    (elim (is_closed g.boxes a.y.id) as many [ true ↦ refl | false ↦ same ]) a.after

outer-few : (p : Place) (g h : QueryGraph) → AbsorbsOuter p g h → IsUnderLimit h
unfolding AbsorbsOuter
outer-few p g h x = elim x.1 [
  | inl a ↦ (
      let d = x.0 in
      let m = a.may.ready in
      let known = inferred_facts g.boxes in
      let left = role_over g.boxes a.x.id in
      let few = subst (λ (k : BoxKind). AbsorbsBy g.boxes known k m.c) a.may.an_outer m.absorbs in
      let new : List Node = left_box d.id m.a.id a.l.id (width m.m) (width a.x) m.c (range a.l.id F m.c.id ∷ (range a.r.id F a.y.id ∷ [])) ∷ (pair_box m.c.id left m.a.id m.m.id (width m.m) m.r.id a.x.id (width a.x) ∷ []) in
      replaced g (absorbed_left g known d m a.l a.r a.x a.y left a.up a.l1 a.l2) h a.up a.l1 a.l2 new d m.c (omega arith) few a.before refl a.after)
  | inr a ↦ (
      let d = x.0 in
      let m = a.may.ready in
      let known = inferred_facts g.boxes in
      let left = role_over g.boxes a.x.id in
      let right = role_over g.boxes a.y.id in
      let few = subst (λ (k : BoxKind). AbsorbsBy g.boxes known k m.c) a.may.an_outer m.absorbs in
      let new : List Node = arms_box d.id m.a.id a.l.id (width m.m) (width a.x) a.r.id (width a.y) m.c (range a.l.id F m.c.id ∷ (range a.r.id F a.s ∷ [])) ∷ (pair_box a.s right a.t m.m.id (width m.m) a.u a.y.id (width a.y) ∷ (pair_box m.c.id left m.a.id m.m.id (width m.m) m.r.id a.x.id (width a.x) ∷ [])) in
      let made = absorbed_arms g known d m a.l a.r a.x a.y a.s a.u a.t left right a.up a.l1 a.l2 in
      let renamed = length-map made.boxes (λ (n : Node). cond (is_below g.boxes a.r.over n.id) (put_node m.a.id (columns_from a.t 1 (width m.m)) n) n) in
      replaced g (renamed_arms g known d m a.l a.r a.x a.y a.s a.u a.t left right a.up a.l1 a.l2) h a.up a.l1 a.l2 new d m.c (omega arith) few a.before renamed a.after)
]

-- ---- all rules

stays-below : (g h : QueryGraph) → length h.boxes ≤ length g.boxes → IsUnderLimit g → IsUnderLimit h
stays-below g h l under = omega (arith, l, under)

pub firings-keep-limit : FiringsKeepLimit
firings-keep-limit M1 p g h a under = stays-below g h (merge-select-few p g h a) under
firings-keep-limit M2 p g h a under = stays-below g h (drop-copy-few p g h a) under
firings-keep-limit U1 p g h a under = stays-below g h (exists-few p g h a) under
firings-keep-limit U2 p g h a under = group-few p g h a
firings-keep-limit U3 p g h a under = stays-below g h (scalar-few p g h a) under
firings-keep-limit U4 p g h a under = stays-below g h (set-few p g h a) under
firings-keep-limit L1 p g h a under = stays-below g h (distinct-few p g h a) under
firings-keep-limit L2 p g h a under = stays-below g h (permit-few p g h a) under
firings-keep-limit L3 p g h a under = stays-below g h (distinct-few p g h a) under
firings-keep-limit P1 p g h a under = stays-below g h (into-select-few p g h a) under
firings-keep-limit P2 p g h a under = stays-below g h (through-group-few p g h a) under
firings-keep-limit P3 p g h a under = stays-below g h (into-arms-few p g h a) under
firings-keep-limit P4 p g h a under = stays-below g h (into-left-few p g h a) under
firings-keep-limit J1 p g h a under = stays-below g h (columns-few p g h a) under
firings-keep-limit J2 p g h a under = stays-below g h (literal-few p g h a) under
firings-keep-limit N1 p g h a under = stays-below g h (drop-column-few p g h a) under
firings-keep-limit N2 p g h a under = stays-below g h (drop-quantifier-few p g h a) under
firings-keep-limit G1 p g h a under = feed-few p g h a
firings-keep-limit G2 p g h a under = select-few p g h a under
firings-keep-limit G3 p g h a under = group-absorbed-few p g h a
firings-keep-limit G4 p g h a under = set-absorbed-few p g h a
firings-keep-limit G5 p g h a under = outer-few p g h a

pub steps-keep-limit : StepsKeepLimit
steps-keep-limit plan k g None h s under = subst IsUnderLimit (sym s.0) under
steps-keep-limit plan k g (Some f) h s under = firings-keep-limit f.rule f.place g h s.0.acts under
