-- Boxes at one place of two graphs that differ in numbers alone: what is walked, named, typed and free there.
use Rattle.std.proofs.Common.{ℕ, zero, suc, ◌==◌, ◌-◌, ◌≡◌, ◌||◌, ◌&&◌, ◌++◌, Bool, true, false, cond, List, [], ◌∷◌, map, Some, None, refl, sym, ap, subst, ◌∙◌, eqb-true, inl, inr}
use Rattle.std.specs.Prelude.{slice_get}
use Rattle.std.specs.List.{flat_map, list_all}
use Rattle.std.proofs.lemmas.Bool.{cases_Bool}
use Rattle.list_laws.specs.Lists.{In, each, first, holds}
use Rattle.list_laws.proofs.Booleans.{clash, same-truth}
use Rattle.list_laws.proofs.Membership.{any-from, any-in, eq-itself, in-holds, map-in}
use Rattle.graph_print.specs.GraphText.{box_order, quant_order}
use Rattle.graph_alike.proofs.Along.{Along, along-append, along-holds, more, none, partner, partner-is, same-holds}
use Rattle.graph_alike.proofs.Back.{meets-back, one-back, same-back}
use Rattle.graph_alike.proofs.LikeText.{conds-names, heads-names, like-types}
use Rattle.qgm_core.specs.Boxes.{Ordered, QueryGraph, all_over, box_of, has_box, ids_of, is_box, is_quant, numbers, overs_of, owns, quants_in, quants_of}
use Rattle.qgm_core.specs.Free.{IsFree, free, Reaches, itself, named_by, through}
use Rattle.qgm_core.specs.Walk.{visit}
use Rattle.qgm_core.specs.declared.kinds.BoxKind.{BoxKind}
use Rattle.qgm_core.specs.declared.kinds.BoxKind.TheVariants.{Base, Select, Group, SetOp, OuterJoin}
use Rattle.qgm_core.specs.declared.node.Node.{Node}
use Rattle.qgm_core.specs.declared.owned.OwnedQuant.{OwnedQuant}
use Rattle.qgm_core.proofs.Reaching.{overs-held}
use Rattle.qgm_edit_laws.specs.Graph.{Sound}
use Rattle.qgm_edit_laws.specs.TypesBy.{Types, found_by, via}
use Rattle.qgm_edit_laws.proofs.Follow.{settled-types, types_at}
use Rattle.qgm_edit_laws.proofs.Formed.{under-is}
use Rattle.qgm_edit_laws.proofs.Ranks.{has-in}
use Rattle.qgm_edit_laws.proofs.Scope.{in-first}
use Rattle.qgm_edit_laws.proofs.TypesBy.{looked, looks-by}
use Rattle.qgm_terms.specs.Named.{names_in, names_in_cond}
use Rattle.qgm_terms.specs.Terms.{Term}
use Rattle.graph_alike.specs.Alike.{LikeBox, LikeHeads, LikeQuants, Meets, OwnedAt, SameButNumbers, Stands}
use Rattle.graph_alike.specs.Alike as k
use Rattle.graph_alike.specs.OneToOne.{AreOneToOne}
use Rattle.qgm_wellformed.specs.Columns.{box_under}
use Rattle.qgm_wellformed.proofs.Below.{free-free}
use Rattle.qgm_wellformed.proofs.Kept.{empty-none, none-empty}
use Rattle.qgm_wellformed.specs.WellFormed.{is_empty}
use Rattle.qgm_wellformed.specs.Types.{Lookup, joined_column, lookup_of, types_by}

owned-in : (i : ℕ) (o : OwnedQuant) (os : List OwnedQuant) → OwnedAt i o os → In o os
owned-in i o [] h = absurd h
owned-in zero o (p ∷ os) h = inl h
owned-in (suc i) o (p ∷ os) h = inr (owned-in i o os h)

in-owned : (o : OwnedQuant) (os : List OwnedQuant) → In o os → (i : ℕ) × OwnedAt i o os
in-owned o [] h = elim h [ ]
in-owned o (p ∷ os) h = elim h [ inl e ↦ (zero, e) | inr j ↦ (let x = in-owned o os j in (suc x.0, x.1)) ]

-- the quantifier at the same place of another list
other-at : (R : ℕ → ℕ → Type 0) (i : ℕ) (o : OwnedQuant) (os ps : List OwnedQuant) → LikeQuants R os ps → OwnedAt i o os → (p : OwnedQuant) × OwnedAt i p ps
other-at R i o [] ps h x = absurd x
other-at R i o (p ∷ os) [] h x = absurd h
other-at R zero o (p ∷ os) (r ∷ ps) h x = (r, refl)
other-at R (suc i) o (p ∷ os) (r ∷ ps) h x = other-at R i o os ps h.2 x

all-map : (ns : List Node) (rs : List OwnedQuant) → list_all (λ r. has_box ns r.over) rs ≡ list_all (has_box ns) (map (λ r. r.over) rs)
all-map ns [] = refl
all-map ns (r ∷ rs) = ap (λ z. has_box ns r.over && z) (all-map ns rs)

-- two well-formed graphs that differ in numbers alone
pub record Both (g h : QueryGraph) : Type 0 where
  pub same : SameButNumbers g h
  pub one : AreOneToOne g h
  pub first_sound : Sound g.boxes g.root
  pub second_sound : Sound h.boxes h.root

pub both-back : (g h : QueryGraph) → Both g h → Both h g
both-back g h w = record { same = same-back g h w.same w.one; one = one-back g h w.one; first_sound = w.second_sound; second_sound = w.first_sound }

module _ (g h : QueryGraph) (w : Both g h) where
  abbrev M : ℕ → ℕ → Type 0
  M = Meets g h

  abbrev S : ℕ → ℕ → Type 0
  S = Stands g h

  -- ---- boxes that are found

  pub record MetBoxes (a b : ℕ) : Type 0 where
    pub n : Node
    pub m : Node
    pub in_g : In n g.boxes
    pub in_h : In m h.boxes
    pub first_id : n.id ≡ a
    pub second_id : m.id ≡ b

  pub found : (a b : ℕ) → M a b → MetBoxes a b
  found _ _ k.roots =
      let x = has-in g.root g.boxes w.first_sound.rooted in
      let y = has-in h.root h.boxes w.second_sound.rooted in
      record { n = x.0; m = y.0; in_g = x.1.0; in_h = y.1.0; first_id = x.1.1; second_id = y.1.1 }
  found _ _ (k.under n m i o p c u v s t) =
      let x = has-in o.over g.boxes (overs-held g.boxes n o w.first_sound.ordered u (owned-in i o n.quants s)) in
      let y = has-in p.over h.boxes (overs-held h.boxes m p w.second_sound.ordered v (owned-in i p m.quants t)) in
      record { n = x.0; m = y.0; in_g = x.1.0; in_h = y.1.0; first_id = x.1.1; second_id = y.1.1 }

  module _ (a b : ℕ) (c : M a b) where
    abbrev f : MetBoxes a b
    f = found a b c

    pub met-ids : M f.n.id f.m.id
    met-ids = subst (λ z. M z f.m.id) (sym f.first_id) (subst (λ z. M a z) (sym f.second_id) c)

    pub met-like : LikeBox S f.n f.m
    met-like = w.same.alike f.n f.m f.in_g f.in_h met-ids

    pub first-at : box_of a g ≡ Some f.n
    first-at = ap (λ z. first (is_box z) g.boxes) (sym f.first_id) ∙ in-first f.n g.boxes w.first_sound.ordered f.in_g

    pub second-at : box_of b h ≡ Some f.m
    second-at = ap (λ z. first (is_box z) h.boxes) (sym f.second_id) ∙ in-first f.m h.boxes w.second_sound.ordered f.in_h

  -- ---- walks

  overs-meet : (os ps : List OwnedQuant) → LikeQuants S os ps → ((i : ℕ) (o p : OwnedQuant) → OwnedAt i o os → OwnedAt i p ps → M o.over p.over) → Along M (map (λ r. r.over) os) (map (λ r. r.over) ps)
  overs-meet [] [] l f = none
  overs-meet [] (p ∷ ps) l f = absurd l
  overs-meet (o ∷ os) [] l f = absurd l
  overs-meet (o ∷ os) (p ∷ ps) l f = more o.over p.over (map (λ r. r.over) os) (map (λ r. r.over) ps) (f zero o p refl refl) (overs-meet os ps l.2 (λ i u v x y. f (suc i) u v x y))

  pub overs-along : (n m : Node) → In n g.boxes → In m h.boxes → M n.id m.id → Along M (overs_of n) (overs_of m)
  overs-along n m i j c = overs-meet n.quants m.quants (w.same.alike n m i j c).quants (λ e o p x y. k.under n m e o p c i j x y)

  ids-along : (os ps : List OwnedQuant) → LikeQuants S os ps → Along S (map (λ r. r.id) os) (map (λ r. r.id) ps)
  ids-along [] [] l = none
  ids-along [] (p ∷ ps) l = absurd l
  ids-along (o ∷ os) [] l = absurd l
  ids-along (o ∷ os) (p ∷ ps) l = more o.id p.id (map (λ r. r.id) os) (map (λ r. r.id) ps) l.1 (ids-along os ps l.2)

  abbrev Visits : List Node → List Node → Type 0
  Visits ns ms = (a b : ℕ) (seen old : List ℕ) → M a b → has_box ns a ≡ true → has_box ms b ≡ true → Along M seen old → Along M (visit ns a seen) (visit ms b old)

  each-along : (ns ms : List Node) → Visits ns ms → (bs cs : List ℕ) → Along M bs cs → list_all (has_box ns) bs ≡ true → list_all (has_box ms) cs ≡ true → (seen old : List ℕ) → Along M seen old → Along M (each (visit ns) bs seen) (each (visit ms) cs old)
  each-along ns ms v [] [] none x y seen old l = l
  each-along ns ms v [] (c ∷ cs) r x y seen old l = elim r [ ]
  each-along ns ms v (b ∷ bs) [] r x y seen old l = elim r [ ]
  each-along ns ms v (b ∷ bs) (c ∷ cs) (more _ _ _ _ r t) x y seen old l =
      each-along ns ms v bs cs t (last (has_box ns b) (list_all (has_box ns) bs) x) (last (has_box ms c) (list_all (has_box ms) cs) y) (visit ns b seen) (visit ms c old)
      (v b c seen old r (start (has_box ns b) (list_all (has_box ns) bs) x) (start (has_box ms c) (list_all (has_box ms) cs) y) l)
    where
      start : (a b : Bool) → (a && b) ≡ true → a ≡ true
      start true b e = refl
      start false b e = absurd (cc e)

      last : (a b : Bool) → (a && b) ≡ true → b ≡ true
      last true b e = e
      last false b e = absurd (cc e)

  as-along : (xs us ys vs : List ℕ) → xs ≡ us → ys ≡ vs → Along M us vs → Along M xs ys
  as-along xs us ys vs e f l = subst (λ z. Along M z ys) (sym e) (subst (λ z. Along M us z) (sym f) l)

  abbrev pub Below : List Node → QueryGraph → Type 0
  Below ns j = (n : Node) → In n ns → In n j.boxes

  behind : (n : Node) (ns : List Node) (a : ℕ) → has_box (n ∷ ns) a ≡ true → (n.id == a) ≡ false → has_box ns a ≡ true
  behind n ns a x f = sym (ap (λ z. z || has_box ns a) f) ∙ x

  module _ (n : Node) (ns : List Node) (here : In n g.boxes) (over : all_over ns n.quants ≡ true) (rest : (ms : List Node) → Below ms h → Ordered ms → Visits ns ms) where
    visit-step : (ms : List Node) → Below ms h → Ordered ms → Visits (n ∷ ns) ms
    visit-step [] sub ord a b seen old c x y l = absurd (let z : ⊥ = cc in z)
    visit-step (m ∷ ms) sub ord a b seen old c x y l = elim (cases_Bool (n.id == a)) [
      | inr f ↦ as-along (visit (n ∷ ns) a seen) (visit ns a seen) (visit (m ∷ ms) b old) (visit (m ∷ ms) b old) (ap (λ z. cond z (cond (holds a seen) seen (each (visit ns) (overs_of n) (seen ++ a ∷ []))) (visit ns a seen)) f) refl
          (rest (m ∷ ms) sub ord a b seen old c (behind n ns a x f) y l)
      | inl t ↦ elim (cases_Bool (m.id == b)) [
        | inr f ↦ as-along (visit (n ∷ ns) a seen) (visit (n ∷ ns) a seen) (visit (m ∷ ms) b old) (visit ms b old) refl (ap (λ z. cond z (cond (holds b old) old (each (visit ms) (overs_of m) (old ++ b ∷ []))) (visit ms b old)) f)
            (visit-step ms (λ z i. sub z (inr i)) ord.2 a b seen old c x (behind m ms b y f) l)
        | inl u ↦ (
            let ids : M n.id m.id = subst (λ z. M z m.id) (sym (eqb-true n.id a t)) (subst (λ z. M a z) (sym (eqb-true m.id b u)) c) in
            let there : In m h.boxes = sub m (inl refl) in
            let e : holds a seen ≡ holds b old = same-holds M w.one.boxes seen old a b l c in
            let p = ap (λ z. cond z (cond (holds a seen) seen (each (visit ns) (overs_of n) (seen ++ a ∷ []))) (visit ns a seen)) t in
            let q = ap (λ z. cond z (cond (holds b old) old (each (visit ms) (overs_of m) (old ++ b ∷ []))) (visit ms b old)) u in
            elim (cases_Bool (holds a seen)) [
              | inl s ↦ as-along (visit (n ∷ ns) a seen) seen (visit (m ∷ ms) b old) old (p ∙ ap (λ z. cond z seen (each (visit ns) (overs_of n) (seen ++ a ∷ []))) s) (q ∙ ap (λ z. cond z old (each (visit ms) (overs_of m) (old ++ b ∷ []))) (sym e ∙ s)) l
              | inr s ↦ as-along (visit (n ∷ ns) a seen) (each (visit ns) (overs_of n) (seen ++ a ∷ [])) (visit (m ∷ ms) b old) (each (visit ms) (overs_of m) (old ++ b ∷ []))
                  (p ∙ ap (λ z. cond z seen (each (visit ns) (overs_of n) (seen ++ a ∷ []))) s) (q ∙ ap (λ z. cond z old (each (visit ms) (overs_of m) (old ++ b ∷ []))) (sym e ∙ s))
                  (each-along ns ms (rest ms (λ z i. sub z (inr i)) ord.2) (overs_of n) (overs_of m) (overs-along n m here there ids) (sym (all-map ns n.quants) ∙ over) (sym (all-map ms m.quants) ∙ ord.1) (seen ++ a ∷ []) (old ++ b ∷ [])
                  (along-append M seen old (a ∷ []) (b ∷ []) l (more a b [] [] c none)))
            ])
      ]
    ]

  visits : (ns : List Node) → Below ns g → Ordered ns → (ms : List Node) → Below ms h → Ordered ms → Visits ns ms
  visits [] sub ord ms low o = λ a b seen old c x y l. absurd (let z : ⊥ = cc in z)
  visits (n ∷ ns) sub ord ms low o = visit-step n ns (sub n (inl refl)) ord.1 (visits ns (λ z i. sub z (inr i)) ord.2) ms low o

  pub boxes-along : Along M (box_order g) (box_order h)
  boxes-along = visits g.boxes (λ z i. i) w.first_sound.ordered h.boxes (λ z i. i) w.second_sound.ordered g.root h.root [] [] k.roots w.first_sound.rooted w.second_sound.rooted none

  quants-each : (bs cs : List ℕ) → Along M bs cs → Along S (flat_map (λ b. map (λ r. r.id) (quants_of b g)) bs) (flat_map (λ b. map (λ r. r.id) (quants_of b h)) cs)
  quants-each [] [] none = none
  quants-each [] (c ∷ cs) l = elim l [ ]
  quants-each (b ∷ bs) [] l = elim l [ ]
  quants-each (b ∷ bs) (c ∷ cs) (more _ _ _ _ r l) =
      let x : map (λ r. r.id) (quants_of b g) ≡ ids_of (found b c r).n = ap (λ z. map (λ r. r.id) (quants_in z)) (first-at b c r) in
      let y : map (λ r. r.id) (quants_of c h) ≡ ids_of (found b c r).m = ap (λ z. map (λ r. r.id) (quants_in z)) (second-at b c r) in
      along-append S (map (λ r. r.id) (quants_of b g)) (map (λ r. r.id) (quants_of c h)) (flat_map (λ b. map (λ r. r.id) (quants_of b g)) bs) (flat_map (λ b. map (λ r. r.id) (quants_of b h)) cs)
      (subst (λ z. Along S z (map (λ r. r.id) (quants_of c h))) (sym x) (subst (λ z. Along S (ids_of (found b c r).n) z) (sym y) (ids-along (found b c r).n.quants (found b c r).m.quants (met-like b c r).quants)))
      (quants-each bs cs l)

  pub quants-along : Along S (quant_order g) (quant_order h)
  quants-along = quants-each (box_order g) (box_order h) boxes-along

  -- ---- names, and what is reached

  names-along : (n m : Node) → LikeBox S n m → Along S (named_by n) (named_by m)
  names-along n m l =
      along-append S (flat_map names_in n.parts.head) (flat_map names_in m.parts.head) (flat_map names_in_cond n.parts.conds.items) (flat_map names_in_cond m.parts.conds.items)
      (heads-names S n.parts.head m.parts.head l.head) (conds-names S n.parts.conds.items m.parts.conds.items l.conds)

  reach : (a b c : ℕ) → M a b → Reaches g.boxes a c → (d : ℕ) × (M c d × Reaches h.boxes b d)
  reach a b _ m (itself _) = (b, (m, itself b))
  reach _ b c m (through n r _ i j s) =
      let f = found n.id b m in
      let ids : M n.id f.m.id = subst (λ z. M n.id z) (sym f.second_id) m in
      let l = w.same.alike n f.m i f.in_h ids in
      let x = in-owned r n.quants j in
      let p = other-at S x.0 r n.quants f.m.quants l.quants x.1 in
      let t = reach r.over p.0.over c (k.under n f.m x.0 r p.0 ids i f.in_h x.1 p.1) s in
      (t.0, (t.1.0, subst (λ z. Reaches h.boxes z t.0) f.second_id (through f.m p.0 t.0 f.in_h (owned-in x.0 p.0 f.m.quants p.1) t.1.1)))

  -- ---- types

  abbrev pub froms : (ms : List Node) → Below ms h → List ℕ
  froms [] sub = []
  froms (m ∷ ms) sub = (w.one.second m (sub m (inl refl))).0.id ∷ froms ms (λ z i. sub z (inr i))

  pub froms-along : (ms : List Node) (sub : Below ms h) → Along M (froms ms sub) (numbers ms)
  froms-along [] sub = none
  froms-along (m ∷ ms) sub = more (w.one.second m (sub m (inl refl))).0.id m.id (froms ms (λ z i. sub z (inr i))) (numbers ms) (w.one.second m (sub m (inl refl))).1.1 (froms-along ms (λ z i. sub z (inr i)))

  -- the types of the columns of the box of the second graph, by those of the first
  abbrev told : Types
  told b = types_at g.boxes (partner M w.one.boxes (froms h.boxes (λ z i. i)) (numbers h.boxes) b)

  told-is : (a b : ℕ) → M a b → told b ≡ types_at g.boxes a
  told-is a b c =
      let f = found a b c in
      ap (types_at g.boxes) (partner-is M w.one.boxes (froms h.boxes (λ z i. i)) (numbers h.boxes) a b (froms-along h.boxes (λ z i. i)) c
      (in-holds b (numbers h.boxes) (subst (λ z. In z (numbers h.boxes)) f.second_id (map-in (λ (n : Node). n.id) f.m h.boxes f.in_h))))

  columns-met : (q p j : ℕ) → S q p → lookup_of g.boxes q j ≡ via told h.boxes p j
  columns-met _ _ j (k.stands n m i o p c u v s t) =
      let d : M o.over p.over = k.under n m i o p c u v s t in
      let f = found o.over p.over d in
      let x : box_under g.boxes o.id ≡ Some f.n = under-is g.boxes w.first_sound.ordered w.first_sound.once n o f.n u (owned-in i o n.quants s) f.in_g f.first_id in
      let y : box_under h.boxes p.id ≡ Some f.m = under-is h.boxes w.second_sound.ordered w.second_sound.once m p f.m v (owned-in i p m.quants t) f.in_h f.second_id in
      looked g.boxes o.id j ∙ ap (found_by (types_at g.boxes) j) x
      ∙ ap (λ z. cond (j == 0) None (joined_column (slice_get z (j - 1)))) (sym (told-is f.n.id f.m.id (met-ids o.over p.over d)))
      ∙ sym (ap (found_by told j) y)

  heads-met : (kind : BoxKind) (xs ys : List Term) → LikeHeads S xs ys → types_by (lookup_of g.boxes) kind xs ≡ types_by (via told h.boxes) kind ys
  heads-met (Base table) xs ys l = refl
  heads-met Select xs ys l = like-types S (lookup_of g.boxes) (via told h.boxes) columns-met xs ys l
  heads-met (Group keys) xs ys l = like-types S (lookup_of g.boxes) (via told h.boxes) columns-met xs ys l
  heads-met (SetOp form types) xs ys l = refl
  heads-met OuterJoin xs ys l = like-types S (lookup_of g.boxes) (via told h.boxes) columns-met xs ys l

  told-own : (m : Node) → In m h.boxes → told m.id ≡ types_by (via told h.boxes) m.parts.kind m.parts.head
  told-own m j =
      let x = w.one.second m j in
      let l = w.same.alike x.0 m x.1.0 j x.1.1 in
      told-is x.0.id m.id x.1.1 ∙ settled-types g.boxes g.root w.first_sound x.0 x.1.0 ∙ heads-met x.0.parts.kind x.0.parts.head m.parts.head l.head
      ∙ ap (λ z. types_by (via told h.boxes) z m.parts.head) l.kind

  pub lookups-met : (q p j : ℕ) → S q p → lookup_of g.boxes q j ≡ lookup_of h.boxes p j
  lookups-met q p j s = columns-met q p j s ∙ sym (ap (λ (z : Lookup). z p j) (looks-by h.boxes h.root w.second_sound told told-own))

-- ---- what is free

module _ (g h : QueryGraph) (w : Both g h) where
  free-met : (a b q : ℕ) → Meets g h a b → IsFree g.boxes a q → (p : ℕ) × IsFree h.boxes b p
  free-met a b q c ((n, (i, (r, held))), free) =
      let t = reach g h w a b n.id c r in
      let f = found g h w n.id t.0 t.1.0 in
      let ids : Meets g h n.id f.m.id = subst (λ z. Meets g h n.id z) (sym f.second_id) t.1.0 in
      let x = along-holds (Stands g h) (named_by n) (named_by f.m) q (names-along g h w n f.m (w.same.alike n f.m i f.in_h ids)) held in
      (x.0, ((f.m, (f.in_h, (subst (λ z. Reaches h.boxes b z) (sym f.second_id) t.1.1, x.1.1))), λ m j s. unowned x.0 x.1.0 m j s))
    where
      unowned : (p : ℕ) → Stands g h q p → (m : Node) → In m h.boxes → Reaches h.boxes b m.id → owns p m ≡ false
      unowned p e m j s = elim (cases_Bool (owns p m)) [
        | inr y ↦ y
        | inl y ↦ (
            let t = reach h g (both-back g h w) b a m.id (meets-back g h a b c) s in
            let f = found g h w t.0 m.id (meets-back h g m.id t.0 t.1.0) in
            let same : f.m.id ≡ m.id = f.second_id in
            let ids : Meets g h f.n.id m.id = subst (λ z. Meets g h z m.id) (sym f.first_id) (meets-back h g m.id t.0 t.1.0) in
            let l = w.same.alike f.n m f.in_g j ids in
            let u = any-in (is_quant p) m.quants y in
            let at = in-owned u.0 m.quants u.1.0 in
            let v = other-at (Stands h g) at.0 u.0 m.quants f.n.quants ((both-back g h w).same.alike m f.n j f.in_g (meets-back g h f.n.id m.id ids)).quants at.1 in
            let stand : Stands g h v.0.id u.0.id = k.stands f.n m at.0 v.0 u.0 ids f.in_g j v.1 at.1 in
            let one : v.0.id ≡ q = w.one.quants.other v.0.id q p (subst (λ z. Stands g h v.0.id z) (eqb-true u.0.id p u.1.1) stand) e in
            let own : owns q f.n ≡ true = any-from (is_quant q) v.0 f.n.quants (owned-in at.0 v.0 f.n.quants v.1) (ap (λ z. z == q) one ∙ eq-itself q) in
            absurd (clash (owns q f.n) own (free f.n f.in_g (subst (λ z. Reaches g.boxes a z) (sym f.first_id) t.1.1))))
      ]

-- nothing is free in both, or in neither
empty-met : (g h : QueryGraph) → Both g h → (a b : ℕ) → Meets g h a b → is_empty (free b h) ≡ true → is_empty (free a g) ≡ true
empty-met g h w a b c e = none-empty (free a g) (λ q x. (
    let f = free-met g h w a b q c ((free-free g.boxes w.first_sound.ordered a q).0 x) in
    empty-none (free b h) e f.0 ((free-free h.boxes w.second_sound.ordered b f.0).1 f.1)))

pub closed-met : (g h : QueryGraph) → Both g h → (a b : ℕ) → Meets g h a b → is_empty (free a g) ≡ is_empty (free b h)
closed-met g h w a b c = same-truth (is_empty (free a g)) (is_empty (free b h)) (λ e. empty-met h g (both-back g h w) b a (meets-back g h a b c) e) (λ e. empty-met g h w a b c e)
