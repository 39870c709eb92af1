-- In two graphs that are built of one query numbers stand for one another one to one.
use Rattle.std.proofs.Common.{inl, inr, ◌≡◌, ◌≤◌, ℕ, zero, suc, ◌+◌, ◌==◌, cond, true, List, [], ◌∷◌, Option, map, refl, ap, sym, ◌∙◌, subst, arith}
use Rattle.std.specs.Prelude.{◌⊎◌}
use Rattle.std.specs.List.{flat_map}
use Rattle.sql_value.specs.declared.order_key.OrderKey.{OrderKey}
use Rattle.sql_value.specs.declared.order_key.SqlType.{SqlType}
use Rattle.sql_meaning.specs.ResolvedTrees.{From, Query}
use Rattle.sql_meaning.specs.ResolvedTrees as q
use Rattle.qgm_core.specs.Boxes.{Ordered, QueryGraph, has_box, ids_in}
use Rattle.qgm_core.specs.Free.{Reaches, itself, through}
use Rattle.list_laws.specs.Lists.{In, times}
use Rattle.qgm_core.specs.declared.node.Node.{Node}
use Rattle.qgm_core.specs.declared.owned.OwnedQuant.{OwnedQuant}
use Rattle.qgm_terms.specs.Terms.{Term}
use Rattle.qgm_translation.specs.Maps.{Map}
use Rattle.qgm_translation.specs.Shown.{ShowsBox, Thing, of_groups, of_operand, of_query, of_rows, uses}
use Rattle.qgm_translation.specs.Sources.{Sources}
use Rattle.qgm_edit_laws.proofs.Ranks.{has-in, place, place-under, same-box}
use Rattle.graph_alike.specs.Alike.{Meets, OwnedAt, Stands, roots, stands, under}
use Rattle.qgm_translation.specs.There.{IsFor, map_of}
use Rattle.graph_alike.specs.OneToOne.{AreOneToOne}
use Rattle.qgm_translation_laws.specs.OneToOne.{BuiltApart}
use Rattle.qgm_translation_laws.proofs.LikeParts as parts
use Rattle.qgm_translation_laws.proofs.LikeParts.{LikeThing, Pairs, like_groups, like_rows, same_operand, same_query}
use Rattle.qgm_translation_laws.proofs.LikeGraphs.{found, place-of}
use Rattle.qgm_translation_laws.proofs.LikeKids.{thing-kids}
use Rattle.qgm_translation_laws.proofs.LikeTerms.{LikeMap}
use Rattle.qgm_translation_laws.proofs.Passes.{root-reaches, uses-times}
use Rattle.qgm_core.proofs.Reaching.{in-has, overs-held}
use Rattle.list_laws.proofs.Counting.{in-times, times-in, times-once}
use Rattle.list_laws.proofs.Membership.{eq-itself}

-- ---- places

pub at-in : (i : ℕ) (o : OwnedQuant) (os : List OwnedQuant) → OwnedAt i o os → In o os
at-in i o [] a = absurd a
at-in zero o (p ∷ os) a = inl a
at-in (suc i) o (p ∷ os) a = inr (at-in i o os a)

at-same : (i : ℕ) (o p : OwnedQuant) (os : List OwnedQuant) → OwnedAt i o os → OwnedAt i p os → o ≡ p
at-same i o p [] a b = absurd a
at-same zero o p (x ∷ os) a b = sym a ∙ b
at-same (suc i) o p (x ∷ os) a b = at-same i o p os a b

-- a key of quantifiers that stands once at most
module _ (key : OwnedQuant → ℕ) (k : ℕ) where
  abbrev keys : Node → List ℕ
  keys n = map key n.quants

  at-least : (i : ℕ) (o : OwnedQuant) (os : List OwnedQuant) → OwnedAt i o os → key o ≡ k → 1 ≤ times k (map key os)
  at-least i o os a e = subst (λ z. 1 ≤ times z (map key os)) e (in-times key o os (at-in i o os a))

  one-place : (os : List OwnedQuant) (i j : ℕ) (o p : OwnedQuant) → OwnedAt i o os → OwnedAt j p os → key o ≡ k → key p ≡ k → times k (map key os) ≤ 1 → i ≡ j
  one-place [] i j o p a b e f h = absurd a
  one-place (x ∷ os) zero zero o p a b e f h = refl
  one-place (x ∷ os) zero (suc j) o p a b e f h = absurd (twice x os j p (ap key a ∙ e) b f h)
    where
      twice : (x : OwnedQuant) (os : List OwnedQuant) (j : ℕ) (p : OwnedQuant) → key x ≡ k → OwnedAt j p os → key p ≡ k → times k (map key (x ∷ os)) ≤ 1 → ⊥
      twice x os j p e b f h =
          let l = at-least j p os b f in
          let y : (key x == k) ≡ true = subst (λ z. (key x == z) ≡ true) e (eq-itself (key x)) in
          let w : 1 + times k (map key os) ≤ 1 = subst (λ c. cond {A = ℕ} c 1 0 + times k (map key os) ≤ 1) y h in
          omega arith
  one-place (x ∷ os) (suc i) zero o p a b e f h = absurd (twice x os i o (ap key b ∙ f) a e h)
    where
      twice : (x : OwnedQuant) (os : List OwnedQuant) (j : ℕ) (p : OwnedQuant) → key x ≡ k → OwnedAt j p os → key p ≡ k → times k (map key (x ∷ os)) ≤ 1 → ⊥
      twice x os j p e b f h =
          let l = at-least j p os b f in
          let y : (key x == k) ≡ true = subst (λ z. (key x == z) ≡ true) e (eq-itself (key x)) in
          let w : 1 + times k (map key os) ≤ 1 = subst (λ c. cond {A = ℕ} c 1 0 + times k (map key os) ≤ 1) y h in
          omega arith
  one-place (x ∷ os) (suc i) (suc j) o p a b e f h = ap suc (one-place os i j o p a b e f (omega arith))

  one-owner : (ns : List Node) (n m : Node) (i j : ℕ) (o p : OwnedQuant) → times k (flat_map keys ns) ≤ 1 → In n ns → In m ns → OwnedAt i o n.quants → OwnedAt j p m.quants → key o ≡ k → key p ≡ k → (n ≡ m) × (i ≡ j)
  one-owner ns n m i j o p h in_n in_m a b e f =
      let same : n ≡ m = times-once keys k n m ns h in_n in_m (at-least i o n.quants a e) (at-least j p m.quants b f) in
      let few = times-in keys k n ns in_n in
      (same, one-place n.quants i j o p a (subst (λ (z : Node). OwnedAt j p z.quants) (sym same) b) e f (omega arith))

-- ---- the other way round

turn-meets : (g h : QueryGraph) (b c : ℕ) → Meets g h b c → Meets h g c b
turn-meets g h b c roots = roots
turn-meets g h b c (under n k i o p m in_n in_k at to) = under k n i p o (turn-meets g h n.id k.id m) in_k in_n to at

turn-stands : (g h : QueryGraph) (b c : ℕ) → Stands g h b c → Stands h g c b
turn-stands g h b c (stands n k i o p m in_n in_k at to) = stands k n i p o (turn-meets g h n.id k.id m) in_k in_n to at

-- ---- what is met is met once

-- Named: a box is there for a name
module _ (g h : QueryGraph) (one : Ordered g.boxes) (two : Ordered h.boxes) (shared : List ℕ → ℕ) (Named : ℕ → List ℕ → Type 0) (apart : (b : ℕ) (x y : List ℕ) → Named b x → Named b y → x ≡ y)
    (fact : (b c : ℕ) → Meets g h b c → (uses b g.boxes ≤ 1) ⊎ ((name : List ℕ) × (Named b name × (c ≡ shared name)))) where
  not-above : (b c : ℕ) → Meets g h b c → place g.boxes g.root ≤ place g.boxes b
  not-above b c roots = omega arith
  not-above b c (under n k i o p m in_n in_k at to) =
      let x = not-above n.id k.id m in
      let y = place-under g.boxes n o one in_n (at-in i o n.quants at) in
      omega arith

  not-root : (n : Node) (k : Node) (i : ℕ) (o : OwnedQuant) → Meets g h n.id k.id → In n g.boxes → OwnedAt i o n.quants → g.root ≡ o.over → ⊥
  not-root n k i o m in_n at e =
      let x = not-above n.id k.id m in
      let y = place-under g.boxes n o one in_n (at-in i o n.quants at) in
      let z : place g.boxes g.root ≡ place g.boxes o.over = ap (place g.boxes) e in
      omega arith

  same-quant : (k l : Node) (i j : ℕ) (p r : OwnedQuant) → In k h.boxes → In l h.boxes → k.id ≡ l.id → i ≡ j → OwnedAt i p k.quants → OwnedAt j r l.quants → p ≡ r
  same-quant k l i j p r in_k in_l e f a b =
      let same : k ≡ l = same-box h.boxes k l two in_k in_l e in
      at-same i p r k.quants a (subst (λ (z : Node). OwnedAt i r z.quants) (sym same) (subst (λ z. OwnedAt z r l.quants) (sym f) b))

  pub met-once : (b c : ℕ) → Meets g h b c → (d e : ℕ) → Meets g h d e → b ≡ d → c ≡ e
  met-once b c roots d e roots same = refl
  met-once b c roots d e (under n k i o p m in_n in_k at to) same = absurd (not-root n k i o m in_n at same)
  met-once b c (under n k i o p m in_n in_k at to) d e roots same = absurd (not-root n k i o m in_n at (sym same))
  met-once b c (under n k i o p m in_n in_k at to) d e (under x y j u w l in_x in_y on by) same =
      let above : n.id ≡ x.id → k.id ≡ y.id = λ s. met-once n.id k.id m x.id y.id l s in
      let used : uses o.over g.boxes ≤ 1 → p.over ≡ w.over = λ few. (
      let r = one-owner (λ r. r.over) o.over g.boxes n x i j o u (subst (λ z. z ≤ 1) (sym (uses-times o.over g.boxes)) few) in_n in_x at on refl (sym same) in
      ap (λ (z : OwnedQuant). z.over) (same-quant k y i j p w in_k in_y (above (ap (λ (z : Node). z.id) r.0)) r.1 to by)) in
      elim (fact o.over p.over (under n k i o p m in_n in_k at to)) [
        | inl few ↦ used few
        | inr a ↦ elim (fact u.over w.over (under x y j u w l in_x in_y on by)) [
          | inl few ↦ used (subst (λ z. uses z g.boxes ≤ 1) (sym same) few)
          | inr c ↦ a.1.1 ∙ ap shared (apart o.over a.0 c.0 a.1.0 (subst (λ z. Named z c.0) (sym same) c.1.0)) ∙ sym c.1.1
        ]
      ]

  pub stands-once : ((k : ℕ) → times k (ids_in g.boxes) ≤ 1) → (b c : ℕ) → Stands g h b c → (d e : ℕ) → Stands g h d e → b ≡ d → c ≡ e
  stands-once once b c (stands n k i o p m in_n in_k at to) d e (stands x y j u w l in_x in_y on by) same =
      let r = one-owner (λ r. r.id) o.id g.boxes n x i j o u (once o.id) in_n in_x at on refl (sym same) in
      ap (λ (z : OwnedQuant). z.id) (same-quant k y i j p w in_k in_y (met-once n.id k.id m x.id y.id l (ap (λ (z : Node). z.id) r.0)) r.1 to by)

-- ---- what boxes that meet are there for

named-alike : (R : ℕ → ℕ → Type 0) (thing other : Thing) → LikeThing R thing other → (x : From) → thing ≡ of_operand x → other ≡ of_operand x
named-alike R thing other (same_query y) x e = absurd (cc e)
named-alike R thing other (same_operand y) x e = e
named-alike R thing other (like_rows from by places ls ms like) x e = absurd (cc e)
named-alike R thing other (like_groups from by places ls ms like) x e = absurd (cc e)

name-of : (x y : List ℕ) → of_operand (q.named x) ≡ of_operand (q.named y) → x ≡ y
name-of x y e = cc e

module _ (s : Sources) (query : Query) (names : List (Option (List ℕ))) (order : List OrderKey) (g : QueryGraph) (b : BuiltApart s query names order g) where
  abbrev For : ℕ → Thing → Map → Type 0
  For = IsFor b.there.what b.there.seen

  -- it shows what it is there for, through any map that is its own
  shows-it : (n : Node) → In n g.boxes → (thing : Thing) (m : Map) → For n.id thing m → ShowsBox s For thing m n
  shows-it n i thing m h =
      any thing m (subst (λ z. ShowsBox s For thing z n) h.1 (subst (λ z. ShowsBox s For z (b.there.seen n.id) n) h.0 (b.there.each n i)))
    where
      any : (thing : Thing) (m : Map) → ShowsBox s For thing (map_of thing m) n → ShowsBox s For thing m n
      any (of_query x) m h = h
      any (of_operand (q.named name)) m h = h
      any (of_operand (q.derived query)) m h = h
      any (of_operand (q.crossed x y)) m h = h
      any (of_operand (q.joined x y p)) m h = h
      any (of_operand (q.left_joined x y n p)) m h = h
      any (of_rows from by places ls) m h = h
      any (of_groups from by places ls) m h = h

  named-box : (c : ℕ) (name : List ℕ) → has_box g.boxes c ≡ true → b.there.what c ≡ of_operand (q.named name) → c ≡ s.shared name
  named-box c name held e =
      let r = has-in c g.boxes held in
      let h = subst (λ z. ShowsBox s For z (b.there.seen r.0.id) r.0) (ap b.there.what r.1.1 ∙ e) (b.there.each r.0 r.1.0) in
      sym r.1.1 ∙ h.0

  root-held : has_box g.boxes g.root ≡ true
  root-held = let f = found s g.boxes g.boxes (λ n i. i) g.root (of_query query) [] b.built.shows in subst (λ z. has_box g.boxes z ≡ true) f.1.1.1 (in-has f.0 g.boxes f.1.1.0)

module _ (s : Sources) (shared : List ℕ → ℕ) (typed : Term → SqlType) (query : Query) (names : List (Option (List ℕ))) (order : List OrderKey) (g h : QueryGraph) (first : BuiltApart s query names order g)
    (second : BuiltApart (record s { shared = shared; typed = typed }) query names order h) where
  abbrev z : Sources
  z = record s { shared = shared; typed = typed }

  abbrev R : ℕ → ℕ → Type 0
  R = Stands g h

  abbrev Below : ℕ → Thing → Map → Type 0
  Below = IsFor first.there.what first.there.seen

  abbrev Above : ℕ → Thing → Map → Type 0
  Above = IsFor second.there.what second.there.seen

  -- what two boxes at one place are there for
  abbrev StandAlike : ℕ → ℕ → Type 0
  StandAlike b c = (thing : Thing) × ((other : Thing) × ((x : Map) × ((y : Map) × (LikeThing R thing other × LikeMap R x y × Below b thing x × Above c other y))))

  abbrev Kids : List OwnedQuant → List OwnedQuant → Type 0
  Kids os ps = parts.Kids R s shared typed Below Above os ps

  kids-of : (n k : Node) → In n g.boxes → In k h.boxes → Meets g h n.id k.id → StandAlike n.id k.id → Kids n.quants k.quants
  kids-of n k i j meets p =
      let pairs : Pairs R n.quants k.quants = λ a o q at to. stands n k a o q meets i j at to in
      thing-kids R s shared typed Below Above n k pairs p.0 p.1.0 p.1.1.0 p.1.1.1.0 p.1.1.1.1.0 p.1.1.1.1.1
      (shows-it s query names order g first n i p.0 p.1.1.0 p.1.1.1.1.2) (shows-it z query names order h second k j p.1.0 p.1.1.1.0 p.1.1.1.1.3)

  kid-at : (os ps : List OwnedQuant) → Kids os ps → (i : ℕ) (o p : OwnedQuant) → OwnedAt i o os → OwnedAt i p ps → StandAlike o.over p.over
  kid-at [] ps r i o p at to = absurd at
  kid-at (x ∷ os) [] r i o p at to = absurd to
  kid-at (x ∷ os) (y ∷ ps) r zero o p at to =
      subst (λ (e : OwnedQuant). StandAlike e.over p.over) at
      (subst (λ (e : OwnedQuant). StandAlike x.over e.over) to
      (r.2.0, (r.2.1.0, (r.2.1.1.0, (r.2.1.1.1.0, (r.2.1.1.1.1.2, r.2.1.1.1.1.3, r.2.1.1.1.1.0, r.2.1.1.1.1.1))))))
  kid-at (x ∷ os) (y ∷ ps) r (suc i) o p at to = kid-at os ps r.3 i o p at to

  meet : (b c : ℕ) → Meets g h b c → StandAlike b c
  meet b c roots = (of_query query, (of_query query, ([], ([], (same_query query, tt, first.there.root, second.there.root)))))
  meet b c (under n k i o p m in_n in_k at to) = kid-at n.quants k.quants (kids-of n k in_n in_k m (meet n.id k.id m)) i o p at to

  held : (b c : ℕ) → Meets g h b c → has_box h.boxes c ≡ true
  held b c roots = root-held z query names order h second
  held b c (under n k i o p m in_n in_k at to) = overs-held h.boxes k p second.ordered in_k (at-in i p k.quants to)

  abbrev Named : ℕ → List ℕ → Type 0
  Named b name = first.there.what b ≡ of_operand (q.named name)

  -- what meets a box that is there for a name is the box of that name
  fact : (b c : ℕ) → Meets g h b c → (uses b g.boxes ≤ 1) ⊎ ((name : List ℕ) × (Named b name × (c ≡ shared name)))
  fact b c m = elim (first.there.alone b) [
    | inl u ↦ inl u
    | inr r ↦ (
        let p = meet b c m in
        let l = p.1.1.1.1 in
        inr (r.0, (r.1, named-box z query names order h second c r.0 (held b c m) (l.3.0 ∙ named-alike R p.0 p.1.0 l.0 (q.named r.0) (sym l.2.0 ∙ r.1)))))
  ]

  apart : (b : ℕ) (x y : List ℕ) → Named b x → Named b y → x ≡ y
  apart b x y e f = name-of x y (sym e ∙ f)

  meets-one : (a b c : ℕ) → Meets g h a b → Meets g h a c → b ≡ c
  meets-one a b c m w = met-once g h first.ordered second.ordered shared Named apart fact a b m a c w refl

  stands-for-one : (a b c : ℕ) → Stands g h a b → Stands g h a c → b ≡ c
  stands-for-one a b c m w = stands-once g h first.ordered second.ordered shared Named apart fact first.once a b m a c w refl

  -- quantifiers are as many
  other-at : (os ps : List OwnedQuant) → Kids os ps → (i : ℕ) (o : OwnedQuant) → OwnedAt i o os → (p : OwnedQuant) × OwnedAt i p ps
  other-at [] ps r i o at = absurd at
  other-at (x ∷ os) [] r i o at = absurd r
  other-at (x ∷ os) (y ∷ ps) r zero o at = (y, refl)
  other-at (x ∷ os) (y ∷ ps) r (suc i) o at = other-at os ps r.3 i o at

  below : (b c d : ℕ) → Meets g h b c → Reaches g.boxes b d → (e : ℕ) × Meets g h d e
  below b c d m (itself a) = (c, m)
  below b c d m (through n r x i j k) =
      let q = has-in c h.boxes (held n.id c m) in
      let at : Meets g h n.id q.0.id = subst (λ y. Meets g h n.id y) (sym q.1.1) m in
      let l = place-of r n.quants j in
      let o = other-at n.quants q.0.quants (kids-of n q.0 i q.1.0 at (meet n.id q.0.id at)) l.0 r l.1 in
      below r.over o.0.over d (under n q.0 l.0 r o.0 at i q.1.0 l.1 o.1) k

  meets-some : (n : Node) → In n g.boxes → (k : Node) × (In k h.boxes × Meets g h n.id k.id)
  meets-some n i =
      let r = below g.root h.root n.id roots (root-reaches g.boxes g.root first.ordered first.built.used n i) in
      let q = has-in r.0 h.boxes (held n.id r.0 r.1) in
      (q.0, (q.1.0, subst (λ y. Meets g h n.id y) (sym q.1.1) r.1))

pub are-one-to-one : (s : Sources) (shared : List ℕ → ℕ) (typed : Term → SqlType) (query : Query) (names : List (Option (List ℕ))) (order : List OrderKey) (g h : QueryGraph)
    → BuiltApart s query names order g → BuiltApart (record s { shared = shared; typed = typed }) query names order h → AreOneToOne g h
are-one-to-one s shared typed query names order g h first second =
    let z = record s { shared = shared; typed = typed } in
    record {
      boxes = record {
        one = meets-one s shared typed query names order g h first second;
        other = λ a b c m w. meets-one z s.shared s.typed query names order h g second first c a b (turn-meets g h a c m) (turn-meets g h b c w);
      };
      quants = record {
        one = stands-for-one s shared typed query names order g h first second;
        other = λ a b c m w. stands-for-one z s.shared s.typed query names order h g second first c a b (turn-stands g h a c m) (turn-stands g h b c w);
      };
      first = meets-some s shared typed query names order g h first second;
      second = λ k i.
          let r = meets-some z s.shared s.typed query names order h g second first k i in
          (r.0, (r.1.0, turn-meets h g k.id r.0.id r.1.1));
    }
