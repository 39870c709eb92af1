-- G5 with an open right operand: where the boxes stand, before names change below it.
use Rattle.std.proofs.Common.{ℕ, ◌==◌, ◌≡◌, ◌≤◌, ◌+◌, ◌&&◌, ◌||◌, cond, not, Bool, true, false, List, [], ◌∷◌, ◌++◌, map, length, refl, sym, ap, ap₂, subst, ◌∙◌, eqb-true, ◌⊎◌, inl, inr, arith}
use Rattle.std.specs.List.{flat_map}
use Rattle.std.proofs.lemmas.Bool.{and_from, cases_Bool, eq-eqb, not-true, or_cases, or_from, or_left, or_parts, or_right}
use Rattle.qgm_core.specs.Boxes.{Ordered, QueryGraph, has_box, ids_in, is_box, overs_in, width}
use Rattle.qgm_core.specs.Edits.{range}
use Rattle.qgm_core.specs.Kinds.{width_by}
use Rattle.list_laws.specs.Lists.{In, times}
use Rattle.qgm_core.specs.declared.kinds.QuantKind.TheVariants.{F}
use Rattle.qgm_core.specs.declared.kinds.Role.{Role}
use Rattle.qgm_core.specs.declared.node.Node.{Node}
use Rattle.qgm_core.specs.declared.owned.OwnedQuant.{OwnedQuant}
use Rattle.qgm_edit_laws.specs.Graph.{Sound}
use Rattle.qgm_edit_laws.proofs.Edits.{length-map}
use Rattle.qgm_edit_laws.proofs.Ranks.{has-in, same-box}
use Rattle.qgm_edit_laws.proofs.Read.{any-both}
use Rattle.qgm_meaning.specs.Tags.{columns_from}
use Rattle.qgm_props.specs.Inferred.{Facts}
use Rattle.rule_magic.specs.AbsorbArms.{IsFreshSelect}
use Rattle.rule_magic.specs.AbsorbOuterJoin.{OuterAt, absorbed_arms}
use Rattle.rule_magic.specs.Boxes.{arms_box, both_term, pair_box}
use Rattle.rule_magic.specs.Places.{MayAbsorb}
use Rattle.rule_magic.proofs.AbsorbKeylessFormed.{one-of, replaced}
use Rattle.rule_magic.proofs.AbsorbOuterFacts as outer
use Rattle.rule_magic.proofs.AbsorbSelectFormed as made
use Rattle.rule_magic.proofs.AbsorbShared.{apart-box, apart-quant}
use Rattle.rule_magic.proofs.AbsorbSelectFormed.{columns-long, length-append, times-flat}
use Rattle.list_laws.proofs.Booleans.{clash}
use Rattle.list_laws.proofs.Counting.{times-append}
use Rattle.list_laws.proofs.Membership.{all-in, eq-false-sym, eq-itself, in-append, in-left, in-right}

module _ (g : QueryGraph) (known : Facts) (d : Node) (may : MayAbsorb g.boxes known d) (l r1 : OwnedQuant) (x y : Node) (s u p : ℕ) (lr rr : Role) (up l1 l2 : List Node) (at : OuterAt g known d may l r1 x y up l1 l2) (new : IsFreshSelect g s u p) where
  abbrev m : Node
  m = may.m

  abbrev c : Node
  c = may.c

  abbrev a : OwnedQuant
  a = may.a

  abbrev r : OwnedQuant
  r = may.r

  abbrev d' : Node
  d' = arms_box d.id may.a.id l.id (width may.m) (width x) r1.id (width y) may.c (range l.id F may.c.id ∷ (range r1.id F s ∷ []))

  abbrev s' : Node
  s' = pair_box s rr p may.m.id (width may.m) u y.id (width y)

  abbrev c' : Node
  c' = pair_box may.c.id lr may.a.id may.m.id (width may.m) may.r.id x.id (width x)

  abbrev low : List Node
  low = l1 ++ l2

  abbrev news : List Node
  news = arms_box d.id may.a.id l.id (width may.m) (width x) r1.id (width y) may.c (range l.id F may.c.id ∷ (range r1.id F s ∷ []))
      ∷ (pair_box s rr p may.m.id (width may.m) u y.id (width y) ∷ (pair_box may.c.id lr may.a.id may.m.id (width may.m) may.r.id x.id (width x) ∷ (l1 ++ l2)))

  abbrev hs : List Node
  hs = (absorbed_arms g known d may l r1 x y s u p lr rr up l1 l2).boxes

  abbrev kept : ℕ → Bool
  kept b = not (b == c.id)

  w : Sound g.boxes g.root
  w = outer.w g known d may l r1 x y up l1 l2 at

  c-not-d : (c.id == d.id) ≡ false
  c-not-d = outer.c-not-d g known d may l r1 x y up l1 l2 at

  elsewhere : (n : Node) (z : OwnedQuant) → In n g.boxes → (n.id == d.id) ≡ false → In z n.quants → (z.over == c.id) ≡ false
  elsewhere = outer.elsewhere g known d may l r1 x y up l1 l2 at

  m-not-c : (m.id == c.id) ≡ false
  m-not-c = outer.m-not-c g known d may l r1 x y up l1 l2 at

  in-l : In l c.quants
  in-l = outer.in-l g known d may l r1 x y up l1 l2 at

  in-r1 : In r1 c.quants
  in-r1 = outer.in-r1 g known d may l r1 x y up l1 l2 at

  pub new-id : (i : ℕ) → times i (ids_in g.boxes) ≡ 0 → (z : OwnedQuant) (n : Node) → In n g.boxes → In z n.quants → (z.id == i) ≡ false
  new-id = apart-quant g.boxes

  pub s-not : (n : Node) → In n g.boxes → (s == n.id) ≡ false
  s-not = apart-box g.boxes s new.s_new

  -- ---- where the boxes stand

  pub in-d' : In d' hs
  in-d' = in-right d' up news (inl refl)

  pub in-s' : In s' hs
  in-s' = in-right s' up news (inr (inl refl))

  pub in-c' : In c' hs
  in-c' = in-right c' up news (inr (inr (inl refl)))

  low-old : (n : Node) → In n low → In n g.boxes × (((n.id == d.id) ≡ false) × ((n.id == c.id) ≡ false))
  low-old n z = elim (in-append n l1 l2 z) [ inl v ↦ made.other-left g at.once at.formed known at.tells d may up l1 l2 at.before n v | inr v ↦ made.other-right g at.once at.formed known at.tells d may up l1 l2 at.before n v ]

  pub each-in : (n : Node) → In n hs → (n ≡ d') ⊎ ((n ≡ s') ⊎ ((n ≡ c') ⊎ (In n g.boxes × (((n.id == d.id) ≡ false) × ((n.id == c.id) ≡ false)))))
  each-in n i = elim (in-append n up news i) [
    | inl j ↦ inr (inr (inr (made.other-up g at.once at.formed known at.tells d may up l1 l2 at.before n j)))
    | inr j ↦ elim j [
      | inl e ↦ inl (sym e)
      | inr j ↦ elim j [
        | inl e ↦ inr (inl (sym e))
        | inr j ↦ elim j [ inl e ↦ inr (inr (inl (sym e))) | inr z ↦ inr (inr (inr (low-old n z))) ]
      ]
    ]
  ]

  pub to-hs : (n : Node) → In n g.boxes → (n.id == d.id) ≡ false → (n.id == c.id) ≡ false → In n hs
  to-hs n i e f = elim (made.place-of g at.once at.formed known at.tells d may up l1 l2 at.before n i) [
    | inl z ↦ absurd (clash (n.id == d.id) (eq-eqb n.id d.id (ap (λ (z : Node). z.id) z)) e)
    | inr z ↦ elim z [
      | inl z ↦ absurd (clash (n.id == c.id) (eq-eqb n.id c.id (ap (λ (z : Node). z.id) z)) f)
      | inr z ↦ elim z [ inl v ↦ in-left n up news v | inr v ↦ in-right n up news (inr (inr (inr v))) ]
    ]
  ]

  pub in-m : In m hs
  in-m = to-hs m may.in_m (outer.m-not-d g known d may l r1 x y up l1 l2 at) m-not-c

  pub in-x : In x hs
  in-x = to-hs x at.in_x (outer.arm-not-d g known d may l r1 x y up l1 l2 at l x in-l at.over_x) (outer.x-not-c g known d may l r1 x y up l1 l2 at)

  od : Ordered (d ∷ (l1 ++ c ∷ l2))
  od = made.od g at.once at.formed known at.tells d may up l1 l2 at.before

  oc' : Ordered (c ∷ l2)
  oc' = made.oc g at.once at.formed known at.tells d may up l1 l2 at.before

  more : (b : ℕ) → (b == c.id) ≡ false → has_box (l1 ++ c ∷ l2) b ≡ true → has_box (l1 ++ l2) b ≡ true
  more = made.more g at.once at.formed known at.tells d may up l1 l2 at.before

  fewer : (b : ℕ) → has_box (l1 ++ c ∷ l2) b ≡ false → has_box (l1 ++ l2) b ≡ false
  fewer = made.fewer g at.once at.formed known at.tells d may up l1 l2 at.before

  low-has-not : (b : ℕ) → ((n : Node) → In n g.boxes → (n.id == d.id) ≡ false → (n.id == c.id) ≡ false → (b == n.id) ≡ false) → has_box (l1 ++ l2) b ≡ false
  low-has-not b f = elim (cases_Bool (has_box (l1 ++ l2) b)) [
    | inr z ↦ z
    | inl e ↦ absurd (let n = has-in b (l1 ++ l2) e in let v = low-old n.0 n.1.0 in clash (b == n.0.id) (eq-eqb b n.0.id (sym n.1.1)) (f n.0 v.0 v.1.0 v.1.1))
  ]

  pub ordered : Ordered hs
  ordered = replaced up (d ∷ (l1 ++ c ∷ l2)) news c.id (made.ob g at.once at.formed known at.tells d may up l1 l2 at.before) (d-none, d-all, (s-none, s-all, (c-none, c-all, made.low g at.once at.formed known at.tells d may up l1 l2 at.before)))
      (λ n i f. (
      let z = or_parts (d.id == n.id) (has_box (l1 ++ c ∷ l2) n.id) f in
      let v = made.other-up g at.once at.formed known at.tells d may up l1 l2 at.before n i in
      or_from (d.id == n.id) ((s == n.id) || ((c.id == n.id) || has_box (l1 ++ l2) n.id)) z.0
      (or_from (s == n.id) ((c.id == n.id) || has_box (l1 ++ l2) n.id) (s-not n v.0)
      (or_from (c.id == n.id) (has_box (l1 ++ l2) n.id) (eq-false-sym n.id c.id v.1.1) (fewer n.id z.1)))))
      (λ b f h. elim (or_cases (d.id == b) (has_box (l1 ++ c ∷ l2) b) h) [
        | inl t ↦ or_left (d.id == b) ((s == b) || ((c.id == b) || has_box (l1 ++ l2) b)) t
        | inr t ↦ or_right (d.id == b) ((s == b) || ((c.id == b) || has_box (l1 ++ l2) b)) (or_right (s == b) ((c.id == b) || has_box (l1 ++ l2) b) (or_right (c.id == b) (has_box (l1 ++ l2) b) (more b f t)))
      ])
      (λ n z i j. (let v = made.other-up g at.once at.formed known at.tells d may up l1 l2 at.before n i in elsewhere n z v.0 v.1.0 j))
    where
      has-m : has_box (l1 ++ l2) m.id ≡ true
      has-m = more m.id m-not-c (subst (λ i. has_box (l1 ++ c ∷ l2) i ≡ true) (sym may.over_m) (all-in (λ (z : OwnedQuant). has_box (l1 ++ c ∷ l2) z.over) a d.quants od.1 (outer.in-a g known d may l r1 x y up l1 l2 at)))

      has-arm : (z : OwnedQuant) (n : Node) → In z c.quants → z.over ≡ n.id → has_box (l1 ++ l2) n.id ≡ true
      has-arm z n j e = any-both (is_box n.id) l1 l2 ∙ or_right (has_box l1 n.id) (has_box l2 n.id) (subst (λ i. has_box l2 i ≡ true) e (all-in (λ (z : OwnedQuant). has_box l2 z.over) z c.quants oc'.1 j))

      d-none : ((s == d.id) || ((c.id == d.id) || has_box (l1 ++ l2) d.id)) ≡ false
      d-none = or_from (s == d.id) ((c.id == d.id) || has_box (l1 ++ l2) d.id) (s-not d may.in_d) (or_from (c.id == d.id) (has_box (l1 ++ l2) d.id) c-not-d (fewer d.id od.0))

      d-all : (((s == c.id) || ((c.id == c.id) || has_box (l1 ++ l2) c.id)) && (((s == s) || ((c.id == s) || has_box (l1 ++ l2) s)) && true)) ≡ true
      d-all = and_from ((s == c.id) || ((c.id == c.id) || has_box (l1 ++ l2) c.id)) (((s == s) || ((c.id == s) || has_box (l1 ++ l2) s)) && true)
          (or_right (s == c.id) ((c.id == c.id) || has_box (l1 ++ l2) c.id) (or_left (c.id == c.id) (has_box (l1 ++ l2) c.id) (eq-itself c.id)))
          (and_from ((s == s) || ((c.id == s) || has_box (l1 ++ l2) s)) true (or_left (s == s) ((c.id == s) || has_box (l1 ++ l2) s) (eq-itself s)) refl)

      s-none : ((c.id == s) || has_box (l1 ++ l2) s) ≡ false
      s-none = or_from (c.id == s) (has_box (l1 ++ l2) s) (eq-false-sym s c.id (s-not c may.in_c)) (low-has-not s (λ n i e f. s-not n i))

      s-all : (((c.id == m.id) || has_box (l1 ++ l2) m.id) && (((c.id == y.id) || has_box (l1 ++ l2) y.id) && true)) ≡ true
      s-all = and_from ((c.id == m.id) || has_box (l1 ++ l2) m.id) (((c.id == y.id) || has_box (l1 ++ l2) y.id) && true) (or_right (c.id == m.id) (has_box (l1 ++ l2) m.id) has-m)
          (and_from ((c.id == y.id) || has_box (l1 ++ l2) y.id) true (or_right (c.id == y.id) (has_box (l1 ++ l2) y.id) (has-arm r1 y in-r1 at.over_y)) refl)

      c-none : has_box (l1 ++ l2) c.id ≡ false
      c-none = low-has-not c.id (λ n i e f. eq-false-sym n.id c.id f)

      c-all : (has_box (l1 ++ l2) m.id && (has_box (l1 ++ l2) x.id && true)) ≡ true
      c-all = and_from (has_box (l1 ++ l2) m.id) (has_box (l1 ++ l2) x.id && true) has-m (and_from (has_box (l1 ++ l2) x.id) true (has-arm l x in-l at.over_x) refl)

  -- ---- counts

  nothing : (b : Bool) → b ≡ false → cond b 1 0 ≤ 0
  nothing true f = absurd (let z : ⊥ = cc f in z)
  nothing false f = omega arith

  -- of the six quantifiers two are new, and the others count as the four before
  counts : (f : OwnedQuant → ℕ) (i : ℕ) → f (range a.id F m.id) ≡ f a → (more : ℕ)
      → cond (f (range l.id F c.id) == i) 1 0 + (cond (f (range r1.id F s) == i) 1 0 + (cond (f (range p F m.id) == i) 1 0 + (cond (f (range u F y.id) == i) 1 0 + cond (f (range r.id F x.id) == i) 1 0)))
      ≡ cond (f r == i) 1 0 + (cond (f l == i) 1 0 + cond (f r1 == i) 1 0) + more
      → times i (flat_map (λ (z : Node). map f z.quants) hs) ≡ times i (flat_map (λ (z : Node). map f z.quants) g.boxes) + more
  counts f i ea more six =
      let G : Node → List ℕ = λ (z : Node). map f z.quants in
      let e1 = times-flat G i up news in
      let e2 = times-append i (G d') (flat_map G (s' ∷ (c' ∷ low))) in
      let e3 = times-append i (G s') (flat_map G (c' ∷ low)) in
      let e4 = times-append i (G c') (flat_map G low) in
      let e5 = times-flat G i l1 l2 in
      let f3 : times i (G c') ≡ cond (f a == i) 1 0 + (cond (f (range r.id F x.id) == i) 1 0 + 0) = ap (λ v. cond (v == i) 1 0 + (cond (f (range r.id F x.id) == i) 1 0 + 0)) ea in
      let k1 = ap (λ (z : List Node). times i (flat_map G z)) at.before in
      let k2 = times-flat G i up (d ∷ (l1 ++ c ∷ l2)) in
      let k3 = times-append i (G d) (flat_map G (l1 ++ c ∷ l2)) in
      let k4 = times-flat G i l1 (c ∷ l2) in
      let k5 = times-append i (G c) (flat_map G l2) in
      let k6 : times i (G d) ≡ cond (f a == i) 1 0 + (cond (f r == i) 1 0 + 0) = ap (λ (z : List OwnedQuant). times i (map f z)) may.quants in
      let k7 : times i (G c) ≡ cond (f l == i) 1 0 + (cond (f r1 == i) 1 0 + 0) = ap (λ (z : List OwnedQuant). times i (map f z)) at.two in
      omega (arith, six, e1, e2, e3, e4, e5, f3, k1, k2, k3, k4, k5, k6, k7)

  pub once-after : (i : ℕ) → times i (ids_in hs) ≤ 1
  once-after i =
      let t = counts (λ (z : OwnedQuant). z.id) i refl (cond (p == i) 1 0 + cond (u == i) 1 0) (omega arith) in
      let z = w.once i in
      elim (cases_Bool (u == i)) [
        | inl e ↦ (
            let v = eqb-true u i e in
            let k : times i (ids_in g.boxes) ≡ 0 = subst (λ j. times j (ids_in g.boxes) ≡ 0) v new.u_new in
            let f : (p == i) ≡ false = subst (λ j. (p == j) ≡ false) v (eq-false-sym u p new.apart) in
            let b = one-of (u == i) in let b2 = nothing (p == i) f in omega (arith, t, k, b, b2))
        | inr f ↦ elim (cases_Bool (p == i)) [
          | inl e ↦ (
              let k : times i (ids_in g.boxes) ≡ 0 = subst (λ j. times j (ids_in g.boxes) ≡ 0) (eqb-true p i e) new.p_new in
              let b = one-of (p == i) in let b2 = nothing (u == i) f in omega (arith, t, k, b, b2))
          | inr k ↦ (let b = nothing (u == i) f in let b2 = nothing (p == i) k in omega (arith, t, z, b, b2))
        ]
      ]

  abbrev counted : ℕ → ℕ → ℕ
  counted b i = cond (i == b) 1 0

  -- a box that is neither new nor the magic box has the uses that it had
  pub overs-after : (b : ℕ) → (s == b) ≡ false → (m.id == b) ≡ false → times b (overs_in hs) ≡ times b (overs_in g.boxes)
  overs-after b fs fm =
      let ec = ap (counted b) may.over_c in
      let ex = ap (counted b) at.over_x in
      let ey = ap (counted b) at.over_y in
      let t = counts (λ (z : OwnedQuant). z.over) b may.over_m (cond (s == b) 1 0 + cond (m.id == b) 1 0) (omega (arith, ec, ex, ey)) in
      let k1 = nothing (s == b) fs in let k2 = nothing (m.id == b) fm in
      omega (arith, t, k1, k2)

  -- ---- widths

  pub width-d : width d' ≡ width d
  width-d =
      ap (λ z. width_by z (length d'.parts.head)) at.an_outer
      ∙ length-append (columns_from l.id 1 (width m)) (map (both_term a.id l.id (width m) (width x) r1.id (width y)) c.parts.head)
      ∙ ap₂ ◌+◌ (columns-long l.id 1 (width m)) (length-map (both_term a.id l.id (width m) (width x) r1.id (width y)) c.parts.head)
      ∙ sym (outer.wide-d g known d may l r1 x y up l1 l2 at)

  -- what a kept box had, the box of its number has
  pub kept-alike : {A : Type 0} (f : Node → A) → f d' ≡ f d → (v n : Node) → In v g.boxes → In n hs → kept v.id ≡ true → v.id ≡ n.id → f n ≡ f v
  kept-alike f same v n i j k e = elim (each-in n j) [
    | inl z ↦ ap f z ∙ same ∙ ap f (sym (same-box g.boxes v d w.ordered i may.in_d (e ∙ ap (λ (z : Node). z.id) z)))
    | inr z ↦ elim z [
      | inl z ↦ absurd (clash (s == v.id) (eq-eqb s v.id (sym (e ∙ ap (λ (z : Node). z.id) z))) (s-not v i))
      | inr z ↦ elim z [
        | inl z ↦ absurd (clash (v.id == c.id) (eq-eqb v.id c.id (e ∙ ap (λ (z : Node). z.id) z)) (not-true (v.id == c.id) k))
        | inr z ↦ ap f (same-box g.boxes n v w.ordered z.0 i (sym e))
      ]
    ]
  ]
