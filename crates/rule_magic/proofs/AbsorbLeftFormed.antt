-- G5 with a closed right operand: the graph with the outer join over the select of the magic box is well-formed.
use Rattle.std.proofs.Common.{ℕ, suc, ◌==◌, ◌≡◌, ◌≤◌, ◌+◌, ◌&&◌, ◌||◌, ◌-◌, nat_lt, cond, not, Bool, true, false, List, [], ◌∷◌, ◌++◌, map, length, Option, None, refl, sym, ap, ap₂, subst, ◌∙◌, eqb-true, ◌⊎◌, inl, inr, arith}
use Rattle.std.specs.Prelude.{slice_get}
use Rattle.std.specs.List.{flat_map, list_all}
use Rattle.std.proofs.lemmas.Bool.{and_from, and_parts, cases_Bool, eq-eqb, not-true, or_cases, or_from, or_left, or_parts, or_right}
use Rattle.sql_value.specs.declared.order_key.SqlType.{SqlType}
use Rattle.qgm_core.specs.Boxes.{Ordered, QueryGraph, has_box, ids_in, is_box, overs_in, width}
use Rattle.qgm_core.specs.Edits.{range}
use Rattle.qgm_core.specs.Free.{IsFree, named_by}
use Rattle.qgm_core.specs.Kinds.{is_S, is_magic, width_by}
use Rattle.list_laws.specs.Lists.{In, holds, times}
use Rattle.qgm_core.specs.declared.kinds.QuantKind.TheVariants.{F}
use Rattle.qgm_core.specs.declared.kinds.Role.{Role}
use Rattle.qgm_core.specs.declared.node.Node.{Node}
use Rattle.qgm_core.specs.declared.owned.OwnedQuant.{OwnedQuant}
use Rattle.qgm_wellformed.specs.Shapes.{is_scalar, is_scalar_in}
use Rattle.qgm_wellformed.specs.Types.{Lookup, cond_fits, is_known, joined_column, lookup_of, term_type}
use Rattle.qgm_wellformed.specs.WellFormed.{fault}
use Rattle.qgm_wellformed.proofs.Faults.{finds-none}
use Rattle.qgm_edit_laws.specs.Graph.{Sound}
use Rattle.qgm_edit_laws.specs.Rebuilds.{HasForm, MadeIn, Rebuilds, StaysIn}
use Rattle.qgm_edit_laws.specs.Reforms.{types_at}
use Rattle.qgm_edit_laws.proofs.BoxForms.{scalar-column}
use Rattle.qgm_edit_laws.proofs.Edits.{length-map}
use Rattle.qgm_edit_laws.proofs.FreeLoose.{looks-free}
use Rattle.qgm_edit_laws.proofs.OneUse.{map-map}
use Rattle.qgm_edit_laws.proofs.PutTypes.{all-put}
use Rattle.qgm_edit_laws.proofs.Ranks.{has-in, same-box}
use Rattle.qgm_edit_laws.proofs.Read.{any-both}
use Rattle.qgm_edit_laws.proofs.Rebuilt.{looks-exact, rebuilt, rebuilt-formed}
use Rattle.qgm_edit_laws.proofs.TypesBy.{found_by, via}
use Rattle.qgm_meaning.specs.Scope.{loose}
use Rattle.qgm_meaning.specs.Tags.{columns_from}
use Rattle.qgm_props.specs.Inferred.{Facts}
use Rattle.qgm_terms.specs.Substitution.{substituted, substituted_cond}
use Rattle.qgm_terms.specs.Terms.{Term}
use Rattle.rule_magic.specs.AbsorbOuterJoin.{OuterAt, absorbed_left}
use Rattle.rule_magic.specs.Boxes.{later, led_cond, led_term, left_box, pair_box}
use Rattle.rule_magic.specs.Places.{MayAbsorb}
use Rattle.rule_magic.proofs.AbsorbFacts as fed
use Rattle.rule_magic.proofs.AbsorbOuterFacts as outer
use Rattle.rule_magic.proofs.AbsorbSelectFormed as made
use Rattle.rule_magic.proofs.AbsorbSelectFormed.{columns-long, found-suc, length-append, map-append, swapped, times-flat}
use Rattle.rule_magic.proofs.AbsorbShared.{IsRoleOver, plain-not-magic}
use Rattle.rule_magic.proofs.BehindColumns.{columns-typed}
use Rattle.rule_magic.proofs.FrontColumns.{front-columns, front-none, front-places, front-reads, front-unfolded}
use Rattle.rule_magic.proofs.JoinedFormed.{nothing-more}
use Rattle.rule_magic.proofs.LedColumns as led
use Rattle.rule_magic.proofs.OuterFormed.{IsOuterOver, outer-form, outer-made, under-l, under-r}
use Rattle.rule_magic.proofs.PairFormed.{IsPair, pair-form, pair-made, width-pair}
use Rattle.qgm_core.proofs.Reaching.{in-has}
use Rattle.list_laws.proofs.Booleans.{and-false, clash}
use Rattle.list_laws.proofs.Counting.{times-append}
use Rattle.list_laws.proofs.Membership.{all-in, any-in, any-none, eq-false-sym, eq-itself, in-append, in-left, in-right}

module _ (g : QueryGraph) (known : Facts) (d : Node) (may : MayAbsorb g.boxes known d) (l r1 : OwnedQuant) (x y : Node) (role : Role) (up l1 l2 : List Node) (at : OuterAt g known d may l r1 x y up l1 l2) (fits : IsRoleOver g.boxes x.id role) (shut : (q : ℕ) → IsFree g.boxes y.id q → ⊥) where
  abbrev m : Node
  m = may.m

  abbrev c : Node
  c = may.c

  abbrev a : OwnedQuant
  a = may.a

  abbrev r : OwnedQuant
  r = may.r

  abbrev d' : Node
  d' = left_box d.id may.a.id l.id (width may.m) (width x) may.c (range l.id F may.c.id ∷ (range r1.id F y.id ∷ []))

  abbrev c' : Node
  c' = pair_box may.c.id role may.a.id may.m.id (width may.m) may.r.id x.id (width x)

  abbrev low : List Node
  low = l1 ++ l2

  abbrev hs : List Node
  hs = (absorbed_left g known d may l r1 x y role up l1 l2).boxes

  abbrev kept : ℕ → Bool
  kept b = not (b == c.id)

  abbrev look : ℕ → ℕ → Bool
  look b p = not (b == c.id) && loose g.boxes b p

  abbrev news : List Node
  news = left_box d.id may.a.id l.id (width may.m) (width x) may.c (range l.id F may.c.id ∷ (range r1.id F y.id ∷ [])) ∷ (pair_box may.c.id role may.a.id may.m.id (width may.m) may.r.id x.id (width x) ∷ (l1 ++ l2))

  w : Sound g.boxes g.root
  w = outer.w g known d may l r1 x y up l1 l2 at

  c-not-d : (c.id == d.id) ≡ false
  c-not-d = outer.c-not-d g known d may l r1 x y up l1 l2 at

  d-not-c : (d.id == c.id) ≡ false
  d-not-c = outer.d-not-c g known d may l r1 x y up l1 l2 at

  elsewhere : (n : Node) (z : OwnedQuant) → In n g.boxes → (n.id == d.id) ≡ false → In z n.quants → (z.over == c.id) ≡ false
  elsewhere = outer.elsewhere g known d may l r1 x y up l1 l2 at

  x-not-c : (x.id == c.id) ≡ false
  x-not-c = outer.x-not-c g known d may l r1 x y up l1 l2 at

  y-not-c : (y.id == c.id) ≡ false
  y-not-c = outer.y-not-c g known d may l r1 x y up l1 l2 at

  m-not-c : (m.id == c.id) ≡ false
  m-not-c = outer.m-not-c g known d may l r1 x y up l1 l2 at

  in-l : In l c.quants
  in-l = outer.in-l g known d may l r1 x y up l1 l2 at

  in-r1 : In r1 c.quants
  in-r1 = outer.in-r1 g known d may l r1 x y up l1 l2 at

  pub y-closed : (i : ℕ) → loose g.boxes y.id i ≡ false
  y-closed i = elim (cases_Bool (loose g.boxes y.id i)) [ inr f ↦ f | inl e ↦ absurd (shut i (looks-free g.boxes g.root w y.id i e)) ]

  -- ---- where the boxes stand

  pub in-d' : In d' hs
  in-d' = in-right d' up news (inl refl)

  pub in-c' : In c' hs
  in-c' = in-right c' up news (inr (inl refl))

  pub each-in : (n : Node) → In n hs → (n ≡ d') ⊎ ((n ≡ c') ⊎ (In n g.boxes × (((n.id == d.id) ≡ false) × ((n.id == c.id) ≡ false))))
  each-in n i = elim (in-append n up news i) [
    | inl j ↦ inr (inr (made.other-up g at.once at.formed known at.tells d may up l1 l2 at.before n j))
    | inr j ↦ elim j [
      | inl e ↦ inl (sym e)
      | inr j ↦ elim j [
        | inl e ↦ inr (inl (sym e))
        | inr z ↦ inr (inr (elim (in-append n l1 l2 z) [ inl v ↦ made.other-left g at.once at.formed known at.tells d may up l1 l2 at.before n v | inr v ↦ made.other-right g at.once at.formed known at.tells d may up l1 l2 at.before n v ]))
      ]
    ]
  ]

  pub to-hs : (n : Node) → In n g.boxes → (n.id == d.id) ≡ false → (n.id == c.id) ≡ false → In n hs
  to-hs n i e f = elim (made.place-of g at.once at.formed known at.tells d may up l1 l2 at.before n i) [
    | inl z ↦ absurd (clash (n.id == d.id) (eq-eqb n.id d.id (ap (λ (z : Node). z.id) z)) e)
    | inr z ↦ elim z [
      | inl z ↦ absurd (clash (n.id == c.id) (eq-eqb n.id c.id (ap (λ (z : Node). z.id) z)) f)
      | inr z ↦ elim z [ inl v ↦ in-left n up news v | inr v ↦ in-right n up news (inr (inr v)) ]
    ]
  ]

  in-m : In m hs
  in-m = to-hs m may.in_m (outer.m-not-d g known d may l r1 x y up l1 l2 at) m-not-c

  in-x : In x hs
  in-x = to-hs x at.in_x (outer.arm-not-d g known d may l r1 x y up l1 l2 at l x in-l at.over_x) x-not-c

  in-y : In y hs
  in-y = to-hs y at.in_y (outer.arm-not-d g known d may l r1 x y up l1 l2 at r1 y in-r1 at.over_y) y-not-c

  od : Ordered (d ∷ (l1 ++ c ∷ l2))
  od = made.od g at.once at.formed known at.tells d may up l1 l2 at.before

  oc : Ordered (c ∷ l2)
  oc = made.oc g at.once at.formed known at.tells d may up l1 l2 at.before

  more : (b : ℕ) → (b == c.id) ≡ false → has_box (l1 ++ c ∷ l2) b ≡ true → has_box (l1 ++ l2) b ≡ true
  more = made.more g at.once at.formed known at.tells d may up l1 l2 at.before

  fewer : (b : ℕ) → has_box (l1 ++ c ∷ l2) b ≡ false → has_box (l1 ++ l2) b ≡ false
  fewer = made.fewer g at.once at.formed known at.tells d may up l1 l2 at.before

  pub ordered : Ordered hs
  ordered = swapped up (d ∷ (l1 ++ c ∷ l2)) news c.id (made.ob g at.once at.formed known at.tells d may up l1 l2 at.before) (d-none, d-all, (c-none, c-all, made.low g at.once at.formed known at.tells d may up l1 l2 at.before))
      (λ b f. (
      let z = or_parts (d.id == b) (has_box (l1 ++ c ∷ l2) b) f in
      or_from (d.id == b) ((c.id == b) || has_box (l1 ++ l2) b) z.0 (or_from (c.id == b) (has_box (l1 ++ l2) b) (any-none (is_box b) c (l1 ++ c ∷ l2) z.1 (in-right c l1 (c ∷ l2) (inl refl))) (fewer b z.1))))
      (λ b f h. elim (or_cases (d.id == b) (has_box (l1 ++ c ∷ l2) b) h) [
        | inl t ↦ or_left (d.id == b) ((c.id == b) || has_box (l1 ++ l2) b) t
        | inr t ↦ or_right (d.id == b) ((c.id == b) || has_box (l1 ++ l2) b) (or_right (c.id == b) (has_box (l1 ++ l2) b) (more b f t))
      ])
      (λ n z i j. (let v = made.other-up g at.once at.formed known at.tells d may up l1 l2 at.before n i in elsewhere n z v.0 v.1.0 j))
    where
      has-arm : (z : OwnedQuant) (n : Node) → In z c.quants → z.over ≡ n.id → has_box (l1 ++ l2) n.id ≡ true
      has-arm z n j e = any-both (is_box n.id) l1 l2 ∙ or_right (has_box l1 n.id) (has_box l2 n.id) (subst (λ i. has_box l2 i ≡ true) e (all-in (λ (z : OwnedQuant). has_box l2 z.over) z c.quants oc.1 j))

      d-none : ((c.id == d.id) || has_box (l1 ++ l2) d.id) ≡ false
      d-none = or_from (c.id == d.id) (has_box (l1 ++ l2) d.id) c-not-d (fewer d.id od.0)

      d-all : (((c.id == c.id) || has_box (l1 ++ l2) c.id) && (((c.id == y.id) || has_box (l1 ++ l2) y.id) && true)) ≡ true
      d-all = and_from ((c.id == c.id) || has_box (l1 ++ l2) c.id) (((c.id == y.id) || has_box (l1 ++ l2) y.id) && true) (or_left (c.id == c.id) (has_box (l1 ++ l2) c.id) (eq-itself c.id))
          (and_from ((c.id == y.id) || has_box (l1 ++ l2) y.id) true (or_right (c.id == y.id) (has_box (l1 ++ l2) y.id) (has-arm r1 y in-r1 at.over_y)) refl)

      c-none : has_box (l1 ++ l2) c.id ≡ false
      c-none = elim (cases_Bool (has_box (l1 ++ l2) c.id)) [
        | inr f ↦ f
        | inl e ↦ absurd (
            let n = has-in c.id (l1 ++ l2) e in
            let f : (n.0.id == c.id) ≡ false = elim (in-append n.0 l1 l2 n.1.0) [ inl v ↦ (made.other-left g at.once at.formed known at.tells d may up l1 l2 at.before n.0 v).1.1 | inr v ↦ (made.other-right g at.once at.formed known at.tells d may up l1 l2 at.before n.0 v).1.1 ] in
            clash (n.0.id == c.id) (eq-eqb n.0.id c.id n.1.1) f)
      ]

      c-all : (has_box (l1 ++ l2) m.id && (has_box (l1 ++ l2) x.id && true)) ≡ true
      c-all = and_from (has_box (l1 ++ l2) m.id) (has_box (l1 ++ l2) x.id && true)
          (more m.id m-not-c (subst (λ i. has_box (l1 ++ c ∷ l2) i ≡ true) (sym may.over_m) (all-in (λ (z : OwnedQuant). has_box (l1 ++ c ∷ l2) z.over) a d.quants od.1 (outer.in-a g known d may l r1 x y up l1 l2 at))))
          (and_from (has_box (l1 ++ l2) x.id) true (has-arm l x in-l at.over_x) refl)

  -- as many of each
  same-times : (f : OwnedQuant → ℕ) (p : ℕ) → cond (f (range l.id F c.id) == p) 1 0 + cond (f (range r.id F x.id) == p) 1 0 ≡ cond (f r == p) 1 0 + cond (f l == p) 1 0 → f (range r1.id F y.id) ≡ f r1 → f (range a.id F m.id) ≡ f a
      → times p (flat_map (λ (n : Node). map f n.quants) hs) ≡ times p (flat_map (λ (n : Node). map f n.quants) g.boxes)
  same-times f p two fr fa =
      let G : Node → List ℕ = λ (n : Node). map f n.quants in
      let e1 = times-flat G p up news in
      let e2 = times-append p (G d') (flat_map G (c' ∷ low)) in
      let e3 = times-append p (G c') (flat_map G low) in
      let e4 = times-flat G p l1 l2 in
      let e5 : times p (G d') ≡ cond (f (range l.id F c.id) == p) 1 0 + (cond (f r1 == p) 1 0 + 0) = ap (λ z. cond (f (range l.id F c.id) == p) 1 0 + (cond (z == p) 1 0 + 0)) fr in
      let e6 : times p (G c') ≡ cond (f a == p) 1 0 + (cond (f (range r.id F x.id) == p) 1 0 + 0) = ap (λ z. cond (z == p) 1 0 + (cond (f (range r.id F x.id) == p) 1 0 + 0)) fa in
      let k1 = ap (λ (z : List Node). times p (flat_map G z)) at.before in
      let k2 = times-flat G p up (d ∷ (l1 ++ c ∷ l2)) in
      let k3 = times-append p (G d) (flat_map G (l1 ++ c ∷ l2)) in
      let k4 = times-flat G p l1 (c ∷ l2) in
      let k5 = times-append p (G c) (flat_map G l2) in
      let k6 : times p (G d) ≡ cond (f a == p) 1 0 + (cond (f r == p) 1 0 + 0) = ap (λ (z : List OwnedQuant). times p (map f z)) may.quants in
      let k7 : times p (G c) ≡ cond (f l == p) 1 0 + (cond (f r1 == p) 1 0 + 0) = ap (λ (z : List OwnedQuant). times p (map f z)) at.two in
      omega (arith, two, e1, e2, e3, e4, e5, e6, k1, k2, k3, k4, k5, k6, k7)

  once-after : (p : ℕ) → times p (ids_in hs) ≤ 1
  once-after p = (let v = same-times (λ (z : OwnedQuant). z.id) p (omega arith) refl refl in let z = w.once p in omega (arith, v, z))

  overs-after : (p : ℕ) → times p (overs_in hs) ≡ times p (overs_in g.boxes)
  overs-after p = same-times (λ (z : OwnedQuant). z.over) p (ap₂ (λ v z. cond (v == p) 1 0 + cond (z == p) 1 0) may.over_c (sym at.over_x)) (sym at.over_y) may.over_m

  -- ---- widths

  width-d : width d' ≡ width d
  width-d =
      ap (λ z. width_by z (length d'.parts.head)) at.an_outer
      ∙ length-append (columns_from l.id 1 (width m)) (map (led_term a.id l.id (width m) (width x)) c.parts.head)
      ∙ ap₂ ◌+◌ (columns-long l.id 1 (width m)) (length-map (led_term a.id l.id (width m) (width x)) c.parts.head)
      ∙ sym (outer.wide-d g known d may l r1 x y up l1 l2 at)

  -- what a kept box had, the box of its number has
  kept-alike : {A : Type 0} (f : Node → A) → f d' ≡ f d → (v n : Node) → In v g.boxes → In n hs → kept v.id ≡ true → v.id ≡ n.id → f n ≡ f v
  kept-alike f same v n i j k e = elim (each-in n j) [
    | inl z ↦ ap f z ∙ same ∙ ap f (sym (same-box g.boxes v d w.ordered i may.in_d (e ∙ ap (λ (z : Node). z.id) z)))
    | inr z ↦ elim z [
      | inl z ↦ absurd (clash (v.id == c.id) (eq-eqb v.id c.id (e ∙ ap (λ (z : Node). z.id) z)) (not-true (v.id == c.id) k))
      | inr z ↦ ap f (same-box g.boxes n v w.ordered z.0 i (sym e))
    ]
  ]

  -- ---- boxes that stay

  stays : (n : Node) → In n g.boxes → (n.id == d.id) ≡ false → (n.id == c.id) ≡ false → StaysIn g.boxes hs kept look n
  stays n i nd nc = record {
    within = i;
    number = ap not nc;
    same = λ p. ap (λ b. not b && loose g.boxes n.id p) nc;
    over = λ z j. (let f = elsewhere n z i nd j in (ap not f, λ p. ap (λ b. not b && loose g.boxes z.over p) f));
    named = λ z h v. elim (cases_Bool (v.0.id == d.id)) [
      | inl e ↦ (
          let same : v.0 ≡ d = same-box g.boxes v.0 d w.ordered v.1.0 may.in_d (eqb-true v.0.id d.id e) in
          elim (made.of-d g at.once at.formed known at.tells d may z (subst (λ (k : Node). In z k.quants) same v.1.1)) [
            | inl k ↦ (ap not (ap (λ (k : OwnedQuant). k.over == c.id) k ∙ made.a-elsewhere g at.once at.formed known at.tells d may up l1 l2 at.before), (range a.id F m.id, ((c', (in-c', inl refl)), (ap (λ (k : OwnedQuant). k.id) (sym k), may.over_m ∙ ap (λ (k : OwnedQuant). k.over) (sym k)))))
            | inr k ↦ absurd (made.r-unnamed g at.once at.formed known at.tells d may n i nd (subst (λ (k : OwnedQuant). holds k.id (named_by n) ≡ true) k h))
          ])
      | inr f ↦ elim (cases_Bool (v.0.id == c.id)) [
        | inl e ↦ absurd (
            let same : v.0 ≡ c = same-box g.boxes v.0 c w.ordered v.1.0 may.in_c (eqb-true v.0.id c.id e) in
            outer.arm-unnamed g known d may l r1 x y up l1 l2 at z (subst (λ (k : Node). In z k.quants) same v.1.1) n i nc h)
        | inr k ↦ (ap not (elsewhere v.0 z v.1.0 f v.1.1), (z, ((v.0, (to-hs v.0 v.1.0 f k, v.1.1)), (refl, refl))))
      ]
    ];
  }

  -- ---- boxes that are made

  looks-m : (p : ℕ) → look m.id p ≡ false
  looks-m p = ap (λ b. not (m.id == c.id) && b) (fed.closed-m g at.once at.formed known at.tells d may p) ∙ and-false (not (m.id == c.id))

  looks-y : (p : ℕ) → look y.id p ≡ false
  looks-y p = ap (λ b. not (y.id == c.id) && b) (y-closed p) ∙ and-false (not (y.id == c.id))

  pub looks-c : (p : ℕ) → look c.id p ≡ false
  looks-c p = ap (λ b. not b && loose g.boxes c.id p) (eq-itself c.id)

  pub looks-d : (p : ℕ) → look d.id p ≡ false
  looks-d p = ap (λ b. not b && loose g.boxes d.id p) d-not-c ∙ made.closed-d g at.once at.formed known at.tells d may p

  alone-x : (p : ℕ) → loose g.boxes x.id p ≡ true → p ≡ a.id
  alone-x = outer.arm-alone g known d may l r1 x y up l1 l2 at l x in-l at.over_x

  pair : IsPair hs look c' m x a.id r.id
  pair = record {
    ordered = ordered;
    once = once-after;
    in_n = in-c';
    in_m = in-m;
    in_x = in-x;
    apart = eq-false-sym r.id a.id (fed.apart g at.once at.formed known at.tells d may);
    closed = looks-m;
    alone = λ p h. alone-x p (and_parts (not (x.id == c.id)) (loose g.boxes x.id p) h).1;
    nothing = looks-c;
  }

  wide-c' : width c' ≡ width m + width x
  wide-c' = width-pair hs look c.id a.id r.id role m x pair

  leads : led.MayLead a.id l.id r1.id (width m) (width x) (width y) c
  leads = outer.leads g known d may l r1 x y up l1 l2 at

  abbrev moved : Node
  moved = led.led a.id l.id r1.id (width may.m) (width x) (width y) may.c leads

  heads : d'.parts.head ≡ columns_from l.id 1 (width m) ++ moved.parts.head
  heads = ap (λ (z : List Term). columns_from l.id 1 (width m) ++ z) (sym (map-map (substituted a.id (columns_from l.id 1 (width m))) (substituted l.id (later l.id (width m) (width x))) c.parts.head))

  conds : d'.parts.conds.items ≡ moved.parts.conds.items ++ []
  conds = sym (map-map (substituted_cond a.id (columns_from l.id 1 (width m))) (substituted_cond l.id (later l.id (width m) (width x))) c.parts.conds.items) ∙ nothing-more moved.parts.conds.items

  joined : IsOuterOver hs look d' c' y l.id r1.id
  joined = record {
    ordered = ordered;
    once = once-after;
    in_n = in-d';
    in_left = in-c';
    in_right = in-y;
    closed_left = looks-c;
    closed_right = looks-y;
    nothing = looks-d;
    an_outer = at.an_outer;
    quants = refl;
    reads = front-reads d' moved l.id r1.id (width m) 0 heads conds (led.read-led a.id l.id r1.id (width m) (width x) (width y) c leads);
    places = front-places d' moved l.id r1.id (width m) 0 heads conds (width c') (width y) (let e = wide-c' in omega (arith, e)) (omega arith) (omega arith)
        (λ p k h. elim (led.read-at-led a.id l.id r1.id (width m) (width x) (width y) c leads p k h) [ inl z ↦ inl (z.0, (z.1.0, subst (λ i. k ≤ i) (sym wide-c') z.1.1)) | inr z ↦ inr z ]);
    none = front-none d' moved l.id r1.id (width m) 0 heads conds (led.none-led a.id l.id r1.id (width m) (width x) (width y) c leads);
  }

  -- ---- rebuilt

  abbrev fresh : ℕ → Bool
  fresh b = (b == d.id) || (b == c.id)

  new-box : (n : Node) → In n hs → fresh n.id ≡ true → (n ≡ d') ⊎ (n ≡ c')
  new-box n i h = elim (each-in n i) [
    | inl z ↦ inl z
    | inr z ↦ elim z [
      | inl z ↦ inr z
      | inr z ↦ absurd (elim (or_cases (n.id == d.id) (n.id == c.id) h) [ inl e ↦ clash (n.id == d.id) e z.1.0 | inr e ↦ clash (n.id == c.id) e z.1.1 ])
    ]
  ]

  pub rebuilds : Rebuilds g.boxes hs g.root kept look fresh
  rebuilds = record {
    ordered = ordered;
    rooted = (let n = has-in g.root g.boxes w.rooted in subst (λ b. has_box hs b ≡ true) n.1.1 (held n.0 n.1.0));
    top = overs-after g.root ∙ w.top;
    once = once-after;
    wide = λ v n i j k e. kept-alike width width-d v n i j k e;
    magic = λ v n i j k e. kept-alike (λ (z : Node). is_magic z.parts.role) (plain-not-magic c.parts.role (outer.plain-c g known d may l r1 x y up l1 l2 at) ∙ sym (ap is_magic may.is_fed)) v n i j k e;
    held = λ v i k. held v i;
    used = λ b p h. overs-after b ∙ w.used b p (and_parts (not (b == c.id)) (loose g.boxes b p) h).1;
    each = λ n i. elim (each-in n i) [
      | inl z ↦ inr (or_left (n.id == d.id) (n.id == c.id) (eq-eqb n.id d.id (ap (λ (z : Node). z.id) z)))
      | inr z ↦ elim z [
        | inl z ↦ inr (or_right (n.id == d.id) (n.id == c.id) (eq-eqb n.id c.id (ap (λ (z : Node). z.id) z)))
        | inr z ↦ inl (stays n z.0 z.1.0 z.1.1)
      ]
    ];
    made = λ n i h. elim (new-box n i h) [ inl z ↦ subst (MadeIn hs look) (sym z) (outer-made hs look d' c' y l.id r1.id joined) | inr z ↦ subst (MadeIn hs look) (sym z) (pair-made hs look c.id a.id r.id role m x pair) ];
  }
    where
      held : (v : Node) → In v g.boxes → has_box hs v.id ≡ true
      held v i = elim (cases_Bool (v.id == d.id)) [
        | inl e ↦ subst (λ b. has_box hs b ≡ true) (sym (eqb-true v.id d.id e)) (in-has d' hs in-d')
        | inr f ↦ elim (cases_Bool (v.id == c.id)) [
          | inl e ↦ subst (λ b. has_box hs b ≡ true) (sym (eqb-true v.id c.id e)) (in-has c' hs in-c')
          | inr k ↦ in-has v hs (to-hs v i f k)
        ]
      ]

  pub sound-after : Sound hs g.root
  sound-after = rebuilt g.boxes hs g.root kept look fresh w rebuilds

  pub looks-after : (b p : ℕ) → has_box hs b ≡ true → loose hs b p ≡ look b p
  looks-after = looks-exact g.boxes hs g.root kept look fresh w rebuilds

  -- ---- types

  abbrev M : List (Option SqlType)
  M = types_at g.boxes m.id

  abbrev X : List (Option SqlType)
  X = types_at g.boxes x.id

  abbrev L : Lookup
  L = lookup_of g.boxes

  abbrev T : ℕ → List (Option SqlType)
  T b = cond (b == c.id) (types_at g.boxes m.id ++ types_at g.boxes x.id) (types_at g.boxes b)

  T-other : (b : ℕ) → (b == c.id) ≡ false → T b ≡ types_at g.boxes b
  T-other b f = ap (λ t. cond t (M ++ X) (types_at g.boxes b)) f

  T-c : T c.id ≡ M ++ X
  T-c = ap (λ t. cond t (M ++ X) (types_at g.boxes c.id)) (eq-itself c.id)

  long : (n : Node) → In n g.boxes → length (types_at g.boxes n.id) ≡ width n
  long = outer.long g known d may l r1 x y up l1 l2 at

  all-known : (n : Node) → In n g.boxes → list_all is_known (types_at g.boxes n.id) ≡ true
  all-known = outer.all-known g known d may l r1 x y up l1 l2 at

  -- an S quantifier that ranges over one of these two did so before
  scalar-old : (b : ℕ) → is_scalar hs b ≡ true → (n : Node) × ((z : OwnedQuant) × ((In n g.boxes) × (((n.id == d.id) ≡ false) × (In z n.quants × ((is_S z.kind ≡ true) × (z.over ≡ b))))))
  scalar-old b h =
      let n = any-in (λ (n : Node). is_scalar_in n.quants b) hs h in
      let z = any-in (λ (z : OwnedQuant). (z.over == b) && is_S z.kind) n.0.quants n.1.1 in
      let k = and_parts (z.0.over == b) (is_S z.0.kind) z.1.1 in
      elim (each-in n.0 n.1.0) [
        | inl e ↦ absurd (not-two z.0 l.id c.id r1.id y.id (subst (λ (n : Node). In z.0 n.quants) e z.1.0) k.1)
        | inr e ↦ elim e [
          | inl e ↦ absurd (not-two z.0 a.id m.id r.id x.id (subst (λ (n : Node). In z.0 n.quants) e z.1.0) k.1)
          | inr e ↦ (n.0, (z.0, (e.0, (e.1.0, (z.1.0, (k.1, eqb-true z.0.over b k.0))))))
        ]
      ]
    where
      not-two : (z : OwnedQuant) (i b j k : ℕ) → In z (range i F b ∷ (range j F k ∷ [])) → is_S z.kind ≡ true → ⊥
      not-two z i b j k v h = elim v [
        | inl e ↦ (let t : is_S F ≡ true = subst (λ (z : OwnedQuant). is_S z.kind ≡ true) (sym e) h in let o : ⊥ = cc in o)
        | inr v ↦ elim v [ inl e ↦ (let t : is_S F ≡ true = subst (λ (z : OwnedQuant). is_S z.kind ≡ true) (sym e) h in let o : ⊥ = cc in o) | inr v ↦ elim v [ ] ]
      ]

  scalar-c : is_scalar hs c.id ≡ true → ⊥
  scalar-c h = let n = scalar-old c.id h in clash (n.1.0.over == c.id) (eq-eqb n.1.0.over c.id n.1.1.1.1.1.1) (elsewhere n.0 n.1.0 n.1.1.0 n.1.1.1.0 n.1.1.1.1.0)

  scalar-d : is_scalar hs d.id ≡ true → nat_lt 0 (width d') ≡ true
  scalar-d h =
      let n = scalar-old d.id h in
      subst (λ z. nat_lt 0 z ≡ true) (sym width-d)
      (scalar-column g.boxes g.root (outer.ty g known d may l r1 x y up l1 l2 at) (outer.sh g known d may l r1 x y up l1 l2 at) n.0 d n.1.0 n.1.1.0 n.1.1.1.1.0 n.1.1.1.1.1.0 may.in_d (sym n.1.1.1.1.1.1))

  module _ (v : Sound hs g.root) where
    abbrev V : Lookup
    V = via T hs

    T-m : T m.id ≡ M
    T-m = T-other m.id m-not-c

    T-x : T x.id ≡ X
    T-x = T-other x.id x-not-c

    pair-form-c : HasForm hs g.root T c'
    pair-form-c = pair-form hs look c.id a.id r.id role m x pair g.root v T
        (T-c ∙ ap₂ (λ (v z : List (Option SqlType)). v ++ z) (sym T-m) (sym T-x)) (ap length T-m ∙ long m may.in_m) (ap length T-x ∙ long x at.in_x)
        (ap (list_all is_known) T-m ∙ all-known m may.in_m) (ap (list_all is_known) T-x ∙ all-known x at.in_x)
        (outer.seen-m g known d may l r1 x y up l1 l2 at) (outer.seen-x g known d may l r1 x y up l1 l2 at) (λ h. absurd (scalar-c h))
        (elim fits [
          | inl z ↦ inl z
          | inr z ↦ inr (z.0, eq-false-sym g.root c.id (outer.root-not-c g known d may l r1 x y up l1 l2 at), (fed.magic-m g at.once at.formed known at.tells d may, (looks-x a.id ∙ subst (λ i. loose g.boxes x.id i ≡ true) (alone-x z.1.0 z.1.1) z.1.1, λ p h. alone-x p (sym (looks-x p) ∙ h))))
        ])
      where
        looks-x : (p : ℕ) → loose hs x.id p ≡ loose g.boxes x.id p
        looks-x p = looks-after x.id p (in-has x hs in-x) ∙ ap (λ b. not b && loose g.boxes x.id p) x-not-c

    V-l : (k : ℕ) → V l.id (suc k) ≡ joined_column (slice_get (M ++ X) k)
    V-l k = ap (found_by T (suc k)) (under-l hs look d' c' y l.id r1.id joined g.root v T) ∙ found-suc T k c' ∙ ap (λ (z : List (Option SqlType)). joined_column (slice_get z k)) T-c

    V-m : map (term_type V) (columns_from l.id 1 (width m)) ≡ M
    V-m = ap (λ z. map (term_type V) (columns_from l.id 1 z)) (sym (long m may.in_m)) ∙ columns-typed V l.id [] M X V-l

    V-x : map (term_type V) (later l.id (width m) (width x)) ≡ X
    V-x = ap₂ (λ v z. map (term_type V) (columns_from l.id (suc v) z)) (sym (long m may.in_m)) (sym (long x at.in_x)) ∙ columns-typed V l.id M X [] (λ k. V-l k ∙ ap (λ (z : List (Option SqlType)). joined_column (slice_get (M ++ z) k)) (nothing-more X))

    V-r : (k : ℕ) → V r1.id k ≡ L r1.id k
    V-r k = ap (found_by T k) (under-r hs look d' c' y l.id r1.id joined g.root v T) ∙ ap (λ (z : List (Option SqlType)). cond (k == 0) None (joined_column (slice_get z (k - 1)))) (T-other y.id y-not-c) ∙ sym (outer.of-y g known d may l r1 x y up l1 l2 at k)

    same-a : map (term_type V) (columns_from l.id 1 (width m)) ≡ map (term_type L) (columns_from a.id 1 (width m))
    same-a = V-m ∙ sym (outer.L-m g known d may l r1 x y up l1 l2 at)

    same-l : map (term_type V) (later l.id (width m) (width x)) ≡ map (term_type L) (columns_from l.id 1 (width x))
    same-l = V-x ∙ sym (outer.L-x g known d may l r1 x y up l1 l2 at)

    typed-new : T d.id ≡ map (term_type V) d'.parts.head
    typed-new =
        T-other d.id d-not-c ∙ outer.types-d g known d may l r1 x y up l1 l2 at
        ∙ ap₂ (λ (v z : List (Option SqlType)). v ++ z) (sym V-m) (sym (each c.parts.head (λ z i. i)))
        ∙ sym (map-append (term_type V) (columns_from l.id 1 (width m)) (map (led_term a.id l.id (width m) (width x)) c.parts.head))
      where
        each : (zs : List Term) → ((z : Term) → In z zs → In z c.parts.head) → map (term_type V) (map (led_term a.id l.id (width m) (width x)) zs) ≡ map (term_type L) zs
        each [] sub = refl
        each (z ∷ zs) sub = ap₂ (λ (t : Option SqlType) (ts : List (Option SqlType)). t ∷ ts) (led.term-led a.id l.id r1.id (width m) (width x) (width y) c leads L V same-a same-l V-r z (sub z (inl refl))) (each zs (λ t i. sub t (inr i)))

    on-new : list_all (cond_fits V) d'.parts.conds.items ≡ true
    on-new = all-put (cond_fits V) (cond_fits L) (led_cond a.id l.id (width m) (width x)) c.parts.conds.items (led.cond-led a.id l.id r1.id (width m) (width x) (width y) c leads L V same-a same-l V-r) ∙ outer.on-c g known d may l r1 x y up l1 l2 at

    outer-form-d : HasForm hs g.root T d'
    outer-form-d = outer-form hs look d' c' y l.id r1.id joined g.root v T typed-new (ap (list_all is_known) (T-other d.id d-not-c) ∙ all-known d may.in_d) on-new
        (front-columns d' moved l.id r1.id (width m) 0 heads conds (led.columns-led a.id l.id r1.id (width m) (width x) (width y) c leads (outer.columns-c g known d may l r1 x y up l1 l2 at)))
        (front-unfolded d' moved l.id r1.id (width m) 0 heads conds (led.unfolded-led a.id l.id r1.id (width m) (width x) (width y) c leads ∙ outer.unfolded-c g known d may l r1 x y up l1 l2 at))
        (outer.plain-c g known d may l r1 x y up l1 l2 at) (outer.seen-c g known d may l r1 x y up l1 l2 at) refl (outer.seen-y g known d may l r1 x y up l1 l2 at) scalar-d

  -- the check finds nothing after it
  pub left-formed : fault (absorbed_left g known d may l r1 x y role up l1 l2) ≡ None
  left-formed = rebuilt-formed g (absorbed_left g known d may l r1 x y role up l1 l2) kept look fresh T at.once ((finds-none g at.once).1 at.formed) refl rebuilds
      (λ v i k. T-other v.id (not-true (v.id == c.id) k))
      (λ n i v f. elim (new-box n i f) [ inl z ↦ subst (λ (z : Node). HasForm hs g.root T z) (sym z) (outer-form-d v) | inr z ↦ subst (λ (z : Node). HasForm hs g.root T z) (sym z) (pair-form-c v) ])
