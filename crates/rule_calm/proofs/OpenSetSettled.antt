-- G4 with an open right operand keeps a graph settled.
use Rattle.std.proofs.Common.{ℕ, ◌==◌, ◌≡◌, ◌≤◌, ◌+◌, ◌-◌, ◌&&◌, ◌||◌, nat_le, nat_lt, not, Bool, true, false, List, length, refl, sym, ap, subst, ◌∙◌, eqb-true, inl, inr, arith, cond}
use Rattle.std.proofs.lemmas.Bool.{and_from, and_parts, cases_Bool, leb-false, leb-true, ltb-true, or_left, or_right}
use Rattle.sql_value.specs.declared.order_key.SqlType.{SqlType}
use Rattle.list_laws.specs.Lists.{In, holds}
use Rattle.list_laws.proofs.Membership.{eq-false-sym}
use Rattle.qgm_core.specs.Boxes.{QueryGraph, width}
use Rattle.qgm_core.specs.Free.{named_by}
use Rattle.qgm_core.specs.Kinds.{is_S, width_by}
use Rattle.qgm_core.specs.declared.kinds.BoxKind.{BoxKind}
use Rattle.qgm_core.specs.declared.kinds.QuantKind.TheVariants.{F}
use Rattle.qgm_core.specs.declared.kinds.SetOperator.{SetOperator}
use Rattle.qgm_core.specs.declared.node.Node.{Node}
use Rattle.qgm_core.specs.declared.owned.OwnedQuant.{OwnedQuant}
use Rattle.qgm_meaning.specs.Scope.{loose, put_node}
use Rattle.qgm_meaning.specs.Tags.{columns_from}
use Rattle.qgm_terms.specs.Terms.{Term}
use Rattle.qgm_edit_laws.specs.Graph.{Sound}
use Rattle.qgm_edit_laws.specs.Rebuilds.{Rebuilds, IsOwned}
use Rattle.qgm_edit_laws.specs.Shaped.{Shaped}
use Rattle.qgm_props.specs.Calm.{calm_magic}
use Rattle.qgm_props.specs.Inferred.{Closed, Facts, arms_error_free, at_place, clean_by, clean_op, error_free_under, free_by, is_free, under_two}
use Rattle.qgm_props.proofs.Settled.{all-told}
use Rattle.rule_magic.specs.AbsorbSetOperation.{SetAt, renamed_set}
use Rattle.rule_magic.specs.Boxes.{pair_box, set_box}
use Rattle.rule_magic.specs.Places.{MayAbsorb}
use Rattle.rule_magic.proofs.AbsorbFacts as fed
use Rattle.rule_calm.specs.Settled.{IsFirm, IsSettled, SettledBox}
use Rattle.rule_calm.proofs.FedSettled as of_fed
use Rattle.rule_calm.proofs.FedSettled.{clean-by, free-by}
use Rattle.rule_calm.proofs.Framed.{Carried, firm-single, gone-covers, known-clean, known-free, range-is, settled-from, told-closed, OwnedAs}
use Rattle.rule_calm.proofs.HeadPlaces.{place-only, place-split}
use Rattle.rule_calm.proofs.OperatorFacts.{column-op, op-clean, op-column, op-moved, place-at, places-from}
use Rattle.rule_calm.proofs.PairSettled.{pair-clean, pair-first, pair-second, pair-settled}
use Rattle.rule_calm.proofs.RebuiltSettled.{carries}
use Rattle.list_laws.proofs.Booleans.{clash}
use Rattle.qgm_core.specs.Edits.{range}
use Rattle.qgm_core.specs.declared.kinds.Role.{Role}
use Rattle.qgm_edit_laws.proofs.Ranks.{same-box}
use Rattle.rule_magic.specs.Region.{is_below}
use Rattle.rule_magic.proofs.AbsorbOpenSet.{looks_of}
use Rattle.rule_magic.proofs.AbsorbSelectFormed as one
use Rattle.rule_magic.proofs.AbsorbShared.{IsRoleOver}
use Rattle.rule_calm.proofs.BelowSettled as below
use Rattle.rule_calm.proofs.BelowSettled.{RenamingBelow}
use Rattle.rule_calm.proofs.LeftSettled.{role-not-magic}
use Rattle.rule_magic.proofs.AbsorbOpenSet as made
use Rattle.rule_magic.proofs.AbsorbSetFormed as base

module _ (g : QueryGraph) (known : Facts) (d : Node) (may : MayAbsorb g.boxes known d) (form : SetOperator) (ts mt : List SqlType) (l r1 : OwnedQuant) (x y : Node) (s u p : ℕ) (lr rr : Role) (up l1 l2 : List Node) (at : SetAt g known d may form ts mt l r1 x y s u p up l1 l2)
    (opened : loose g.boxes y.id may.a.id ≡ true) (fits_left : IsRoleOver g.boxes x.id lr) (fits_right : IsRoleOver g.boxes y.id rr) (each : (n : Node) → In n g.boxes → SettledBox g.boxes known g.root n) where
  abbrev bs : List Node
  bs = g.boxes

  abbrev hs : List Node
  hs = (renamed_set g known d may form mt l r1 x y s u p lr rr up l1 l2).boxes

  abbrev c : Node
  c = may.c

  abbrev m : Node
  m = may.m

  abbrev a : OwnedQuant
  a = may.a

  abbrev r : OwnedQuant
  r = may.r

  abbrev d' : Node
  d' = set_box d.id form mt may.r.id may.c.id u s

  abbrev s' : Node
  s' = pair_box s rr p may.m.id (width may.m) r1.id y.id (width y)

  abbrev c' : Node
  c' = pair_box may.c.id lr may.a.id may.m.id (width may.m) l.id x.id (width x)

  abbrev kn : Facts
  kn = (all-told (renamed_set g known d may form mt l r1 x y s u p lr rr up l1 l2).boxes).0

  abbrev kept : ℕ → Bool
  kept b = not (b == may.c.id)

  abbrev look : ℕ → ℕ → Bool
  look b q = looks_of g.boxes may.c.id r1.over may.a.id p b q

  abbrev fresh : ℕ → Bool
  fresh b = (b == d.id) || ((b == s) || ((b == may.c.id) || (is_below g.boxes r1.over b && loose g.boxes b may.a.id)))

  abbrev put : Node → Node
  put n = put_node may.a.id (columns_from p 1 (width may.m)) n

  abbrev ren : Node → Node
  ren n = cond (is_below g.boxes r1.over n.id) (put_node may.a.id (columns_from p 1 (width may.m)) n) n

  w : Sound g.boxes g.root
  w = base.w g known d may form ts mt l r1 x y s u p lr rr up l1 l2 at

  sh : Shaped g.boxes g.root
  sh = base.sh g known d may form ts mt l r1 x y s u p lr rr up l1 l2 at

  v : Sound hs g.root
  v = made.sound-after g known d may form ts mt l r1 x y s u p lr rr up l1 l2 at opened

  rebuilds : Rebuilds g.boxes hs g.root kept look fresh
  rebuilds = made.rebuilds g known d may form ts mt l r1 x y s u p lr rr up l1 l2 at opened

  closed : Closed hs kn
  closed = told-closed hs kn (all-told hs).1

  in-d' : In d' hs
  in-d' = made.in-d' g known d may form ts mt l r1 x y s u p lr rr up l1 l2 at opened

  in-s' : In s' hs
  in-s' = made.in-s' g known d may form ts mt l r1 x y s u p lr rr up l1 l2 at opened

  in-c' : In c' hs
  in-c' = made.in-c' g known d may form ts mt l r1 x y s u p lr rr up l1 l2 at opened

  elsewhere : (n : Node) (z : OwnedQuant) → In n g.boxes → (n.id == d.id) ≡ false → In z n.quants → (z.over == c.id) ≡ false
  elsewhere = base.elsewhere g known d may form ts mt l r1 x y s u p lr rr up l1 l2 at

  -- ---- what is below the right operand

  -- what another box than these names is there after
  named-after : (n : Node) → In n bs → (n.id == d.id) ≡ false → (n.id == c.id) ≡ false → (z : OwnedQuant) → holds z.id (named_by n) ≡ true → IsOwned bs z → (kept z.over ≡ true) × OwnedAs hs z
  named-after n i nd nc z h o = elim (cases_Bool (o.0.id == d.id)) [
    | inl e ↦ (
        let same : o.0 ≡ d = same-box g.boxes o.0 d w.ordered o.1.0 may.in_d (eqb-true o.0.id d.id e) in
        elim (one.of-d g at.once at.formed known at.tells d may z (subst (λ (k : Node). In z k.quants) same o.1.1)) [
          | inl k ↦ (ap not (ap (λ (k : OwnedQuant). k.over == c.id) k ∙ one.a-elsewhere g at.once at.formed known at.tells d may up l1 l2 at.before), (range a.id F m.id, ((c', (in-c', inl refl)), (ap (λ (k : OwnedQuant). k.id) (sym k), may.over_m ∙ ap (λ (k : OwnedQuant). k.over) (sym k)))))
          | inr k ↦ absurd (one.r-unnamed g at.once at.formed known at.tells d may n i nd (subst (λ (k : OwnedQuant). holds k.id (named_by n) ≡ true) k h))
        ])
    | inr f ↦ elim (cases_Bool (o.0.id == c.id)) [
      | inl e ↦ (
          let same : o.0 ≡ c = same-box g.boxes o.0 c w.ordered o.1.0 may.in_c (eqb-true o.0.id c.id e) in
          let still : kept z.over ≡ true = ap not (elsewhere o.0 z o.1.0 f o.1.1) in
          base.of-c g known d may form ts mt l r1 x y s u p lr rr up l1 l2 at (λ (k : OwnedQuant). k ≡ z → (kept z.over ≡ true) × OwnedAs hs z)
          (λ k. (still, (range l.id F x.id, ((c', (in-c', inr (inl refl))), (ap (λ (k : OwnedQuant). k.id) k, sym at.over_x ∙ ap (λ (k : OwnedQuant). k.over) k)))))
          (λ k. (still, (range r1.id F y.id, ((s', (in-s', inr (inl refl))), (ap (λ (k : OwnedQuant). k.id) k, sym at.over_y ∙ ap (λ (k : OwnedQuant). k.over) k)))))
          z (subst (λ (k : Node). In z k.quants) same o.1.1) refl)
      | inr k ↦ (
        ap not (elsewhere o.0 z o.1.0 f o.1.1),
        (z, ((ren o.0, (made.in-ren g known d may form ts mt l r1 x y s u p lr rr up l1 l2 at opened o.0 (base.to-hs g known d may form ts mt l r1 x y s u p lr rr up l1 l2 at o.0 o.1.0 f k), subst (λ (k : List OwnedQuant). In z k) (sym (made.ren-quants g known d may form ts mt l r1 x y s u p lr rr up l1 l2 at opened o.0)) o.1.1)), (refl, refl))),
      )
    ]
  ]

  renaming : RenamingBelow g known d may hs r1.over s p
  renaming = record {
    rebuilds = rebuilds;
    stand = λ n i t. subst (λ (z : Node). In z hs) (ap (λ z. cond z (put n) n) t)
        (made.in-ren g known d may form ts mt l r1 x y s u p lr rr up l1 l2 at opened n (base.to-hs g known d may form ts mt l r1 x y s u p lr rr up l1 l2 at n i (not-at n.id d.id t not-below-d) (not-at n.id c.id t not-below-c)));
    new = λ n i. eq-false-sym s n.id (base.s-not g known d may form ts mt l r1 x y s u p lr rr up l1 l2 at n i);
    named = named-after;
    apart = (made.region g known d may form ts mt l r1 x y s u p lr rr up l1 l2 at opened).apart;
    beside_c = not-below-c;
    beside_d = not-below-d;
    over_m = (s', (in-s', inl refl));
  }
    where
      not-below-c : is_below g.boxes r1.over c.id ≡ false
      not-below-c = made.not-below-c g known d may form ts mt l r1 x y s u p lr rr up l1 l2 at opened

      not-below-d : is_below g.boxes r1.over d.id ≡ false
      not-below-d = made.not-below-d g known d may form ts mt l r1 x y s u p lr rr up l1 l2 at opened

      not-at : (b e : ℕ) → is_below g.boxes r1.over b ≡ true → is_below g.boxes r1.over e ≡ false → (b == e) ≡ false
      not-at b e t f = elim (cases_Bool (b == e)) [ inr n ↦ n | inl k ↦ absurd (clash (is_below g.boxes r1.over b) t (subst (λ z. is_below g.boxes r1.over z ≡ false) (sym (eqb-true b e k)) f)) ]

  firm : (b : ℕ) → IsFirm bs b → kept b ≡ true → IsFirm hs b
  firm = below.firm g at.once at.formed known at.tells d may hs r1.over s p renaming kn closed each

  abbrev low : ℕ → Bool
  low = of_fed.low g at.once at.formed known at.tells d may

  m-low : low m.id ≡ true
  m-low = of_fed.m-low g at.once at.formed known at.tells d may

  part : Carried known kn low
  part = below.part g at.once at.formed known at.tells d may hs r1.over s p renaming kn closed each

  arm-low : (q : OwnedQuant) → In q c.quants → low q.over ≡ true
  arm-low q j = of_fed.low-over g at.once at.formed known at.tells d may c q may.in_c (of_fed.c-under g at.once at.formed known at.tells d may) (of_fed.c-not-d g at.once at.formed known at.tells d may) j

  x-low : low x.id ≡ true
  x-low = subst (λ b. low b ≡ true) at.over_x (arm-low l (base.in-l g known d may form ts mt l r1 x y s u p lr rr up l1 l2 at))

  y-low : low y.id ≡ true
  y-low = subst (λ b. low b ≡ true) at.over_y (arm-low r1 (base.in-r1 g known d may form ts mt l r1 x y s u p lr rr up l1 l2 at))

  m-clean : kn.clean m.id ≡ true
  m-clean = part.clean m.id m-low may.clean

  m-free : (k : ℕ) → 1 ≤ k → k ≤ width m → kn.error_free m.id k ≡ true
  m-free k s l = part.error_free m.id k m-low (place-at (width m) (known.error_free m.id) may.columns k s l)

  -- what holds under both operands of c
  arms : (f : ℕ → Bool) → under_two f c.quants ≡ true → (f x.id ≡ true) × (f y.id ≡ true)
  arms f h =
      let z = and_parts (f l.over) (f r1.over) (subst (λ (qs : List OwnedQuant). under_two f qs ≡ true) at.two h) in
      (subst (λ b. f b ≡ true) at.over_x z.0, subst (λ b. f b ≡ true) at.over_y z.1)

  c-clean : clean_op bs known form (length ts) c.quants ≡ true
  c-clean = subst (λ (k : BoxKind). clean_by bs known k c ≡ true) at.a_set (clean-by bs known at.tells g.root w c may.in_c (of_fed.c-clean g at.once at.formed known at.tells d may each))

  both-clean : (known.clean x.id ≡ true) × (known.clean y.id ≡ true)
  both-clean = arms known.clean (op-clean bs hs known kn form (length ts) c.quants c-clean)

  now-c : kn.clean c.id ≡ true
  now-c = pair-clean hs g.root v kn closed c.id lr a.id m.id (width m) l.id x.id (width x) in-c' m-clean (part.clean x.id x-low both-clean.0)

  now-s : kn.clean s ≡ true
  now-s = pair-clean hs g.root v kn closed s rr p m.id (width m) r1.id y.id (width y) in-s' m-clean (part.clean y.id y-low both-clean.1)

  wide-x : width x ≡ length ts
  wide-x = base.wide-arm g known d may form ts mt l r1 x y s u p lr rr up l1 l2 at l x (base.in-l g known d may form ts mt l r1 x y s u p lr rr up l1 l2 at) at.over_x at.in_x

  wide-y : width y ≡ length ts
  wide-y = base.wide-arm g known d may form ts mt l r1 x y s u p lr rr up l1 l2 at r1 y (base.in-r1 g known d may form ts mt l r1 x y s u p lr rr up l1 l2 at) at.over_y at.in_y

  -- the columns of the magic box, and those of the operands
  first-free : (k : ℕ) → 1 ≤ k → k ≤ width m → under_two (λ b. kn.error_free b k) d'.quants ≡ true
  first-free k i j = and_from (kn.error_free c.id k) (kn.error_free s k)
      (pair-first hs g.root v kn closed c.id lr a.id m.id (width m) l.id x.id (width x) in-c' k i j (m-free k i j))
      (pair-first hs g.root v kn closed s rr p m.id (width m) r1.id y.id (width y) in-s' k i j (m-free k i j))

  second-free : (j k : ℕ) → k ≡ width m + j → 1 ≤ j → j ≤ length ts → under_two (λ b. known.error_free b j) c.quants ≡ true → under_two (λ b. kn.error_free b k) d'.quants ≡ true
  second-free j k e i n h =
      let z = arms (λ b. known.error_free b j) h in
      and_from (kn.error_free c.id k) (kn.error_free s k)
      (pair-second hs g.root v kn closed c.id lr a.id m.id (width m) l.id x.id (width x) in-c' j k e i (subst (λ o. j ≤ o) (sym wide-x) n) (part.error_free x.id j x-low z.0))
      (pair-second hs g.root v kn closed s rr p m.id (width m) r1.id y.id (width y) in-s' j k e i (subst (λ o. j ≤ o) (sym wide-y) n) (part.error_free y.id j y-low z.1))

  now-arms : arms_error_free bs known (length ts) c.quants ≡ true → arms_error_free hs kn (length mt) d'.quants ≡ true
  now-arms h = places-from (length mt) (λ k. under_two (λ b. kn.error_free b k) d'.quants) (λ k i j. elim (cases_Bool (nat_le k (width m))) [
    | inl t ↦ first-free k i (leb-true k (width m) t)
    | inr f ↦ (
        let o = leb-false k (width m) f in
        let long = base.long-mt g known d may form ts mt l r1 x y s u p lr rr up l1 l2 at in
        let e : k ≡ width m + (k - width m) = omega (arith, o) in
        let one : 1 ≤ k - width m = omega (arith, o) in
        let most : k - width m ≤ length ts = omega (arith, o, j, long) in
        second-free (k - width m) k e one most (place-at (length ts) (λ k. under_two (λ b. known.error_free b k) c.quants) h (k - width m) one most))
  ])

  now-d : kn.clean d.id ≡ true
  now-d = known-clean hs v.ordered kn closed d' in-d' (op-moved bs hs known kn (length ts) (length mt) c.quants d'.quants (λ h. and_from (kn.clean c.id) (kn.clean s) now-c now-s) now-arms form c-clean)

  of-r : (j : ℕ) → error_free_under bs known r.id j ≡ true → known.error_free c.id j ≡ true
  of-r j h = subst (λ b. known.error_free b j ≡ true) (sym may.over_c) (sym (range-is bs g.root w (λ b. known.error_free b j) r (d, (may.in_d, fed.in-r g at.once at.formed known at.tells d may))) ∙ h)

  now-free : (k : ℕ) → known.error_free d.id k ≡ true → kn.error_free d.id k ≡ true
  now-free k h =
      let z = free-by bs known at.tells g.root w d may.in_d k h in
      let start : 1 ≤ k = ltb-true 0 k (and_parts (nat_lt 0 k) (nat_le k (width d)) z.0).0 in
      let two : under_two (λ b. kn.error_free b k) d'.quants ≡ true = (elim (place-split (is_free bs known false) a.id (width m) (columns_from r.id 1 (width c)) k
      (subst (λ (t : List Term). at_place (is_free bs known false) t k ≡ true) (fed.head-is g at.once at.formed known at.tells d may) (subst (λ (t : BoxKind). free_by bs known t d k ≡ true) (fed.kind_d g at.once at.formed known at.tells d may) z.1))) [
        | inl o ↦ first-free k start o.0
        | inr o ↦ (
            let f = free-by bs known at.tells g.root w c may.in_c o.0 (of-r o.0 (place-only (is_free bs known false) r.id (width c) o.0 o.1.1)) in
            let n = and_parts (nat_lt 0 o.0) (nat_le o.0 (width c)) f.0 in
            let wide : width c ≡ length ts = ap (λ t. width_by t (length c.parts.head)) at.a_set in
            second-free o.0 k o.1.0 (ltb-true 0 o.0 n.0) (subst (λ t. o.0 ≤ t) wide (leb-true o.0 (width c) n.1)) (op-column bs hs known kn form c.id o.0 c.quants (subst (λ (t : BoxKind). free_by bs known t c o.0 ≡ true) at.a_set f.1)))
      ]) in
      known-free hs v.ordered kn closed d' in-d' k (subst (λ o. (nat_lt 0 k && nat_le k o) ≡ true) (sym (base.width-d g known d may form ts mt l r1 x y s u p lr rr up l1 l2 at)) z.0)
      (column-op hs bs kn known form d.id k d'.quants now-d two)

  -- ---- all boxes after it

  carried : Carried known kn kept
  carried = carries bs hs g.root w v sh kept known kn closed each firm at.tells (λ n i. elim (cases_Bool (n.id == d.id)) [
    | inl e ↦ (
        let id = eqb-true n.id d.id e in
        inr (record { clean = λ k x y. subst (λ b. kn.clean b ≡ true) (sym id) now-d; error_free = λ q k x l y. subst (λ b. kn.error_free b q ≡ true) (sym id) (now-free q (subst (λ b. known.error_free b q ≡ true) id x)) }))
    | inr f ↦ elim (cases_Bool (n.id == c.id)) [
      | inr k ↦ below.other-covers g at.once at.formed known at.tells d may hs r1.over s p renaming kn closed each n i f k
      | inl k ↦ inr (gone-covers bs hs known kn kept n (ap not k))
    ]
  ])

  settled-d : SettledBox hs kn g.root d'
  settled-d = settled-from hs kn g.root d' (or_right (d.id == g.root) (kn.clean d.id) now-d) refl (or_left true (calm_magic hs kn d') refl) refl scalars (firm-single hs v.ordered kn closed)
    where
      scalars : (q : OwnedQuant) → In q d'.quants → is_S q.kind ≡ true → IsFirm hs q.over
      scalars q j t = elim j [
        | inl e ↦ absurd (let z : is_S F ≡ true = ap (λ (s : OwnedQuant). is_S s.kind) e ∙ t in let y : ⊥ = cc in y)
        | inr j ↦ elim j [
          | inl e ↦ absurd (let z : is_S F ≡ true = ap (λ (s : OwnedQuant). is_S s.kind) e ∙ t in let y : ⊥ = cc in y)
          | inr z ↦ elim z [ ]
        ]
      ]

  pub open-set-settled : IsSettled (renamed_set g known d may form mt l r1 x y s u p lr rr up l1 l2)
  open-set-settled = record {
    known = kn;
    tells = (all-told hs).1;
    each = λ n i. elim (made.each-in g known d may form ts mt l r1 x y s u p lr rr up l1 l2 at opened n i) [
      | inl z ↦ subst (SettledBox hs kn g.root) (sym z) settled-d
      | inr z ↦ elim z [
        | inl z ↦ subst (SettledBox hs kn g.root) (sym z) (pair-settled hs g.root v kn closed s rr p m.id (width m) r1.id y.id (width y) in-s' (role-not-magic g.boxes y.id rr fits_right) now-s)
        | inr z ↦ elim z [
          | inl z ↦ subst (SettledBox hs kn g.root) (sym z) (pair-settled hs g.root v kn closed c.id lr a.id m.id (width m) l.id x.id (width x) in-c' (role-not-magic g.boxes x.id lr fits_left) now-c)
          | inr z ↦ below.other-settled g at.once at.formed known at.tells d may hs r1.over s p renaming kn closed each carried n z.0 i z.1.0 z.1.1.0 z.1.1.1.0 z.1.1.1.1
        ]
      ]
    ];
  }
