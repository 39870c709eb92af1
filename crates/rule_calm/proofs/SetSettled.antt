-- G4 with a closed right operand keeps a graph settled.
use Rattle.std.proofs.Common.{ℕ, ◌==◌, ◌≡◌, ◌≤◌, ◌+◌, ◌-◌, ◌&&◌, ◌||◌, nat_le, nat_lt, not, Bool, true, false, List, length, refl, sym, ap, subst, ◌∙◌, eqb-true, inl, inr, arith}
use Rattle.std.proofs.lemmas.Bool.{and_from, and_parts, cases_Bool, leb-false, leb-true, ltb-true, not-true, or_from, or_left, or_right}
use Rattle.sql_value.specs.declared.order_key.SqlType.{SqlType}
use Rattle.list_laws.specs.Lists.{In}
use Rattle.list_laws.proofs.Membership.{eq-false-sym}
use Rattle.qgm_core.specs.Boxes.{QueryGraph, width}
use Rattle.qgm_core.specs.Free.{IsFree}
use Rattle.qgm_core.specs.Kinds.{is_S, width_by}
use Rattle.qgm_core.specs.declared.kinds.BoxKind.{BoxKind}
use Rattle.qgm_core.specs.declared.kinds.QuantKind.TheVariants.{F}
use Rattle.qgm_core.specs.declared.kinds.Role.TheVariants.{Fed, Plain}
use Rattle.qgm_core.specs.declared.kinds.SetOperator.{SetOperator}
use Rattle.qgm_core.specs.declared.node.Node.{Node}
use Rattle.qgm_core.specs.declared.owned.OwnedQuant.{OwnedQuant}
use Rattle.qgm_meaning.specs.Scope.{loose}
use Rattle.qgm_meaning.specs.Tags.{columns_from}
use Rattle.qgm_terms.specs.Terms.{Term}
use Rattle.qgm_edit_laws.specs.Graph.{Sound}
use Rattle.qgm_edit_laws.specs.Rebuilds.{Rebuilds}
use Rattle.qgm_edit_laws.specs.Shaped.{Shaped}
use Rattle.qgm_props.specs.Calm.{calm_magic}
use Rattle.qgm_props.specs.Inferred.{Closed, Facts, arms_error_free, at_place, clean_by, clean_op, error_free_under, free_by, is_free, under_two}
use Rattle.qgm_props.proofs.Settled.{all-told}
use Rattle.rule_magic.specs.AbsorbSetOperation.{SetAt, absorbed_set}
use Rattle.rule_magic.specs.Boxes.{pair_box, set_box}
use Rattle.rule_magic.specs.Places.{MayAbsorb}
use Rattle.rule_magic.proofs.AbsorbFacts as fed
use Rattle.rule_magic.proofs.AbsorbSetFormed as made
use Rattle.rule_calm.specs.Settled.{IsFirm, IsSettled, SettledBox}
use Rattle.rule_calm.proofs.FedSettled as of_fed
use Rattle.rule_calm.proofs.FedSettled.{clean-by, free-by}
use Rattle.rule_calm.proofs.Framed.{Carried, Still, firm-single, firm-stays, gone-covers, known-clean, known-free, range-is, settled-from, still-firm, told-closed}
use Rattle.rule_calm.proofs.HeadPlaces.{place-only, place-split}
use Rattle.rule_calm.proofs.OperatorFacts.{column-op, op-clean, op-column, op-moved, place-at, places-from}
use Rattle.rule_calm.proofs.PairSettled.{pair-clean, pair-first, pair-second, pair-settled}
use Rattle.rule_calm.proofs.PartFacts.{part-carried, still-in-part}
use Rattle.rule_calm.proofs.RebuiltSettled.{before-still, carries, still-is-settled}

module _ (g : QueryGraph) (known : Facts) (d : Node) (may : MayAbsorb g.boxes known d) (form : SetOperator) (ts mt : List SqlType) (l r1 : OwnedQuant) (x y : Node) (s u p : ℕ) (up l1 l2 : List Node) (at : SetAt g known d may form ts mt l r1 x y s u p up l1 l2)
    (shut : (i : ℕ) → IsFree g.boxes y.id i → ⊥) (each : (n : Node) → In n g.boxes → SettledBox g.boxes known g.root n) where
  abbrev bs : List Node
  bs = g.boxes

  abbrev hs : List Node
  hs = (absorbed_set g known d may form mt l r1 x y s u p Fed Plain up l1 l2).boxes

  abbrev c : Node
  c = may.c

  abbrev m : Node
  m = may.m

  abbrev a : OwnedQuant
  a = may.a

  abbrev r : OwnedQuant
  r = may.r

  abbrev d' : Node
  d' = set_box d.id form mt may.r.id may.c.id u s

  abbrev s' : Node
  s' = pair_box s Plain p may.m.id (width may.m) r1.id y.id (width y)

  abbrev c' : Node
  c' = pair_box may.c.id Fed may.a.id may.m.id (width may.m) l.id x.id (width x)

  abbrev kn : Facts
  kn = (all-told (absorbed_set g known d may form mt l r1 x y s u p Fed Plain up l1 l2).boxes).0

  abbrev kept : ℕ → Bool
  kept b = not (b == may.c.id)

  abbrev look : ℕ → ℕ → Bool
  look b q = not (b == may.c.id) && loose g.boxes b q

  abbrev fresh : ℕ → Bool
  fresh b = (b == d.id) || ((b == s) || (b == may.c.id))

  w : Sound g.boxes g.root
  w = made.w g known d may form ts mt l r1 x y s u p Fed Plain up l1 l2 at

  sh : Shaped g.boxes g.root
  sh = made.sh g known d may form ts mt l r1 x y s u p Fed Plain up l1 l2 at

  v : Sound hs g.root
  v = made.sound-after g known d may form ts mt l r1 x y s u p Fed Plain up l1 l2 at refl refl shut

  rebuilds : Rebuilds g.boxes hs g.root kept look fresh
  rebuilds = made.rebuilds g known d may form ts mt l r1 x y s u p Fed Plain up l1 l2 at refl refl shut

  closed : Closed hs kn
  closed = told-closed hs kn (all-told hs).1

  in-d' : In d' hs
  in-d' = made.in-d' g known d may form ts mt l r1 x y s u p Fed Plain up l1 l2 at

  in-s' : In s' hs
  in-s' = made.in-s' g known d may form ts mt l r1 x y s u p Fed Plain up l1 l2 at

  in-c' : In c' hs
  in-c' = made.in-c' g known d may form ts mt l r1 x y s u p Fed Plain up l1 l2 at

  stays : (n : Node) → In n bs → (n.id == d.id) ≡ false → (n.id == c.id) ≡ false → Still bs hs kept n
  stays n i nd nc = before-still g.boxes hs g.root kept look fresh w rebuilds n i (ap not nc)
      (or_from (n.id == d.id) ((n.id == s) || (n.id == c.id)) nd (or_from (n.id == s) (n.id == c.id) (eq-false-sym s n.id (made.s-not g known d may form ts mt l r1 x y s u p Fed Plain up l1 l2 at n i)) nc))

  not-c : (b : ℕ) → kept b ≡ true → (b == c.id) ≡ false
  not-c b k = not-true (b == c.id) k

  firm : (b : ℕ) → IsFirm bs b → kept b ≡ true → IsFirm hs b
  firm = firm-stays bs hs kept (λ n i k. elim (cases_Bool (n.id == d.id)) [
    | inl e ↦ inr (λ z. of_fed.not-firm g at.once at.formed known at.tells d may (subst (IsFirm bs) (eqb-true n.id d.id e) z))
    | inr f ↦ inl (still-firm bs hs kept n (stays n i f (not-c n.id k)))
  ])

  -- ---- what is below

  abbrev low : ℕ → Bool
  low = of_fed.low g at.once at.formed known at.tells d may

  low-kept : (b : ℕ) → low b ≡ true → kept b ≡ true
  low-kept b h = ap not (of_fed.low-not-c g at.once at.formed known at.tells d may b h)

  part : Carried known kn low
  part = part-carried bs hs g.root w v sh known kn at.tells closed each kept firm low low-kept (λ n i k. (
      let z = of_fed.low-under g at.once at.formed known at.tells d may n.id k in
      let e = of_fed.low-not-d g at.once at.formed known at.tells d may n.id k in
      let f = of_fed.low-not-c g at.once at.formed known at.tells d may n.id k in
      inl (still-in-part bs hs g.root w v sh known kn at.tells closed each kept firm low low-kept n (stays n i e f) k
      (λ q j. of_fed.low-over g at.once at.formed known at.tells d may n q i z e j) (λ q h o. of_fed.low-named g at.once at.formed known at.tells d may n q i z e h o))))

  arm-low : (q : OwnedQuant) → In q c.quants → low q.over ≡ true
  arm-low q j = of_fed.low-over g at.once at.formed known at.tells d may c q may.in_c (of_fed.c-under g at.once at.formed known at.tells d may) (of_fed.c-not-d g at.once at.formed known at.tells d may) j

  x-low : low x.id ≡ true
  x-low = subst (λ b. low b ≡ true) at.over_x (arm-low l (made.in-l g known d may form ts mt l r1 x y s u p Fed Plain up l1 l2 at))

  y-low : low y.id ≡ true
  y-low = subst (λ b. low b ≡ true) at.over_y (arm-low r1 (made.in-r1 g known d may form ts mt l r1 x y s u p Fed Plain up l1 l2 at))

  m-low : low m.id ≡ true
  m-low = of_fed.m-low g at.once at.formed known at.tells d may

  m-clean : kn.clean m.id ≡ true
  m-clean = part.clean m.id m-low may.clean

  m-free : (k : ℕ) → 1 ≤ k → k ≤ width m → kn.error_free m.id k ≡ true
  m-free k s l = part.error_free m.id k m-low (place-at (width m) (known.error_free m.id) may.columns k s l)

  -- what holds under both operands of c
  arms : (f : ℕ → Bool) → under_two f c.quants ≡ true → (f x.id ≡ true) × (f y.id ≡ true)
  arms f h =
      let z = and_parts (f l.over) (f r1.over) (subst (λ (qs : List OwnedQuant). under_two f qs ≡ true) at.two h) in
      (subst (λ b. f b ≡ true) at.over_x z.0, subst (λ b. f b ≡ true) at.over_y z.1)

  c-clean : clean_op bs known form (length ts) c.quants ≡ true
  c-clean = subst (λ (k : BoxKind). clean_by bs known k c ≡ true) at.a_set (clean-by bs known at.tells g.root w c may.in_c (of_fed.c-clean g at.once at.formed known at.tells d may each))

  both-clean : (known.clean x.id ≡ true) × (known.clean y.id ≡ true)
  both-clean = arms known.clean (op-clean bs hs known kn form (length ts) c.quants c-clean)

  now-c : kn.clean c.id ≡ true
  now-c = pair-clean hs g.root v kn closed c.id Fed a.id m.id (width m) l.id x.id (width x) in-c' m-clean (part.clean x.id x-low both-clean.0)

  now-s : kn.clean s ≡ true
  now-s = pair-clean hs g.root v kn closed s Plain p m.id (width m) r1.id y.id (width y) in-s' m-clean (part.clean y.id y-low both-clean.1)

  wide-x : width x ≡ length ts
  wide-x = made.wide-arm g known d may form ts mt l r1 x y s u p Fed Plain up l1 l2 at l x (made.in-l g known d may form ts mt l r1 x y s u p Fed Plain up l1 l2 at) at.over_x at.in_x

  wide-y : width y ≡ length ts
  wide-y = made.wide-arm g known d may form ts mt l r1 x y s u p Fed Plain up l1 l2 at r1 y (made.in-r1 g known d may form ts mt l r1 x y s u p Fed Plain up l1 l2 at) at.over_y at.in_y

  -- the columns of the magic box, and those of the operands
  first-free : (k : ℕ) → 1 ≤ k → k ≤ width m → under_two (λ b. kn.error_free b k) d'.quants ≡ true
  first-free k i j = and_from (kn.error_free c.id k) (kn.error_free s k)
      (pair-first hs g.root v kn closed c.id Fed a.id m.id (width m) l.id x.id (width x) in-c' k i j (m-free k i j))
      (pair-first hs g.root v kn closed s Plain p m.id (width m) r1.id y.id (width y) in-s' k i j (m-free k i j))

  second-free : (j k : ℕ) → k ≡ width m + j → 1 ≤ j → j ≤ length ts → under_two (λ b. known.error_free b j) c.quants ≡ true → under_two (λ b. kn.error_free b k) d'.quants ≡ true
  second-free j k e i n h =
      let z = arms (λ b. known.error_free b j) h in
      and_from (kn.error_free c.id k) (kn.error_free s k)
      (pair-second hs g.root v kn closed c.id Fed a.id m.id (width m) l.id x.id (width x) in-c' j k e i (subst (λ o. j ≤ o) (sym wide-x) n) (part.error_free x.id j x-low z.0))
      (pair-second hs g.root v kn closed s Plain p m.id (width m) r1.id y.id (width y) in-s' j k e i (subst (λ o. j ≤ o) (sym wide-y) n) (part.error_free y.id j y-low z.1))

  now-arms : arms_error_free bs known (length ts) c.quants ≡ true → arms_error_free hs kn (length mt) d'.quants ≡ true
  now-arms h = places-from (length mt) (λ k. under_two (λ b. kn.error_free b k) d'.quants) (λ k i j. elim (cases_Bool (nat_le k (width m))) [
    | inl t ↦ first-free k i (leb-true k (width m) t)
    | inr f ↦ (
        let o = leb-false k (width m) f in
        let long = made.long-mt g known d may form ts mt l r1 x y s u p Fed Plain up l1 l2 at in
        let e : k ≡ width m + (k - width m) = omega (arith, o) in
        let one : 1 ≤ k - width m = omega (arith, o) in
        let most : k - width m ≤ length ts = omega (arith, o, j, long) in
        second-free (k - width m) k e one most (place-at (length ts) (λ k. under_two (λ b. known.error_free b k) c.quants) h (k - width m) one most))
  ])

  now-d : kn.clean d.id ≡ true
  now-d = known-clean hs v.ordered kn closed d' in-d' (op-moved bs hs known kn (length ts) (length mt) c.quants d'.quants (λ h. and_from (kn.clean c.id) (kn.clean s) now-c now-s) now-arms form c-clean)

  of-r : (j : ℕ) → error_free_under bs known r.id j ≡ true → known.error_free c.id j ≡ true
  of-r j h = subst (λ b. known.error_free b j ≡ true) (sym may.over_c) (sym (range-is bs g.root w (λ b. known.error_free b j) r (d, (may.in_d, fed.in-r g at.once at.formed known at.tells d may))) ∙ h)

  now-free : (k : ℕ) → known.error_free d.id k ≡ true → kn.error_free d.id k ≡ true
  now-free k h =
      let z = free-by bs known at.tells g.root w d may.in_d k h in
      let start : 1 ≤ k = ltb-true 0 k (and_parts (nat_lt 0 k) (nat_le k (width d)) z.0).0 in
      let two : under_two (λ b. kn.error_free b k) d'.quants ≡ true = (elim (place-split (is_free bs known false) a.id (width m) (columns_from r.id 1 (width c)) k
      (subst (λ (t : List Term). at_place (is_free bs known false) t k ≡ true) (fed.head-is g at.once at.formed known at.tells d may) (subst (λ (t : BoxKind). free_by bs known t d k ≡ true) (fed.kind_d g at.once at.formed known at.tells d may) z.1))) [
        | inl o ↦ first-free k start o.0
        | inr o ↦ (
            let f = free-by bs known at.tells g.root w c may.in_c o.0 (of-r o.0 (place-only (is_free bs known false) r.id (width c) o.0 o.1.1)) in
            let n = and_parts (nat_lt 0 o.0) (nat_le o.0 (width c)) f.0 in
            let wide : width c ≡ length ts = ap (λ t. width_by t (length c.parts.head)) at.a_set in
            second-free o.0 k o.1.0 (ltb-true 0 o.0 n.0) (subst (λ t. o.0 ≤ t) wide (leb-true o.0 (width c) n.1)) (op-column bs hs known kn form c.id o.0 c.quants (subst (λ (t : BoxKind). free_by bs known t c o.0 ≡ true) at.a_set f.1)))
      ]) in
      known-free hs v.ordered kn closed d' in-d' k (subst (λ o. (nat_lt 0 k && nat_le k o) ≡ true) (sym (made.width-d g known d may form ts mt l r1 x y s u p Fed Plain up l1 l2 at)) z.0)
      (column-op hs bs kn known form d.id k d'.quants now-d two)

  -- ---- all boxes after it

  carried : Carried known kn kept
  carried = carries bs hs g.root w v sh kept known kn closed each firm at.tells (λ n i. elim (cases_Bool (n.id == d.id)) [
    | inl e ↦ (
        let id = eqb-true n.id d.id e in
        inr (record { clean = λ k x y. subst (λ b. kn.clean b ≡ true) (sym id) now-d; error_free = λ q k x l y. subst (λ b. kn.error_free b q ≡ true) (sym id) (now-free q (subst (λ b. known.error_free b q ≡ true) id x)) }))
    | inr f ↦ elim (cases_Bool (n.id == c.id)) [
      | inr k ↦ inl (stays n i f k)
      | inl k ↦ inr (gone-covers bs hs known kn kept n (ap not k))
    ]
  ])

  settled-d : SettledBox hs kn g.root d'
  settled-d = settled-from hs kn g.root d' (or_right (d.id == g.root) (kn.clean d.id) now-d) refl (or_left true (calm_magic hs kn d') refl) refl scalars (firm-single hs v.ordered kn closed)
    where
      scalars : (q : OwnedQuant) → In q d'.quants → is_S q.kind ≡ true → IsFirm hs q.over
      scalars q j t = elim j [
        | inl e ↦ absurd (let z : is_S F ≡ true = ap (λ (s : OwnedQuant). is_S s.kind) e ∙ t in let y : ⊥ = cc in y)
        | inr j ↦ elim j [
          | inl e ↦ absurd (let z : is_S F ≡ true = ap (λ (s : OwnedQuant). is_S s.kind) e ∙ t in let y : ⊥ = cc in y)
          | inr z ↦ elim z [ ]
        ]
      ]

  pub set-settled : IsSettled (absorbed_set g known d may form mt l r1 x y s u p Fed Plain up l1 l2)
  set-settled = record {
    known = kn;
    tells = (all-told hs).1;
    each = λ n i. elim (made.each-in g known d may form ts mt l r1 x y s u p Fed Plain up l1 l2 at n i) [
      | inl z ↦ subst (SettledBox hs kn g.root) (sym z) settled-d
      | inr z ↦ elim z [
        | inl z ↦ subst (SettledBox hs kn g.root) (sym z) (pair-settled hs g.root v kn closed s Plain p m.id (width m) r1.id y.id (width y) in-s' refl now-s)
        | inr z ↦ elim z [
          | inl z ↦ subst (SettledBox hs kn g.root) (sym z) (pair-settled hs g.root v kn closed c.id Fed a.id m.id (width m) l.id x.id (width x) in-c' refl now-c)
          | inr z ↦ still-is-settled bs hs g.root w v sh kept known kn closed each firm carried n (stays n z.0 z.1.0 z.1.1)
        ]
      ]
    ];
  }
