-- G5 with an open right operand keeps a graph settled.
use Rattle.std.proofs.Common.{ℕ, ◌==◌, ◌≡◌, ◌≤◌, ◌+◌, ◌&&◌, ◌||◌, cond, nat_le, nat_lt, map, not, Bool, true, false, List, [], ◌∷◌, ◌++◌, length, refl, sym, ap, subst, ◌∙◌, eqb-true, inl, inr, arith}
use Rattle.std.specs.List.{list_all}
use Rattle.std.proofs.lemmas.Bool.{and_from, and_parts, cases_Bool, ltb-true, or_left, or_right}
use Rattle.list_laws.specs.Lists.{In, holds}
use Rattle.list_laws.proofs.Booleans.{clash}
use Rattle.list_laws.proofs.Membership.{all-from, all-in, eq-false-sym}
use Rattle.qgm_core.specs.Boxes.{QueryGraph, owns, width}
use Rattle.qgm_core.specs.Edits.{range}
use Rattle.qgm_core.specs.Free.{named_by}
use Rattle.qgm_core.specs.Kinds.{is_S, is_magic, width_by}
use Rattle.qgm_core.specs.declared.kinds.BoxKind.{BoxKind}
use Rattle.qgm_core.specs.declared.kinds.QuantKind.TheVariants.{F}
use Rattle.qgm_core.specs.declared.kinds.Role.{Role}
use Rattle.qgm_core.specs.declared.node.Node.{Node}
use Rattle.qgm_core.specs.declared.owned.OwnedQuant.{OwnedQuant}
use Rattle.qgm_core.proofs.Reaching.{in-has}
use Rattle.qgm_meaning.specs.Scope.{loose, put_node}
use Rattle.qgm_meaning.specs.Tags.{columns_from}
use Rattle.qgm_terms.specs.Terms.{Cond, Term}
use Rattle.qgm_wellformed.specs.Columns.{columns_of}
use Rattle.qgm_edit_laws.specs.Graph.{Sound}
use Rattle.qgm_edit_laws.specs.Rebuilds.{IsOwned, Rebuilds}
use Rattle.qgm_edit_laws.specs.Shaped.{Shaped}
use Rattle.qgm_edit_laws.proofs.Ranks.{same-box}
use Rattle.qgm_edit_laws.proofs.ShapedPut.{all-joined}
use Rattle.qgm_props.specs.Calm.{calm_column, calm_magic}
use Rattle.qgm_props.specs.Inferred.{Closed, Facts, at_place, clean_by, cond_free, error_free_under, free_by, is_free, under_two}
use Rattle.qgm_props.proofs.Settled.{all-told}
use Rattle.rule_magic.specs.AbsorbArms.{IsFreshSelect}
use Rattle.rule_magic.specs.AbsorbOuterJoin.{OuterAt, renamed_arms}
use Rattle.rule_magic.specs.Boxes.{arms_box, both_cond, both_term, pair_box, same_each}
use Rattle.rule_magic.specs.Places.{MayAbsorb}
use Rattle.rule_magic.specs.Region.{is_below}
use Rattle.rule_magic.proofs.AbsorbArmsFormed as made
use Rattle.rule_magic.proofs.AbsorbArmsPlaced as base
use Rattle.rule_magic.proofs.AbsorbFacts as fed
use Rattle.rule_magic.proofs.AbsorbOpenSet.{looks_of}
use Rattle.rule_magic.proofs.AbsorbOuterFacts as outer
use Rattle.rule_magic.proofs.AbsorbSelectFormed as one
use Rattle.rule_magic.proofs.AbsorbShared.{IsRoleOver, plain-not-magic}
use Rattle.rule_magic.proofs.LedColumns.{MayLead}
use Rattle.rule_calm.specs.Settled.{IsFirm, IsSettled, SettledBox, has_no_single, single_free, single_free_cond}
use Rattle.rule_calm.proofs.BelowSettled as below
use Rattle.rule_calm.proofs.BelowSettled.{RenamingBelow}
use Rattle.rule_calm.proofs.BehindFacts.{place-map}
use Rattle.rule_calm.proofs.FedSettled as of_fed
use Rattle.rule_calm.proofs.FedSettled.{clean-by, free-by}
use Rattle.rule_calm.proofs.Framed.{Carried, OwnedAs, firm-single, gone-covers, known-clean, known-free, range-is, settled-from, told-closed}
use Rattle.rule_calm.proofs.FreeTerms.{cl_of, cond-is, cond_with, ef_of, free-is, one_of}
use Rattle.rule_calm.proofs.HeadPlaces.{columns-single, place-left, place-only, place-range, place-right, place-split}
use Rattle.rule_calm.proofs.LeftSettled.{role-not-magic}
use Rattle.rule_calm.proofs.OperatorFacts.{place-at}
use Rattle.rule_calm.proofs.OuterFacts.{all-mapped, both-cell, both-cell-single, both-on, both-on-single, own-columns, same-each-free, same-each-single}
use Rattle.rule_calm.proofs.PairSettled.{pair-clean, pair-first, pair-second, pair-settled}
use Rattle.rule_calm.proofs.RebuiltSettled.{carries}

module _ (g : QueryGraph) (known : Facts) (d : Node) (may : MayAbsorb g.boxes known d) (l r1 : OwnedQuant) (x y : Node) (s u p : ℕ) (lr rr : Role) (up l1 l2 : List Node) (at : OuterAt g known d may l r1 x y up l1 l2) (new : IsFreshSelect g s u p) (opened : loose g.boxes y.id may.a.id ≡ true)
    (fits_left : IsRoleOver g.boxes x.id lr) (fits_right : IsRoleOver g.boxes y.id rr) (each : (n : Node) → In n g.boxes → SettledBox g.boxes known g.root n) where
  abbrev bs : List Node
  bs = g.boxes

  abbrev hs : List Node
  hs = (renamed_arms g known d may l r1 x y s u p lr rr up l1 l2).boxes

  abbrev c : Node
  c = may.c

  abbrev m : Node
  m = may.m

  abbrev a : OwnedQuant
  a = may.a

  abbrev r : OwnedQuant
  r = may.r

  abbrev d' : Node
  d' = arms_box d.id may.a.id l.id (width may.m) (width x) r1.id (width y) may.c (range l.id F may.c.id ∷ (range r1.id F s ∷ []))

  abbrev s' : Node
  s' = pair_box s rr p may.m.id (width may.m) u y.id (width y)

  abbrev c' : Node
  c' = pair_box may.c.id lr may.a.id may.m.id (width may.m) may.r.id x.id (width x)

  abbrev put : Node → Node
  put n = put_node may.a.id (columns_from p 1 (width may.m)) n

  abbrev ren : Node → Node
  ren n = cond (is_below g.boxes r1.over n.id) (put_node may.a.id (columns_from p 1 (width may.m)) n) n

  abbrev kn : Facts
  kn = (all-told (renamed_arms g known d may l r1 x y s u p lr rr up l1 l2).boxes).0

  abbrev kept : ℕ → Bool
  kept b = not (b == may.c.id)

  abbrev look : ℕ → ℕ → Bool
  look b q = looks_of g.boxes may.c.id r1.over may.a.id p b q

  abbrev fresh : ℕ → Bool
  fresh b = (b == d.id) || ((b == s) || ((b == may.c.id) || (is_below g.boxes r1.over b && loose g.boxes b may.a.id)))

  w : Sound g.boxes g.root
  w = outer.w g known d may l r1 x y up l1 l2 at

  sh : Shaped g.boxes g.root
  sh = outer.sh g known d may l r1 x y up l1 l2 at

  v : Sound hs g.root
  v = made.sound-after g known d may l r1 x y s u p lr rr up l1 l2 at new opened

  rebuilds : Rebuilds g.boxes hs g.root kept look fresh
  rebuilds = made.rebuilds g known d may l r1 x y s u p lr rr up l1 l2 at new opened

  closed : Closed hs kn
  closed = told-closed hs kn (all-told hs).1

  in-d' : In d' hs
  in-d' = made.in-d' g known d may l r1 x y s u p lr rr up l1 l2 at new opened

  in-s' : In s' hs
  in-s' = made.in-s' g known d may l r1 x y s u p lr rr up l1 l2 at new opened

  in-c' : In c' hs
  in-c' = made.in-c' g known d may l r1 x y s u p lr rr up l1 l2 at new opened

  in-a : In a d.quants
  in-a = fed.in-a g at.once at.formed known at.tells d may

  elsewhere : (n : Node) (z : OwnedQuant) → In n g.boxes → (n.id == d.id) ≡ false → In z n.quants → (z.over == c.id) ≡ false
  elsewhere = outer.elsewhere g known d may l r1 x y up l1 l2 at

  -- ---- what is below the right operand

  -- what another box than these names is there after
  named-after : (n : Node) → In n bs → (n.id == d.id) ≡ false → (n.id == c.id) ≡ false → (z : OwnedQuant) → holds z.id (named_by n) ≡ true → IsOwned bs z → (kept z.over ≡ true) × OwnedAs hs z
  named-after n i nd nc z h o = elim (cases_Bool (o.0.id == d.id)) [
    | inl e ↦ (
        let same : o.0 ≡ d = same-box g.boxes o.0 d w.ordered o.1.0 may.in_d (eqb-true o.0.id d.id e) in
        elim (one.of-d g at.once at.formed known at.tells d may z (subst (λ (k : Node). In z k.quants) same o.1.1)) [
          | inl k ↦ (ap not (ap (λ (k : OwnedQuant). k.over == c.id) k ∙ one.a-elsewhere g at.once at.formed known at.tells d may up l1 l2 at.before), (range a.id F m.id, ((c', (in-c', inl refl)), (ap (λ (k : OwnedQuant). k.id) (sym k), may.over_m ∙ ap (λ (k : OwnedQuant). k.over) (sym k)))))
          | inr k ↦ absurd (one.r-unnamed g at.once at.formed known at.tells d may n i nd (subst (λ (k : OwnedQuant). holds k.id (named_by n) ≡ true) k h))
        ])
    | inr f ↦ elim (cases_Bool (o.0.id == c.id)) [
      | inl e ↦ absurd (
          let same : o.0 ≡ c = same-box g.boxes o.0 c w.ordered o.1.0 may.in_c (eqb-true o.0.id c.id e) in
          outer.arm-unnamed g known d may l r1 x y up l1 l2 at z (subst (λ (k : Node). In z k.quants) same o.1.1) n i nc h)
      | inr k ↦ (
        ap not (elsewhere o.0 z o.1.0 f o.1.1),
        (z, ((ren o.0, (made.in-ren g known d may l r1 x y s u p lr rr up l1 l2 at new opened o.0 (base.to-hs g known d may l r1 x y s u p lr rr up l1 l2 at new o.0 o.1.0 f k), subst (λ (k : List OwnedQuant). In z k) (sym (made.ren-quants g known d may l r1 x y s u p lr rr up l1 l2 at new opened o.0)) o.1.1)), (refl, refl))),
      )
    ]
  ]

  renaming : RenamingBelow g known d may hs r1.over s p
  renaming = record {
    rebuilds = rebuilds;
    stand = λ n i t. subst (λ (z : Node). In z hs) (ap (λ z. cond z (put n) n) t)
        (made.in-ren g known d may l r1 x y s u p lr rr up l1 l2 at new opened n (base.to-hs g known d may l r1 x y s u p lr rr up l1 l2 at new n i (not-at n.id d.id t not-below-d) (not-at n.id c.id t not-below-c)));
    new = λ n i. eq-false-sym s n.id (base.s-not g known d may l r1 x y s u p lr rr up l1 l2 at new n i);
    named = named-after;
    apart = (made.region g known d may l r1 x y s u p lr rr up l1 l2 at new opened).apart;
    beside_c = not-below-c;
    beside_d = not-below-d;
    over_m = (s', (in-s', inl refl));
  }
    where
      not-below-c : is_below g.boxes r1.over c.id ≡ false
      not-below-c = made.not-below-c g known d may l r1 x y s u p lr rr up l1 l2 at new opened

      not-below-d : is_below g.boxes r1.over d.id ≡ false
      not-below-d = made.not-below-d g known d may l r1 x y s u p lr rr up l1 l2 at new opened

      not-at : (b e : ℕ) → is_below g.boxes r1.over b ≡ true → is_below g.boxes r1.over e ≡ false → (b == e) ≡ false
      not-at b e t f = elim (cases_Bool (b == e)) [ inr n ↦ n | inl k ↦ absurd (clash (is_below g.boxes r1.over b) t (subst (λ z. is_below g.boxes r1.over z ≡ false) (sym (eqb-true b e k)) f)) ]

  firm : (b : ℕ) → IsFirm bs b → kept b ≡ true → IsFirm hs b
  firm = below.firm g at.once at.formed known at.tells d may hs r1.over s p renaming kn closed each

  abbrev low : ℕ → Bool
  low = of_fed.low g at.once at.formed known at.tells d may

  m-low : low m.id ≡ true
  m-low = of_fed.m-low g at.once at.formed known at.tells d may

  part : Carried known kn low
  part = below.part g at.once at.formed known at.tells d may hs r1.over s p renaming kn closed each

  in-l : In l c.quants
  in-l = outer.in-l g known d may l r1 x y up l1 l2 at

  in-r1 : In r1 c.quants
  in-r1 = outer.in-r1 g known d may l r1 x y up l1 l2 at

  arm-low : (q : OwnedQuant) → In q c.quants → low q.over ≡ true
  arm-low q j = of_fed.low-over g at.once at.formed known at.tells d may c q may.in_c (of_fed.c-under g at.once at.formed known at.tells d may) (of_fed.c-not-d g at.once at.formed known at.tells d may) j

  x-low : low x.id ≡ true
  x-low = subst (λ b. low b ≡ true) at.over_x (arm-low l in-l)

  y-low : low y.id ≡ true
  y-low = subst (λ b. low b ≡ true) at.over_y (arm-low r1 in-r1)

  -- ---- rows

  c-clean : (under_two known.clean c.quants && list_all (cond_free bs known false) c.parts.conds.items) ≡ true
  c-clean = subst (λ (k : BoxKind). clean_by bs known k c ≡ true) at.an_outer (clean-by bs known at.tells g.root w c may.in_c (of_fed.c-clean g at.once at.formed known at.tells d may each))

  both-clean : (known.clean x.id ≡ true) × (known.clean y.id ≡ true)
  both-clean =
      let z = and_parts (known.clean l.over) (known.clean r1.over) (subst (λ (qs : List OwnedQuant). under_two known.clean qs ≡ true) at.two (and_parts (under_two known.clean c.quants) (list_all (cond_free bs known false) c.parts.conds.items) c-clean).0) in
      (subst (λ b. known.clean b ≡ true) at.over_x z.0, subst (λ b. known.clean b ≡ true) at.over_y z.1)

  m-clean : kn.clean m.id ≡ true
  m-clean = part.clean m.id m-low may.clean

  m-free : (k : ℕ) → 1 ≤ k → k ≤ width m → kn.error_free m.id k ≡ true
  m-free k i j = part.error_free m.id k m-low (place-at (width m) (known.error_free m.id) may.columns k i j)

  now-c : kn.clean c.id ≡ true
  now-c = pair-clean hs g.root v kn closed c.id lr a.id m.id (width m) r.id x.id (width x) in-c' m-clean (part.clean x.id x-low both-clean.0)

  now-s : kn.clean s ≡ true
  now-s = pair-clean hs g.root v kn closed s rr p m.id (width m) u y.id (width y) in-s' m-clean (part.clean y.id y-low both-clean.1)

  -- ---- columns

  before-l : (k : ℕ) → error_free_under bs known l.id k ≡ true → known.error_free x.id k ≡ true
  before-l k h = subst (λ b. known.error_free b k ≡ true) at.over_x (sym (range-is bs g.root w (λ b. known.error_free b k) l (c, (may.in_c, in-l))) ∙ h)

  before-r1 : (k : ℕ) → error_free_under bs known r1.id k ≡ true → known.error_free y.id k ≡ true
  before-r1 k h = subst (λ b. known.error_free b k ≡ true) at.over_y (sym (range-is bs g.root w (λ b. known.error_free b k) r1 (c, (may.in_c, in-r1))) ∙ h)

  after-l : (k : ℕ) → error_free_under hs kn l.id k ≡ kn.error_free c.id k
  after-l k = range-is hs g.root v (λ b. kn.error_free b k) (range l.id F c.id) (d', (in-d', inl refl))

  after-r1 : (k : ℕ) → error_free_under hs kn r1.id k ≡ kn.error_free s k
  after-r1 k = range-is hs g.root v (λ b. kn.error_free b k) (range r1.id F s) (d', (in-d', inr (inl refl)))

  left-first : (k : ℕ) → 1 ≤ k → k ≤ width m → error_free_under hs kn l.id k ≡ true
  left-first k i j = after-l k ∙ pair-first hs g.root v kn closed c.id lr a.id m.id (width m) r.id x.id (width x) in-c' k i j (m-free k i j)

  right-first : (k : ℕ) → 1 ≤ k → k ≤ width m → error_free_under hs kn r1.id k ≡ true
  right-first k i j = after-r1 k ∙ pair-first hs g.root v kn closed s rr p m.id (width m) u y.id (width y) in-s' k i j (m-free k i j)

  first : (k : ℕ) → 1 ≤ k → k ≤ width m → error_free_under bs known a.id k ≡ true → error_free_under hs kn l.id k ≡ true
  first k i j h = left-first k i j

  second : (k : ℕ) → 1 ≤ k → k ≤ width x → error_free_under bs known l.id k ≡ true → error_free_under hs kn l.id (width m + k) ≡ true
  second k i j h = after-l (width m + k) ∙ pair-second hs g.root v kn closed c.id lr a.id m.id (width m) r.id x.id (width x) in-c' k (width m + k) refl i j (part.error_free x.id k x-low (before-l k h))

  third : (k : ℕ) → 1 ≤ k → k ≤ width y → error_free_under bs known r1.id k ≡ true → error_free_under hs kn r1.id (width m + k) ≡ true
  third k i j h = after-r1 (width m + k) ∙ pair-second hs g.root v kn closed s rr p m.id (width m) u y.id (width y) in-s' k (width m + k) refl i j (part.error_free y.id k y-low (before-r1 k h))

  leads : MayLead a.id l.id r1.id (width m) (width x) (width y) c
  leads = outer.leads g known d may l r1 x y up l1 l2 at

  no-single-c : has_no_single c ≡ true
  no-single-c = (each c may.in_c).no_single

  cell-led : (z : Term) → In z c.parts.head → is_free bs known false z ≡ true → is_free hs kn false (both_term a.id l.id (width m) (width x) r1.id (width y) z) ≡ true
  cell-led z i h = free-is hs kn false (both_term a.id l.id (width m) (width x) r1.id (width y) z)
      ∙ both-cell a.id l.id r1.id (width m) (width x) (width y) c leads no-single-c (ef_of bs known) (ef_of hs kn) (cl_of bs known) (cl_of hs kn) (one_of bs known) (one_of hs kn) first second third z i (sym (free-is bs known false z) ∙ h)

  on-led : (z : Cond) → In z c.parts.conds.items → cond_free bs known false z ≡ true → cond_free hs kn false (both_cond a.id l.id (width m) (width x) r1.id (width y) z) ≡ true
  on-led z i h = cond-is hs kn false (both_cond a.id l.id (width m) (width x) r1.id (width y) z)
      ∙ both-on a.id l.id r1.id (width m) (width x) (width y) c leads no-single-c (ef_of bs known) (ef_of hs kn) (cl_of bs known) (cl_of hs kn) (one_of bs known) (one_of hs kn) first second third z i (sym (cond-is bs known false z) ∙ h)

  same-led : list_all (cond_free hs kn false) (same_each l.id r1.id 1 (width m)) ≡ true
  same-led = all-from (cond_free hs kn false) (same_each l.id r1.id 1 (width m)) (λ z i. cond-is hs kn false z ∙ all-in (cond_with (ef_of hs kn) (cl_of hs kn) (one_of hs kn) false) z (same_each l.id r1.id 1 (width m))
      (same-each-free (ef_of hs kn) (cl_of hs kn) (one_of hs kn) l.id r1.id 1 (width m) (λ j k n. (let e : j ≤ width m = omega (arith, n) in (left-first j k e, right-first j k e)))) i)

  -- ---- the outer join

  abbrev leds : List Term
  leds = map (both_term may.a.id l.id (width may.m) (width x) r1.id (width y)) may.c.parts.head

  abbrev ons : List Cond
  ons = map (both_cond may.a.id l.id (width may.m) (width x) r1.id (width y)) may.c.parts.conds.items

  now-d : kn.clean d.id ≡ true
  now-d = known-clean hs v.ordered kn closed d' in-d' (subst (λ (k : BoxKind). clean_by hs kn k d' ≡ true) (sym at.an_outer)
      (and_from (kn.clean c.id && kn.clean s) (list_all (cond_free hs kn false) d'.parts.conds.items) (and_from (kn.clean c.id) (kn.clean s) now-c now-s)
      (all-joined (cond_free hs kn false) ons (same_each l.id r1.id 1 (width m))
      (all-mapped (both_cond a.id l.id (width m) (width x) r1.id (width y)) (cond_free hs kn false) c.parts.conds.items (λ z i. on-led z i (all-in (cond_free bs known false) z c.parts.conds.items (and_parts (under_two known.clean c.quants) (list_all (cond_free bs known false) c.parts.conds.items) c-clean).1 i)))
      same-led)))

  of-r : (j : ℕ) → error_free_under bs known r.id j ≡ true → known.error_free c.id j ≡ true
  of-r j h = subst (λ b. known.error_free b j ≡ true) (sym may.over_c) (sym (range-is bs g.root w (λ b. known.error_free b j) r (d, (may.in_d, fed.in-r g at.once at.formed known at.tells d may))) ∙ h)

  now-free : (k : ℕ) → known.error_free d.id k ≡ true → kn.error_free d.id k ≡ true
  now-free k h =
      let z = free-by bs known at.tells g.root w d may.in_d k h in
      let start : 1 ≤ k = ltb-true 0 k (and_parts (nat_lt 0 k) (nat_le k (width d)) z.0).0 in
      let n : at_place (is_free hs kn false) (columns_from l.id 1 (width m) ++ leds) k ≡ true = (elim (place-split (is_free bs known false) a.id (width m) (columns_from r.id 1 (width c)) k
      (subst (λ (t : List Term). at_place (is_free bs known false) t k ≡ true) (fed.head-is g at.once at.formed known at.tells d may) (subst (λ (t : BoxKind). free_by bs known t d k ≡ true) (fed.kind_d g at.once at.formed known at.tells d may) z.1))) [
        | inl o ↦ place-left (is_free hs kn false) l.id (width m) leds k start o.0 (left-first k start o.0)
        | inr o ↦ place-right (is_free hs kn false) l.id (width m) leds o.0 k o.1.0
            (place-map (both_term a.id l.id (width m) (width x) r1.id (width y)) (is_free bs known false) (is_free hs kn false) c.parts.head o.0 (λ t i. cell-led t i)
            (subst (λ (t : BoxKind). free_by bs known t c o.0 ≡ true) at.an_outer (free-by bs known at.tells g.root w c may.in_c o.0 (of-r o.0 (place-only (is_free bs known false) r.id (width c) o.0 o.1.1))).1))
      ]) in
      known-free hs v.ordered kn closed d' in-d' k
      (subst (λ (t : BoxKind). (nat_lt 0 k && nat_le k (width_by t (length d'.parts.head))) ≡ true) (sym at.an_outer) (place-range (is_free hs kn false) (columns_from l.id 1 (width m) ++ leds) k n))
      (subst (λ (t : BoxKind). free_by hs kn t d' k ≡ true) (sym at.an_outer) n)

  -- ---- all boxes after it

  carried : Carried known kn kept
  carried = carries bs hs g.root w v sh kept known kn closed each firm at.tells (λ n i. elim (cases_Bool (n.id == d.id)) [
    | inl e ↦ (
        let id = eqb-true n.id d.id e in
        inr (record { clean = λ k t z. subst (λ b. kn.clean b ≡ true) (sym id) now-d; error_free = λ q k t s z. subst (λ b. kn.error_free b q ≡ true) (sym id) (now-free q (subst (λ b. known.error_free b q ≡ true) id t)) }))
    | inr f ↦ elim (cases_Bool (n.id == c.id)) [
      | inl k ↦ inr (gone-covers bs hs known kn kept n (ap not k))
      | inr k ↦ below.other-covers g at.once at.formed known at.tells d may hs r1.over s p renaming kn closed each n i f k
    ]
  ])

  not-magic : is_magic c.parts.role ≡ false
  not-magic = plain-not-magic c.parts.role (outer.plain-c g known d may l r1 x y up l1 l2 at)

  settled-d : SettledBox hs kn g.root d'
  settled-d = settled-from hs kn g.root d' (or_right (d.id == g.root) (kn.clean d.id) now-d) columns (or_left (not (is_magic c.parts.role)) (calm_magic hs kn d') (ap not not-magic)) no-single scalars (firm-single hs v.ordered kn closed)
    where
      columns : list_all (calm_column hs kn d') (columns_of d') ≡ true
      columns = all-from (calm_column hs kn d') (columns_of d') (λ z i. or_left (owns z.quant d') (error_free_under hs kn z.quant z.place)
          (own-columns hs g.root v d' in-d' (λ q. made.looks-after g known d may l r1 x y s u p lr rr up l1 l2 at new opened d.id q (in-has d' hs in-d') ∙ made.looks-d g known d may l r1 x y s u p lr rr up l1 l2 at new opened q) z i))

      no-single : has_no_single d' ≡ true
      no-single = and_from (list_all single_free d'.parts.head) (list_all single_free_cond d'.parts.conds.items)
          (all-joined single_free (columns_from l.id 1 (width m)) leds (columns-single l.id 1 (width m))
          (all-mapped (both_term a.id l.id (width m) (width x) r1.id (width y)) single_free c.parts.head (both-cell-single a.id l.id r1.id (width m) (width x) (width y) c leads no-single-c (ef_of bs known) (ef_of hs kn) (cl_of bs known) (cl_of hs kn) (one_of bs known) (one_of hs kn) first second third)))
          (all-joined single_free_cond ons (same_each l.id r1.id 1 (width m))
          (all-mapped (both_cond a.id l.id (width m) (width x) r1.id (width y)) single_free_cond c.parts.conds.items (both-on-single a.id l.id r1.id (width m) (width x) (width y) c leads no-single-c (ef_of bs known) (ef_of hs kn) (cl_of bs known) (cl_of hs kn) (one_of bs known) (one_of hs kn) first second third))
          (same-each-single l.id r1.id 1 (width m)))

      scalars : (q : OwnedQuant) → In q d'.quants → is_S q.kind ≡ true → IsFirm hs q.over
      scalars q j t = elim j [
        | inl e ↦ absurd (let z : is_S F ≡ true = ap (λ (s : OwnedQuant). is_S s.kind) e ∙ t in let y : ⊥ = cc in y)
        | inr j ↦ elim j [
          | inl e ↦ absurd (let z : is_S F ≡ true = ap (λ (s : OwnedQuant). is_S s.kind) e ∙ t in let y : ⊥ = cc in y)
          | inr z ↦ elim z [ ]
        ]
      ]

  pub arms-settled : IsSettled (renamed_arms g known d may l r1 x y s u p lr rr up l1 l2)
  arms-settled = record {
    known = kn;
    tells = (all-told hs).1;
    each = λ n i. elim (made.each-in g known d may l r1 x y s u p lr rr up l1 l2 at new opened n i) [
      | inl z ↦ subst (SettledBox hs kn g.root) (sym z) settled-d
      | inr z ↦ elim z [
        | inl z ↦ subst (SettledBox hs kn g.root) (sym z) (pair-settled hs g.root v kn closed s rr p m.id (width m) u y.id (width y) in-s' (role-not-magic g.boxes y.id rr fits_right) now-s)
        | inr z ↦ elim z [
          | inl z ↦ subst (SettledBox hs kn g.root) (sym z) (pair-settled hs g.root v kn closed c.id lr a.id m.id (width m) r.id x.id (width x) in-c' (role-not-magic g.boxes x.id lr fits_left) now-c)
          | inr z ↦ below.other-settled g at.once at.formed known at.tells d may hs r1.over s p renaming kn closed each carried n z.0 i z.1.0 z.1.1.0 z.1.1.1.0 z.1.1.1.1
        ]
      ]
    ];
  }
