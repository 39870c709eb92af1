-- G5 with a closed right operand keeps a graph settled.
use Rattle.std.proofs.Common.{ℕ, ◌==◌, ◌≡◌, ◌≤◌, ◌+◌, ◌&&◌, ◌||◌, nat_le, nat_lt, map, not, Bool, true, false, List, [], ◌∷◌, ◌++◌, length, refl, sym, ap, subst, ◌∙◌, eqb-true, inl, inr}
use Rattle.std.specs.List.{list_all}
use Rattle.std.proofs.lemmas.Bool.{and_from, and_parts, cases_Bool, ltb-true, not-true, or_from, or_left, or_right}
use Rattle.list_laws.specs.Lists.{In}
use Rattle.list_laws.proofs.Membership.{all-from, all-in}
use Rattle.qgm_core.specs.Boxes.{QueryGraph, owns, width}
use Rattle.qgm_core.specs.Edits.{range}
use Rattle.qgm_core.specs.Free.{IsFree}
use Rattle.qgm_core.specs.Kinds.{is_S, is_magic, width_by}
use Rattle.qgm_core.specs.declared.kinds.BoxKind.{BoxKind}
use Rattle.qgm_core.specs.declared.kinds.QuantKind.TheVariants.{F}
use Rattle.qgm_core.specs.declared.kinds.Role.{Role}
use Rattle.qgm_core.specs.declared.node.Node.{Node}
use Rattle.qgm_core.specs.declared.owned.OwnedQuant.{OwnedQuant}
use Rattle.qgm_core.proofs.Reaching.{in-has}
use Rattle.qgm_meaning.specs.Scope.{loose}
use Rattle.qgm_meaning.specs.Tags.{columns_from}
use Rattle.qgm_terms.specs.Terms.{Cond, Term}
use Rattle.qgm_wellformed.specs.Columns.{columns_of}
use Rattle.qgm_edit_laws.specs.Graph.{Sound}
use Rattle.qgm_edit_laws.specs.Rebuilds.{Rebuilds}
use Rattle.qgm_edit_laws.specs.Shaped.{Shaped}
use Rattle.qgm_edit_laws.proofs.ShapedPut.{all-joined}
use Rattle.qgm_props.specs.Calm.{calm_column, calm_magic}
use Rattle.qgm_props.specs.Inferred.{Closed, Facts, at_place, clean_by, cond_free, error_free_under, free_by, is_free, under_two}
use Rattle.qgm_props.proofs.Settled.{all-told}
use Rattle.rule_magic.specs.AbsorbOuterJoin.{OuterAt, absorbed_left}
use Rattle.rule_magic.specs.Boxes.{led_cond, led_term, left_box, pair_box}
use Rattle.rule_magic.specs.Places.{MayAbsorb}
use Rattle.rule_magic.proofs.AbsorbFacts as fed
use Rattle.rule_magic.proofs.AbsorbLeftFormed as made
use Rattle.rule_magic.proofs.AbsorbOuterFacts as outer
use Rattle.rule_magic.proofs.AbsorbShared.{IsRoleOver, plain-not-magic}
use Rattle.rule_magic.proofs.LedColumns.{MayLead}
use Rattle.rule_calm.specs.Settled.{IsFirm, IsSettled, SettledBox, has_no_single, single_free, single_free_cond}
use Rattle.rule_calm.proofs.BehindFacts.{place-map}
use Rattle.rule_calm.proofs.FedSettled as of_fed
use Rattle.rule_calm.proofs.FedSettled.{clean-by, free-by}
use Rattle.rule_calm.proofs.Framed.{Carried, Still, firm-single, firm-stays, gone-covers, known-clean, known-free, range-is, settled-from, still-firm, told-closed}
use Rattle.rule_calm.proofs.FreeTerms.{cl_of, cond-is, ef_of, free-is, one_of}
use Rattle.rule_calm.proofs.HeadPlaces.{columns-single, place-left, place-only, place-range, place-right, place-split}
use Rattle.rule_calm.proofs.OuterFacts.{all-mapped, led-cell, led-cell-single, led-on, led-on-single, own-columns}
use Rattle.rule_calm.proofs.PairSettled.{pair-clean, pair-first, pair-second, pair-settled}
use Rattle.rule_calm.proofs.PartFacts.{part-carried, still-in-part}
use Rattle.rule_calm.proofs.RebuiltSettled.{before-still, carries, still-is-settled}

-- a select over a box isn't magic
pub role-not-magic : (bs : List Node) (b : ℕ) (role : Role) → IsRoleOver bs b role → is_magic role ≡ false
role-not-magic bs b role h = elim h [ inl e ↦ ap is_magic e | inr e ↦ ap is_magic e.0 ]

module _ (g : QueryGraph) (known : Facts) (d : Node) (may : MayAbsorb g.boxes known d) (l r1 : OwnedQuant) (x y : Node) (role : Role) (up l1 l2 : List Node) (at : OuterAt g known d may l r1 x y up l1 l2) (fits : IsRoleOver g.boxes x.id role)
    (shut : (q : ℕ) → IsFree g.boxes y.id q → ⊥) (each : (n : Node) → In n g.boxes → SettledBox g.boxes known g.root n) where
  abbrev bs : List Node
  bs = g.boxes

  abbrev hs : List Node
  hs = (absorbed_left g known d may l r1 x y role up l1 l2).boxes

  abbrev c : Node
  c = may.c

  abbrev m : Node
  m = may.m

  abbrev a : OwnedQuant
  a = may.a

  abbrev r : OwnedQuant
  r = may.r

  abbrev d' : Node
  d' = left_box d.id may.a.id l.id (width may.m) (width x) may.c (range l.id F may.c.id ∷ (range r1.id F y.id ∷ []))

  abbrev c' : Node
  c' = pair_box may.c.id role may.a.id may.m.id (width may.m) may.r.id x.id (width x)

  abbrev kn : Facts
  kn = (all-told (absorbed_left g known d may l r1 x y role up l1 l2).boxes).0

  abbrev kept : ℕ → Bool
  kept b = not (b == may.c.id)

  abbrev look : ℕ → ℕ → Bool
  look b q = not (b == may.c.id) && loose g.boxes b q

  abbrev fresh : ℕ → Bool
  fresh b = (b == d.id) || (b == may.c.id)

  w : Sound g.boxes g.root
  w = outer.w g known d may l r1 x y up l1 l2 at

  sh : Shaped g.boxes g.root
  sh = outer.sh g known d may l r1 x y up l1 l2 at

  v : Sound hs g.root
  v = made.sound-after g known d may l r1 x y role up l1 l2 at fits shut

  rebuilds : Rebuilds g.boxes hs g.root kept look fresh
  rebuilds = made.rebuilds g known d may l r1 x y role up l1 l2 at fits shut

  closed : Closed hs kn
  closed = told-closed hs kn (all-told hs).1

  in-d' : In d' hs
  in-d' = made.in-d' g known d may l r1 x y role up l1 l2 at fits shut

  in-c' : In c' hs
  in-c' = made.in-c' g known d may l r1 x y role up l1 l2 at fits shut

  stays : (n : Node) → In n bs → (n.id == d.id) ≡ false → (n.id == c.id) ≡ false → Still bs hs kept n
  stays n i nd nc = before-still g.boxes hs g.root kept look fresh w rebuilds n i (ap not nc) (or_from (n.id == d.id) (n.id == c.id) nd nc)

  firm : (b : ℕ) → IsFirm bs b → kept b ≡ true → IsFirm hs b
  firm = firm-stays bs hs kept (λ n i k. elim (cases_Bool (n.id == d.id)) [
    | inl e ↦ inr (λ z. of_fed.not-firm g at.once at.formed known at.tells d may (subst (IsFirm bs) (eqb-true n.id d.id e) z))
    | inr f ↦ inl (still-firm bs hs kept n (stays n i f (not-true (n.id == c.id) k)))
  ])

  -- ---- what is below

  abbrev low : ℕ → Bool
  low = of_fed.low g at.once at.formed known at.tells d may

  low-kept : (b : ℕ) → low b ≡ true → kept b ≡ true
  low-kept b h = ap not (of_fed.low-not-c g at.once at.formed known at.tells d may b h)

  part : Carried known kn low
  part = part-carried bs hs g.root w v sh known kn at.tells closed each kept firm low low-kept (λ n i k. (
      let z = of_fed.low-under g at.once at.formed known at.tells d may n.id k in
      let e = of_fed.low-not-d g at.once at.formed known at.tells d may n.id k in
      let f = of_fed.low-not-c g at.once at.formed known at.tells d may n.id k in
      inl (still-in-part bs hs g.root w v sh known kn at.tells closed each kept firm low low-kept n (stays n i e f) k
      (λ q j. of_fed.low-over g at.once at.formed known at.tells d may n q i z e j) (λ q h o. of_fed.low-named g at.once at.formed known at.tells d may n q i z e h o))))

  in-l : In l c.quants
  in-l = outer.in-l g known d may l r1 x y up l1 l2 at

  in-r1 : In r1 c.quants
  in-r1 = outer.in-r1 g known d may l r1 x y up l1 l2 at

  arm-low : (q : OwnedQuant) → In q c.quants → low q.over ≡ true
  arm-low q j = of_fed.low-over g at.once at.formed known at.tells d may c q may.in_c (of_fed.c-under g at.once at.formed known at.tells d may) (of_fed.c-not-d g at.once at.formed known at.tells d may) j

  x-low : low x.id ≡ true
  x-low = subst (λ b. low b ≡ true) at.over_x (arm-low l in-l)

  y-low : low y.id ≡ true
  y-low = subst (λ b. low b ≡ true) at.over_y (arm-low r1 in-r1)

  m-low : low m.id ≡ true
  m-low = of_fed.m-low g at.once at.formed known at.tells d may

  -- ---- rows

  c-clean : (under_two known.clean c.quants && list_all (cond_free bs known false) c.parts.conds.items) ≡ true
  c-clean = subst (λ (k : BoxKind). clean_by bs known k c ≡ true) at.an_outer (clean-by bs known at.tells g.root w c may.in_c (of_fed.c-clean g at.once at.formed known at.tells d may each))

  both-clean : (known.clean x.id ≡ true) × (known.clean y.id ≡ true)
  both-clean =
      let z = and_parts (known.clean l.over) (known.clean r1.over) (subst (λ (qs : List OwnedQuant). under_two known.clean qs ≡ true) at.two (and_parts (under_two known.clean c.quants) (list_all (cond_free bs known false) c.parts.conds.items) c-clean).0) in
      (subst (λ b. known.clean b ≡ true) at.over_x z.0, subst (λ b. known.clean b ≡ true) at.over_y z.1)

  now-c : kn.clean c.id ≡ true
  now-c = pair-clean hs g.root v kn closed c.id role a.id m.id (width m) r.id x.id (width x) in-c' (part.clean m.id m-low may.clean) (part.clean x.id x-low both-clean.0)

  -- ---- columns

  before-a : (k : ℕ) → error_free_under bs known a.id k ≡ true → known.error_free m.id k ≡ true
  before-a k h = subst (λ b. known.error_free b k ≡ true) (sym may.over_m) (sym (range-is bs g.root w (λ b. known.error_free b k) a (d, (may.in_d, fed.in-a g at.once at.formed known at.tells d may))) ∙ h)

  before-l : (k : ℕ) → error_free_under bs known l.id k ≡ true → known.error_free x.id k ≡ true
  before-l k h = subst (λ b. known.error_free b k ≡ true) at.over_x (sym (range-is bs g.root w (λ b. known.error_free b k) l (c, (may.in_c, in-l))) ∙ h)

  before-r1 : (k : ℕ) → error_free_under bs known r1.id k ≡ true → known.error_free y.id k ≡ true
  before-r1 k h = subst (λ b. known.error_free b k ≡ true) at.over_y (sym (range-is bs g.root w (λ b. known.error_free b k) r1 (c, (may.in_c, in-r1))) ∙ h)

  after-l : (k : ℕ) → error_free_under hs kn l.id k ≡ kn.error_free c.id k
  after-l k = range-is hs g.root v (λ b. kn.error_free b k) (range l.id F c.id) (d', (in-d', inl refl))

  after-r1 : (k : ℕ) → error_free_under hs kn r1.id k ≡ kn.error_free y.id k
  after-r1 k = range-is hs g.root v (λ b. kn.error_free b k) (range r1.id F y.id) (d', (in-d', inr (inl refl)))

  first : (k : ℕ) → 1 ≤ k → k ≤ width m → known.error_free m.id k ≡ true → error_free_under hs kn l.id k ≡ true
  first k i j h = after-l k ∙ pair-first hs g.root v kn closed c.id role a.id m.id (width m) r.id x.id (width x) in-c' k i j (part.error_free m.id k m-low h)

  second : (k : ℕ) → 1 ≤ k → k ≤ width x → error_free_under bs known l.id k ≡ true → error_free_under hs kn l.id (width m + k) ≡ true
  second k i j h = after-l (width m + k) ∙ pair-second hs g.root v kn closed c.id role a.id m.id (width m) r.id x.id (width x) in-c' k (width m + k) refl i j (part.error_free x.id k x-low (before-l k h))

  third : (k : ℕ) → error_free_under bs known r1.id k ≡ true → error_free_under hs kn r1.id k ≡ true
  third k h = after-r1 k ∙ part.error_free y.id k y-low (before-r1 k h)

  leads : MayLead a.id l.id r1.id (width m) (width x) (width y) c
  leads = outer.leads g known d may l r1 x y up l1 l2 at

  no-single-c : has_no_single c ≡ true
  no-single-c = (each c may.in_c).no_single

  cell-led : (z : Term) → In z c.parts.head → is_free bs known false z ≡ true → is_free hs kn false (led_term a.id l.id (width m) (width x) z) ≡ true
  cell-led z i h = free-is hs kn false (led_term a.id l.id (width m) (width x) z)
      ∙ led-cell a.id l.id r1.id (width m) (width x) (width y) c leads no-single-c (ef_of bs known) (ef_of hs kn) (cl_of bs known) (cl_of hs kn) (one_of bs known) (one_of hs kn) (λ k s t e. first k s t (before-a k e)) second third z i (sym (free-is bs known false z) ∙ h)

  on-led : (z : Cond) → In z c.parts.conds.items → cond_free bs known false z ≡ true → cond_free hs kn false (led_cond a.id l.id (width m) (width x) z) ≡ true
  on-led z i h = cond-is hs kn false (led_cond a.id l.id (width m) (width x) z)
      ∙ led-on a.id l.id r1.id (width m) (width x) (width y) c leads no-single-c (ef_of bs known) (ef_of hs kn) (cl_of bs known) (cl_of hs kn) (one_of bs known) (one_of hs kn) (λ k s t e. first k s t (before-a k e)) second third z i (sym (cond-is bs known false z) ∙ h)

  -- ---- the outer join

  now-d : kn.clean d.id ≡ true
  now-d = known-clean hs v.ordered kn closed d' in-d' (subst (λ (k : BoxKind). clean_by hs kn k d' ≡ true) (sym at.an_outer)
      (and_from (kn.clean c.id && kn.clean y.id) (list_all (cond_free hs kn false) d'.parts.conds.items) (and_from (kn.clean c.id) (kn.clean y.id) now-c (part.clean y.id y-low both-clean.1))
      (all-mapped (led_cond a.id l.id (width m) (width x)) (cond_free hs kn false) c.parts.conds.items (λ z i. on-led z i (all-in (cond_free bs known false) z c.parts.conds.items (and_parts (under_two known.clean c.quants) (list_all (cond_free bs known false) c.parts.conds.items) c-clean).1 i)))))

  of-r : (j : ℕ) → error_free_under bs known r.id j ≡ true → known.error_free c.id j ≡ true
  of-r j h = subst (λ b. known.error_free b j ≡ true) (sym may.over_c) (sym (range-is bs g.root w (λ b. known.error_free b j) r (d, (may.in_d, fed.in-r g at.once at.formed known at.tells d may))) ∙ h)

  abbrev leds : List Term
  leds = map (led_term may.a.id l.id (width may.m) (width x)) may.c.parts.head

  now-free : (k : ℕ) → known.error_free d.id k ≡ true → kn.error_free d.id k ≡ true
  now-free k h =
      let z = free-by bs known at.tells g.root w d may.in_d k h in
      let start : 1 ≤ k = ltb-true 0 k (and_parts (nat_lt 0 k) (nat_le k (width d)) z.0).0 in
      let n : at_place (is_free hs kn false) (columns_from l.id 1 (width m) ++ leds) k ≡ true = (elim (place-split (is_free bs known false) a.id (width m) (columns_from r.id 1 (width c)) k
      (subst (λ (t : List Term). at_place (is_free bs known false) t k ≡ true) (fed.head-is g at.once at.formed known at.tells d may) (subst (λ (t : BoxKind). free_by bs known t d k ≡ true) (fed.kind_d g at.once at.formed known at.tells d may) z.1))) [
        | inl o ↦ place-left (is_free hs kn false) l.id (width m) leds k start o.0 (first k start o.0 (before-a k o.1))
        | inr o ↦ place-right (is_free hs kn false) l.id (width m) leds o.0 k o.1.0
            (place-map (led_term a.id l.id (width m) (width x)) (is_free bs known false) (is_free hs kn false) c.parts.head o.0 (λ t i. cell-led t i)
            (subst (λ (t : BoxKind). free_by bs known t c o.0 ≡ true) at.an_outer (free-by bs known at.tells g.root w c may.in_c o.0 (of-r o.0 (place-only (is_free bs known false) r.id (width c) o.0 o.1.1))).1))
      ]) in
      known-free hs v.ordered kn closed d' in-d' k
      (subst (λ (t : BoxKind). (nat_lt 0 k && nat_le k (width_by t (length d'.parts.head))) ≡ true) (sym at.an_outer) (place-range (is_free hs kn false) (columns_from l.id 1 (width m) ++ leds) k n))
      (subst (λ (t : BoxKind). free_by hs kn t d' k ≡ true) (sym at.an_outer) n)

  -- ---- all boxes after it

  carried : Carried known kn kept
  carried = carries bs hs g.root w v sh kept known kn closed each firm at.tells (λ n i. elim (cases_Bool (n.id == d.id)) [
    | inl e ↦ (
        let id = eqb-true n.id d.id e in
        inr (record { clean = λ k t z. subst (λ b. kn.clean b ≡ true) (sym id) now-d; error_free = λ q k t s z. subst (λ b. kn.error_free b q ≡ true) (sym id) (now-free q (subst (λ b. known.error_free b q ≡ true) id t)) }))
    | inr f ↦ elim (cases_Bool (n.id == c.id)) [
      | inr k ↦ inl (stays n i f k)
      | inl k ↦ inr (gone-covers bs hs known kn kept n (ap not k))
    ]
  ])

  not-magic : is_magic c.parts.role ≡ false
  not-magic = plain-not-magic c.parts.role (outer.plain-c g known d may l r1 x y up l1 l2 at)

  settled-d : SettledBox hs kn g.root d'
  settled-d = settled-from hs kn g.root d' (or_right (d.id == g.root) (kn.clean d.id) now-d) columns (or_left (not (is_magic c.parts.role)) (calm_magic hs kn d') (ap not not-magic)) no-single scalars (firm-single hs v.ordered kn closed)
    where
      columns : list_all (calm_column hs kn d') (columns_of d') ≡ true
      columns = all-from (calm_column hs kn d') (columns_of d') (λ z i. or_left (owns z.quant d') (error_free_under hs kn z.quant z.place)
          (own-columns hs g.root v d' in-d' (λ q. made.looks-after g known d may l r1 x y role up l1 l2 at fits shut d.id q (in-has d' hs in-d') ∙ made.looks-d g known d may l r1 x y role up l1 l2 at fits shut q) z i))

      no-single : has_no_single d' ≡ true
      no-single = and_from (list_all single_free d'.parts.head) (list_all single_free_cond d'.parts.conds.items)
          (all-joined single_free (columns_from l.id 1 (width m)) leds (columns-single l.id 1 (width m))
          (all-mapped (led_term a.id l.id (width m) (width x)) single_free c.parts.head (led-cell-single a.id l.id r1.id (width m) (width x) (width y) c leads no-single-c (ef_of bs known) (ef_of hs kn) (cl_of bs known) (cl_of hs kn) (one_of bs known) (one_of hs kn) (λ k s t e. first k s t (before-a k e)) second third)))
          (all-mapped (led_cond a.id l.id (width m) (width x)) single_free_cond c.parts.conds.items (led-on-single a.id l.id r1.id (width m) (width x) (width y) c leads no-single-c (ef_of bs known) (ef_of hs kn) (cl_of bs known) (cl_of hs kn) (one_of bs known) (one_of hs kn) (λ k s t e. first k s t (before-a k e)) second third))

      scalars : (q : OwnedQuant) → In q d'.quants → is_S q.kind ≡ true → IsFirm hs q.over
      scalars q j t = elim j [
        | inl e ↦ absurd (let z : is_S F ≡ true = ap (λ (s : OwnedQuant). is_S s.kind) e ∙ t in let y : ⊥ = cc in y)
        | inr j ↦ elim j [
          | inl e ↦ absurd (let z : is_S F ≡ true = ap (λ (s : OwnedQuant). is_S s.kind) e ∙ t in let y : ⊥ = cc in y)
          | inr z ↦ elim z [ ]
        ]
      ]

  pub left-settled : IsSettled (absorbed_left g known d may l r1 x y role up l1 l2)
  left-settled = record {
    known = kn;
    tells = (all-told hs).1;
    each = λ n i. elim (made.each-in g known d may l r1 x y role up l1 l2 at fits shut n i) [
      | inl z ↦ subst (SettledBox hs kn g.root) (sym z) settled-d
      | inr z ↦ elim z [
        | inl z ↦ subst (SettledBox hs kn g.root) (sym z) (pair-settled hs g.root v kn closed c.id role a.id m.id (width m) r.id x.id (width x) in-c' (role-not-magic g.boxes x.id role fits) now-c)
        | inr z ↦ still-is-settled bs hs g.root w v sh kept known kn closed each firm carried n (stays n z.0 z.1.0 z.1.1)
      ]
    ];
  }
