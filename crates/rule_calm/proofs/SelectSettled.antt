-- G2 keeps a graph settled.
use Rattle.std.proofs.Common.{ℕ, ◌==◌, ◌≡◌, ◌&&◌, ◌||◌, nat_le, nat_lt, not, Bool, true, false, List, ◌∷◌, ◌++◌, length, refl, sym, ap, subst, ◌∙◌, eqb-true, inl, inr}
use Rattle.std.specs.List.{flat_map, list_all}
use Rattle.std.proofs.lemmas.Bool.{and_from, and_parts, cases_Bool, eq-eqb, ltb-true, or_cases, or_left, or_right}
use Rattle.list_laws.specs.Lists.{In, holds}
use Rattle.list_laws.proofs.Membership.{all-from, all-in, eq-false-sym, in-append, in-left, in-right}
use Rattle.qgm_core.specs.Boxes.{QueryGraph, owns, width}
use Rattle.qgm_core.specs.Free.{named_by}
use Rattle.qgm_core.specs.Kinds.{is_F, is_S, is_magic, width_by}
use Rattle.qgm_core.specs.declared.kinds.BoxKind.{BoxKind}
use Rattle.qgm_core.specs.declared.kinds.BoxKind.TheVariants.{Select}
use Rattle.qgm_core.specs.declared.node.Node.{Node}
use Rattle.qgm_core.specs.declared.owned.OwnedQuant.{OwnedQuant}
use Rattle.qgm_meaning.specs.Scope.{loose}
use Rattle.qgm_meaning.specs.Tags.{columns_from}
use Rattle.qgm_terms.specs.Named.{columns_in, columns_in_cond}
use Rattle.qgm_terms.specs.Terms.{Term}
use Rattle.qgm_terms.specs.declared.named.Column.{Column}
use Rattle.qgm_wellformed.specs.Columns.{columns_of}
use Rattle.qgm_wellformed.specs.Shapes.{node_fits, nodes_of}
use Rattle.qgm_edit_laws.specs.Graph.{Sound}
use Rattle.qgm_edit_laws.specs.Rebuilds.{IsOwned, Rebuilds}
use Rattle.qgm_edit_laws.specs.Shaped.{Shaped}
use Rattle.qgm_edit_laws.proofs.Ranks.{same-box}
use Rattle.qgm_edit_laws.proofs.ShapedPut.{all-joined}
use Rattle.qgm_props.specs.Calm.{calm_column, calm_magic, clean_below}
use Rattle.qgm_props.specs.Inferred.{Closed, Facts, all_under_F, at_place, clean_by, cond_free, error_free_under, free_by, is_free}
use Rattle.qgm_props.proofs.Settled.{all-told}
use Rattle.rule_magic.specs.AbsorbSelect.{SelectAt, absorbed_select}
use Rattle.rule_magic.specs.Boxes.{absorbed_box}
use Rattle.rule_magic.specs.Places.{MayAbsorb}
use Rattle.rule_magic.proofs.AbsorbFacts as fed
use Rattle.rule_magic.proofs.AbsorbSelectFormed as made
use Rattle.rule_calm.specs.Settled.{IsFirm, IsSettled, SettledBox, has_no_single, single_free, single_free_cond}
use Rattle.rule_calm.proofs.FedSettled as of_fed
use Rattle.rule_calm.proofs.FedSettled.{F-more, F-two, clean-by, columns-calm, free-by}
use Rattle.rule_calm.proofs.Framed.{Carried, Names, OwnedAs, Still, cell-still, clean-still, column-still, firm-single, firm-stays, gone-covers, known-clean, known-free, range-is, settled-from, still-firm, told-closed}
use Rattle.rule_calm.proofs.HeadPlaces.{column-split, columns-single, place-left, place-only, place-range, place-right, place-split}
use Rattle.rule_calm.proofs.PartFacts.{part-carried, still-in-part, under}
use Rattle.rule_calm.proofs.RebuiltSettled.{after-still, before-still, carries, nodes-fit, still-is-settled}
use Rattle.rule_calm.proofs.SameFacts.{place-of}

module _ (g : QueryGraph) (known : Facts) (d : Node) (may : MayAbsorb g.boxes known d) (up l1 l2 : List Node) (at : SelectAt g known d may up l1 l2) (each : (n : Node) → In n g.boxes → SettledBox g.boxes known g.root n) where
  abbrev bs : List Node
  bs = g.boxes

  abbrev hs : List Node
  hs = (absorbed_select g known d may up l1 l2).boxes

  abbrev c : Node
  c = may.c

  abbrev a : OwnedQuant
  a = may.a

  abbrev r : OwnedQuant
  r = may.r

  abbrev d' : Node
  d' = absorbed_box d.id may.a (width may.m) may.c

  abbrev cols : List Term
  cols = columns_from may.a.id 1 (width may.m)

  abbrev kn : Facts
  kn = (all-told (absorbed_select g known d may up l1 l2).boxes).0

  abbrev kept : ℕ → Bool
  kept b = not (b == may.c.id)

  abbrev look : ℕ → ℕ → Bool
  look b q = not (b == may.c.id) && loose g.boxes b q

  abbrev fresh : ℕ → Bool
  fresh b = b == d.id

  w : Sound g.boxes g.root
  w = made.w g at.once at.formed known at.tells d may

  v : Sound hs g.root
  v = made.sound-after g at.once at.formed known at.tells d may up l1 l2 at.before at.a_select at.plain

  sh : Shaped g.boxes g.root
  sh = made.sh g at.once at.formed known at.tells d may

  rebuilds : Rebuilds g.boxes hs g.root kept look fresh
  rebuilds = made.rebuilds g at.once at.formed known at.tells d may up l1 l2 at.before at.a_select at.plain

  closed : Closed hs kn
  closed = told-closed hs kn (all-told hs).1

  new-in : In d' hs
  new-in = made.new-in g at.once at.formed known at.tells d may up l1 l2 at.before at.a_select at.plain

  stays : (n : Node) → In n bs → kept n.id ≡ true → fresh n.id ≡ false → Still bs hs kept n
  stays = before-still g.boxes hs g.root kept look fresh w rebuilds

  firm : (b : ℕ) → IsFirm bs b → kept b ≡ true → IsFirm hs b
  firm = firm-stays bs hs kept (λ u i k. elim (cases_Bool (u.id == d.id)) [
    | inl e ↦ inr (λ x. of_fed.not-firm g at.once at.formed known at.tells d may (subst (IsFirm bs) (eqb-true u.id d.id e) x))
    | inr f ↦ inl (still-firm bs hs kept u (stays u i k f))
  ])

  -- ---- the box under the fed box

  elsewhere : (n : Node) (s : OwnedQuant) → In n bs → (n.id == d.id) ≡ false → In s n.quants → kept s.over ≡ true
  elsewhere n s i f j = ap not (made.elsewhere g at.once at.formed known at.tells d may up l1 l2 at.before n s i f j)

  c-not-d : (c.id == d.id) ≡ false
  c-not-d = eq-false-sym d.id c.id (made.d-not-c g at.once at.formed known at.tells d may)

  -- a quantifier but r is there after
  owned-after : (s : OwnedQuant) → (o : IsOwned bs s) → (s ≡ r → ⊥) → OwnedAs hs s
  owned-after s x n = (
    s,
    (
      elim (cases_Bool (x.0.id == d.id)) [
        | inl e ↦ elim (made.of-d g at.once at.formed known at.tells d may s (subst (λ (z : Node). In s z.quants) (same-box g.boxes x.0 d w.ordered x.1.0 may.in_d (eqb-true x.0.id d.id e)) x.1.1)) [
          | inl y ↦ (d', (new-in, subst (λ (z : OwnedQuant). In z (a ∷ c.quants)) (sym y) (inl refl)))
          | inr y ↦ absurd (n y)
        ]
        | inr f ↦ elim (cases_Bool (x.0.id == c.id)) [
          | inl e ↦ (d', (new-in, inr (subst (λ (z : Node). In s z.quants) (same-box g.boxes x.0 c w.ordered x.1.0 may.in_c (eqb-true x.0.id c.id e)) x.1.1)))
          | inr k ↦ (x.0, (made.to-hs g at.once at.formed known at.tells d may up l1 l2 at.before at.a_select at.plain x.0 x.1.0 f k, x.1.1))
        ]
      ],
      (refl, refl),
    ),
  )

  abbrev low : ℕ → Bool
  low = of_fed.low g at.once at.formed known at.tells d may

  low-kept : (b : ℕ) → low b ≡ true → kept b ≡ true
  low-kept b h = ap not (of_fed.low-not-c g at.once at.formed known at.tells d may b h)

  c-under : under g.boxes d.id c.id ≡ true
  c-under = of_fed.c-under g at.once at.formed known at.tells d may

  low-over : (n : Node) (s : OwnedQuant) → In n g.boxes → under g.boxes d.id n.id ≡ true → (n.id == d.id) ≡ false → In s n.quants → low s.over ≡ true
  low-over = of_fed.low-over g at.once at.formed known at.tells d may

  low-named : (n : Node) (s : OwnedQuant) → In n g.boxes → under g.boxes d.id n.id ≡ true → (n.id == d.id) ≡ false → holds s.id (named_by n) ≡ true → IsOwned g.boxes s → low s.over ≡ true
  low-named = of_fed.low-named g at.once at.formed known at.tells d may

  names-c : Names bs hs low c
  names-c = record {
    before = may.in_c;
    over = λ s j. low-over c s may.in_c c-under c-not-d j;
    owned = λ s j. (s, ((d', (new-in, inr j)), (refl, refl)));
    named = λ s h x. (low-named c s may.in_c c-under c-not-d h x, owned-after s x (λ e. made.r-unnamed g at.once at.formed known at.tells d may c may.in_c c-not-d (subst (λ (z : OwnedQuant). holds z.id (named_by c) ≡ true) e h)));
  }

  fit-c : list_all (node_fits c.quants) (nodes_of c) ≡ true
  fit-c = nodes-fit bs g.root sh c may.in_c

  no-single-c : has_no_single c ≡ true
  no-single-c = (each c may.in_c).no_single

  firm-c : (s : OwnedQuant) → In s c.quants → is_S s.kind ≡ true → IsFirm hs s.over
  firm-c s j t = firm s.over ((each c may.in_c).scalars s j t) (elsewhere c s may.in_c c-not-d j)

  single-c : (s : OwnedQuant) → In s c.quants → is_S s.kind ≡ true → kn.at_most_one s.over ≡ true
  single-c s j t = firm-single hs v.ordered kn closed s.over (firm-c s j t)

  -- what is known of the boxes below both
  part : Carried known kn low
  part = part-carried bs hs g.root w v sh known kn at.tells closed each kept firm low low-kept (λ n i p. (
      let u = of_fed.low-under g at.once at.formed known at.tells d may n.id p in
      let e = of_fed.low-not-d g at.once at.formed known at.tells d may n.id p in
      inl (still-in-part bs hs g.root w v sh known kn at.tells closed each kept firm low low-kept n (stays n i (low-kept n.id p) e) p (λ s j. low-over n s i u e j) (λ s h o. low-named n s i u e h o))))

  clean-c : known.clean c.id ≡ true → clean_by hs kn Select c ≡ true
  clean-c h = subst (λ (k : BoxKind). clean_by hs kn k c ≡ true) at.a_select (clean-still bs hs g.root w v low known kn part c names-c fit-c single-c no-single-c (clean-by bs known at.tells g.root w c may.in_c h))

  free-c : (k : ℕ) → known.error_free c.id k ≡ true → at_place (is_free hs kn false) c.parts.head k ≡ true
  free-c k h = place-of (is_free bs known false) (is_free hs kn false) c.parts.head k (λ x j. cell-still bs hs g.root w v low known kn part c names-c fit-c single-c no-single-c x false false j)
      (subst (λ (z : BoxKind). free_by bs known z c k ≡ true) at.a_select (free-by bs known at.tells g.root w c may.in_c k h).1)

  -- ---- the fed box

  d-kept : kept d.id ≡ true
  d-kept = ap not (made.d-not-c g at.once at.formed known at.tells d may)

  kind-d : d.parts.kind ≡ Select
  kind-d = fed.kind_d g at.once at.formed known at.tells d may

  f-a : is_F a.kind ≡ true
  f-a = made.f-a g at.once at.formed known at.tells d may

  f-r : is_F r.kind ≡ true
  f-r = made.f-r g at.once at.formed known at.tells d may

  a-low : low a.over ≡ true
  a-low = subst (λ b. low b ≡ true) may.over_m (of_fed.m-low g at.once at.formed known at.tells d may)

  now-clean : known.clean d.id ≡ true → kn.clean d.id ≡ true
  now-clean h =
      let x = and_parts (all_under_F known.clean d.quants) (list_all (cond_free bs known false) d.parts.conds.items) (subst (λ (k : BoxKind). clean_by bs known k d ≡ true) kind-d (clean-by bs known at.tells g.root w d may.in_d h)) in
      let y = F-two known.clean a r f-a f-r (subst (λ (z : List OwnedQuant). all_under_F known.clean z ≡ true) may.quants x.0) in
      let p = and_parts (all_under_F kn.clean c.quants) (list_all (cond_free hs kn false) c.parts.conds.items) (clean-c (subst (λ b. known.clean b ≡ true) (sym may.over_c) y.1)) in
      known-clean hs v.ordered kn closed d' new-in (subst (λ (k : BoxKind). clean_by hs kn k d' ≡ true) (sym at.a_select)
      (and_from (all_under_F kn.clean (a ∷ c.quants)) (list_all (cond_free hs kn false) c.parts.conds.items) (F-more kn.clean a c.quants f-a (part.clean a.over a-low y.0) p.0) p.1))

  of-a : (k : ℕ) → error_free_under bs known a.id k ≡ true → error_free_under hs kn a.id k ≡ true
  of-a k h = range-is hs g.root v (λ b. kn.error_free b k) a (d', (new-in, inl refl))
      ∙ part.error_free a.over k a-low (sym (range-is bs g.root w (λ b. known.error_free b k) a (d, (may.in_d, made.in-a g at.once at.formed known at.tells d may))) ∙ h)

  of-r : (k : ℕ) → error_free_under bs known r.id k ≡ true → at_place (is_free hs kn false) c.parts.head k ≡ true
  of-r k h = free-c k (subst (λ b. known.error_free b k ≡ true) (sym may.over_c) (sym (range-is bs g.root w (λ b. known.error_free b k) r (d, (may.in_d, made.in-r g at.once at.formed known at.tells d may))) ∙ h))

  now-free : (k : ℕ) → known.error_free d.id k ≡ true → kn.error_free d.id k ≡ true
  now-free k h =
      let x = free-by bs known at.tells g.root w d may.in_d k h in
      let z : at_place (is_free hs kn false) (cols ++ c.parts.head) k ≡ true = (elim (place-split (is_free bs known false) a.id (width may.m) (columns_from r.id 1 (width c)) k
      (subst (λ (z : List Term). at_place (is_free bs known false) z k ≡ true) (fed.head-is g at.once at.formed known at.tells d may) (subst (λ (z : BoxKind). free_by bs known z d k ≡ true) kind-d x.1))) [
        | inl y ↦ place-left (is_free hs kn false) a.id (width may.m) c.parts.head k (ltb-true 0 k (and_parts (nat_lt 0 k) (nat_le k (width d)) x.0).0) y.0 (of-a k y.1)
        | inr y ↦ place-right (is_free hs kn false) a.id (width may.m) c.parts.head y.0 k y.1.0 (of-r y.0 (place-only (is_free bs known false) r.id (width c) y.0 y.1.1))
      ]) in
      known-free hs v.ordered kn closed d' new-in k
      (subst (λ (y : BoxKind). (nat_lt 0 k && nat_le k (width_by y (length (cols ++ c.parts.head)))) ≡ true) (sym at.a_select) (place-range (is_free hs kn false) (cols ++ c.parts.head) k z))
      (subst (λ (y : BoxKind). free_by hs kn y d' k ≡ true) (sym at.a_select) z)

  -- ---- all boxes after it

  carried : Carried known kn kept
  carried = carries bs hs g.root w v sh kept known kn closed each firm at.tells (λ n i. elim (cases_Bool (n.id == d.id)) [
    | inl e ↦ (
        let id = eqb-true n.id d.id e in
        inr (record { clean = λ k x y. subst (λ b. kn.clean b ≡ true) (sym id) (now-clean (subst (λ b. known.clean b ≡ true) id x)); error_free = λ q k x l y. subst (λ b. kn.error_free b q ≡ true) (sym id) (now-free q (subst (λ b. known.error_free b q ≡ true) id x)) }))
    | inr f ↦ elim (cases_Bool (kept n.id)) [
      | inl k ↦ inl (stays n i k f)
      | inr k ↦ inr (gone-covers bs hs known kn kept n k)
    ]
  ])

  settled-d : SettledBox hs kn g.root d'
  settled-d = settled-from hs kn g.root d' below columns magic no-single scalars (firm-single hs v.ordered kn closed)
    where
      below : clean_below hs kn g.root d' ≡ true
      below = or_right (d.id == g.root) (kn.clean d.id) (carried.clean d.id d-kept (of_fed.d-clean g at.once at.formed known at.tells d may each))

      by-c : (x : Column) → In x (columns_of c) → calm_column hs kn d' x ≡ true
      by-c x i = elim (or_cases (owns x.quant c) (error_free_under bs known x.quant x.place) (all-in (calm_column bs known c) x (columns_of c) (columns-calm bs known g.root c (each c may.in_c)) i)) [
        | inl t ↦ or_left (owns x.quant d') (error_free_under hs kn x.quant x.place) (or_right (a.id == x.quant) (owns x.quant c) t)
        | inr t ↦ or_right (owns x.quant d') (error_free_under hs kn x.quant x.place) (column-still bs hs g.root w v low known kn part c names-c x i t)
      ]

      columns : list_all (calm_column hs kn d') (columns_of d') ≡ true
      columns = all-from (calm_column hs kn d') (columns_of d') (λ x i. elim (in-append x (flat_map columns_in (cols ++ c.parts.head)) (flat_map columns_in_cond c.parts.conds.items) i) [
        | inl j ↦ elim (column-split x a.id 1 (width may.m) c.parts.head j) [
          | inl e ↦ or_left (owns x.quant d') (error_free_under hs kn x.quant x.place) (or_left (a.id == x.quant) (owns x.quant c) (eq-eqb a.id x.quant (sym e)))
          | inr k ↦ by-c x (in-left x (flat_map columns_in c.parts.head) (flat_map columns_in_cond c.parts.conds.items) k)
        ]
        | inr j ↦ by-c x (in-right x (flat_map columns_in c.parts.head) (flat_map columns_in_cond c.parts.conds.items) j)
      ])

      magic : (not (is_magic c.parts.role) || calm_magic hs kn d') ≡ true
      magic = or_left (not (is_magic c.parts.role)) (calm_magic hs kn d') (ap (λ z. not (is_magic z)) at.plain)

      no-single : has_no_single d' ≡ true
      no-single =
          let p = and_parts (list_all single_free c.parts.head) (list_all single_free_cond c.parts.conds.items) no-single-c in
          and_from (list_all single_free (cols ++ c.parts.head)) (list_all single_free_cond c.parts.conds.items) (all-joined single_free cols c.parts.head (columns-single a.id 1 (width may.m)) p.0) p.1

      scalars : (s : OwnedQuant) → In s (a ∷ c.quants) → is_S s.kind ≡ true → IsFirm hs s.over
      scalars s i t = elim i [
        | inl e ↦ absurd (made.f-not-s a.kind f-a (ap (λ (z : OwnedQuant). is_S z.kind) e ∙ t))
        | inr j ↦ firm-c s j t
      ]

  pub select-settled : IsSettled (absorbed_select g known d may up l1 l2)
  select-settled = record {
    known = kn;
    tells = (all-told hs).1;
    each = λ n i. elim (cases_Bool (n.id == d.id)) [
      | inl e ↦ subst (SettledBox hs kn g.root) (sym (made.only-new g at.once at.formed known at.tells d may up l1 l2 at.before at.a_select at.plain n i e)) settled-d
      | inr f ↦ still-is-settled bs hs g.root w v sh kept known kn closed each firm carried n (after-still g.boxes hs g.root kept look fresh w rebuilds n i f)
    ];
  }
