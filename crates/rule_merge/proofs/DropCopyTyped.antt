-- M2 keeps that types agree.
use Rattle.std.proofs.Common.{ℕ, suc, zero, ◌==◌, ◌≡◌, ◌<◌, arith, cond, Bool, true, false, List, [], length, map, Some, refl, sym, ap, ap₂, subst, ◌∙◌, eqb-true, ◌⊎◌, inl, inr}
use Rattle.std.specs.List.{flat_map, list_all}
use Rattle.std.proofs.lemmas.Bool.{and_parts, cases_Bool}
use Rattle.qgm_core.specs.Boxes.{QueryGraph, width}
use Rattle.qgm_core.specs.Edits.{compact}
use Rattle.qgm_core.specs.Free.{named_by}
use Rattle.list_laws.specs.Lists.{In, first, holds}
use Rattle.qgm_core.specs.declared.node.Node.{Node}
use Rattle.qgm_core.specs.declared.owned.OwnedQuant.{OwnedQuant}
use Rattle.qgm_terms.specs.Named.{names_in}
use Rattle.qgm_wellformed.specs.Columns.{box_under}
use Rattle.qgm_wellformed.specs.Types.{is_typed, lookup_of, term_type, type_found, types_agree, types_by, types_of}
use Rattle.rule_merge.specs.Dropped.{MayDrop, dropped}
use Rattle.qgm_edit_laws.specs.Ranges.{columns_from, moved, moved_range}
use Rattle.qgm_edit_laws.specs.Graph.{Sound}
use Rattle.qgm_edit_laws.specs.Placed.{place}
use Rattle.qgm_edit_laws.specs.Shaped as shaped
use Rattle.qgm_edit_laws.proofs.Edits.{boxes_without, without-in, without-one}
use Rattle.qgm_edit_laws.proofs.Follow.{Follows, agree-follow, settled-types, types_at}
use Rattle.qgm_edit_laws.proofs.Levels as levels
use Rattle.rule_merge.proofs.DropCopyMeans.{in-m, moved-sound}
use Rattle.qgm_edit_laws.proofs.Ranks.{has-in, place-under}
use Rattle.rule_merge.proofs.DropCopyKeeps.{copies}
use Rattle.qgm_edit_laws.proofs.Scope.{in-first}
use Rattle.qgm_edit_laws.proofs.TypedKept.{Ranging, found, found-under, typed-compact}
use Rattle.qgm_core.proofs.Reaching.{overs-held}
use Rattle.list_laws.proofs.Membership.{in-map, map-in}
use Rattle.qgm_edit_laws.proofs.HeadTypes.{columns-typed, no-length, type-of, types-width}

-- ---- the rule

module _ (g : QueryGraph) (w : Sound g.boxes g.root) (b c : Node) (r : OwnedQuant) (m : MayDrop g b c r) where
  abbrev bs : List Node
  bs = g.boxes

  abbrev mv : Node → Node
  mv = moved b.id c.id

  abbrev mr : OwnedQuant → OwnedQuant
  mr = moved_range b.id c.id

  abbrev hm : List Node
  hm = map mv (boxes_without b.id bs)

  sound : Sound hm g.root
  sound = moved-sound bs g.root w b c r (copies g w b c r m)

  pub from : (n : Node) → In n hm → (y : Node) × (In y bs × (((y.id == b.id) ≡ false) × (mv y ≡ n)))
  from n i = in-m bs g.root w b c r (copies g w b c r m) n i

  to : (y : Node) → In y bs → (y.id == b.id) ≡ false → In (mv y) hm
  to y i n = map-in mv y (boxes_without b.id bs) (without-in b.id y bs i n)

  r-in : In r b.quants
  r-in = subst (λ z. In r z) (sym m.alone) (inl refl)

  c-not-b : (c.id == b.id) ≡ false
  c-not-b = elim (cases_Bool (c.id == b.id)) [
    | inr f ↦ f
    | inl t ↦ absurd (
        let less : place bs b.id < place bs r.over = place-under bs b r w.ordered m.in_b r-in in
        let e : place bs r.over ≡ place bs b.id = ap (place bs) (m.over_c ∙ eqb-true c.id b.id t) in omega arith)
  ]

  -- the box after that stands for the one before: c for b
  abbrev Stands : Node → Node → Type 0
  Stands y z = ((In y bs × ((y.id == b.id) ≡ false)) × (z ≡ mv y)) ⊎ ((y ≡ b) × (z ≡ mv c))

  -- the boxes before and after under a quantifier of a box that stays
  ranges : (o : Node) → In o bs → (o.id == b.id) ≡ false → (q : OwnedQuant) → In q o.quants → (u : Node) × ((v : Node) × (((u.id ≡ q.over) × In u bs) × (((v.id ≡ (mr q).over) × In v hm) × Stands u v)))
  ranges o i n q j =
      let x = has-in q.over bs (overs-held bs o q w.ordered i j) in
      elim (cases_Bool (q.over == b.id)) [
        | inr f ↦ (
            let u : (x.0.id == b.id) ≡ false = ap (λ z. z == b.id) x.1.1 ∙ f in
            (x.0, (mv x.0, ((x.1.1, x.1.0), ((x.1.1 ∙ sym (ap (λ (t : Bool). cond t c.id q.over) f), to x.0 x.1.0 u), inl ((x.1.0, u), refl))))))
        | inl t ↦ (
            (b, (mv c, ((sym (eqb-true q.over b.id t), m.in_b), ((sym (ap (λ (t : Bool). cond t c.id q.over) t), to c m.in_c c-not-b), inr (refl, refl))))))
      ]

  named : (y : Node) → In y bs → (y.id == b.id) ≡ false → (q : ℕ) → holds q (named_by y) ≡ true → (u : Node) × ((v : Node) × ((box_under bs q ≡ Some u) × ((box_under hm q ≡ Some v) × Stands u v)))
  named y i n q h =
      let x = found hm g.root sound (mv y) (to y i n) q h in
      let o = from x.owner x.owner_in in
      let p = in-map mr x.quant o.0.quants (subst (λ (z : Node). In x.quant z.quants) (sym o.1.1.1) x.quant_in) in
      let e = ranges o.0 o.1.0 o.1.1.0 p.0 p.1.0 in
      let is : p.0.id ≡ q = ap (λ (z : OwnedQuant). z.id) p.1.1 ∙ x.is_q in
      let was : Ranging bs q = record { owner = o.0; quant = p.0; box = e.0; owner_in = o.1.0; quant_in = p.1.0; is_q = is; box_in = e.1.1.0.1; is_over = e.1.1.0.0 } in
      let now : Ranging hm q = record { owner = mv o.0; quant = mr p.0; box = e.1.0; owner_in = to o.0 o.1.0 o.1.1.0; quant_in = map-in mr p.0 o.0.quants p.1.0; is_q = is; box_in = e.1.1.1.0.1; is_over = e.1.1.1.0.0 } in
      (e.0, (e.1.0, (found-under bs g.root w q was, (found-under hm g.root sound q now, e.1.1.1.1))))

  -- b has the types of c
  over-c : box_under bs r.id ≡ Some c
  over-c = found-under bs g.root w r.id (record { owner = b; quant = r; box = c; owner_in = m.in_b; quant_in = r-in; is_q = refl; box_in = m.in_c; is_over = sym m.over_c })

  wide : (n : Node) → In n bs → length (types_at bs n.id) ≡ width n
  wide n i = ap length (settled-types bs g.root w n i) ∙ types-width (lookup_of bs) n.parts.kind n.parts.head

  types-same : types_at bs b.id ≡ types_at bs c.id
  types-same =
      settled-types bs g.root w b m.in_b ∙ ap₂ (types_by (lookup_of bs)) m.a_select m.all_columns
      ∙ ap (λ k. map (term_type (lookup_of bs)) (columns_from r.id 1 k)) (sym (wide c m.in_c))
      ∙ columns-typed (lookup_of bs) r.id (types_at bs c.id) (λ i. ap (type_found (types_of bs) (suc i)) over-c ∙ type-of i (first (is_typed c.id) (types_of bs))) [] (types_at bs c.id) refl

  under-c : (e : ℕ) → levels.under bs w.ordered w.once (levels.settled bs w.ordered w.once e) r.id ≡ true → levels.settled bs w.ordered w.once e c.id ≡ true
  under-c e h = subst (λ z. levels.settled bs w.ordered w.once e z ≡ true) m.over_c (sym (ap (levels.under_by bs w.ordered w.once (levels.settled bs w.ordered w.once e)) (levels.owner-of bs w.once b r m.in_b r-in)) ∙ h)

  settled-before : (e k : ℕ) → width c ≡ k → levels.settled bs w.ordered w.once (suc e) b.id ≡ true → (levels.settled bs w.ordered w.once e c.id ≡ true) ⊎ (types_at hm c.id ≡ types_at bs b.id)
  settled-before e zero none h = inr (no-length (types_at hm c.id) (types_at bs b.id)
      (ap length (settled-types hm g.root sound (mv c) (to c m.in_c c-not-b)) ∙ types-width (lookup_of hm) c.parts.kind c.parts.head ∙ none)
      (ap length types-same ∙ wide c m.in_c ∙ none))
  settled-before e (suc k) some h = inl (under-c e (
      let S = levels.settled bs w.ordered w.once e in
      let all : list_all (levels.under bs w.ordered w.once S) (flat_map names_in (columns_from r.id 1 (suc k))) ≡ true = ap (λ z. list_all (levels.under bs w.ordered w.once S) (flat_map names_in (columns_from r.id 1 z))) (sym some) ∙ ap (λ z. list_all (levels.under bs w.ordered w.once S) (flat_map names_in z)) (sym m.all_columns) ∙ sym (ap (levels.step_by bs w.ordered w.once S) (in-first b bs w.ordered m.in_b)) ∙ h in
      (and_parts (levels.under bs w.ordered w.once S r.id) (list_all (levels.under bs w.ordered w.once S) (flat_map names_in (columns_from r.id 2 k))) all).0))

  follows : Follows bs g.root w hm Stands
  follows = record {
    before = λ y z s. elim s [ inl t ↦ t.0.0 | inr t ↦ subst (λ (n : Node). In n bs) (sym t.0) m.in_b ];
    after = λ y z s. elim s [ inl t ↦ subst (λ (n : Node). In n hm) (sym t.1) (to y t.0.0 t.0.1) | inr t ↦ subst (λ (n : Node). In n hm) (sym t.1) (to c m.in_c c-not-b) ];
    step = λ y z s. elim s [
      | inl t ↦ inl (ap (λ (n : Node). n.parts) t.1, named y t.0.0 t.0.1)
      | inr t ↦ inr (
        c,
        (
          inl ((m.in_c, c-not-b), t.1),
          (
            ap (λ (n : Node). types_at bs n.id) t.0 ∙ types-same,
            λ e h.
                subst (λ (n : Node). (levels.settled bs w.ordered w.once e c.id ≡ true) ⊎ (types_at hm n.id ≡ types_at bs y.id)) (sym t.1) (
                subst (λ (n : Node). (levels.settled bs w.ordered w.once e c.id ≡ true) ⊎ (types_at hm c.id ≡ types_at bs n.id)) (sym t.0) (
                settled-before e (width c) refl (subst (λ (n : Node). levels.settled bs w.ordered w.once (suc e) n.id ≡ true) t.0 h))),
          ),
        ),
      )
    ];
  }

  pub typed-moved : shaped.Typed bs → shaped.Typed hm
  typed-moved t n i =
      let y = from n i in
      subst (λ (z : Node). types_agree hm z ≡ true) y.1.1.1 (agree-follow bs g.root w hm g.root sound Stands follows y.0 (mv y.0) refl (named y.0 y.1.0 y.1.1.0) mr refl (λ q j.
      let x = ranges y.0 y.1.0 y.1.1.0 q j in
      (x.0, (x.1.0, (x.1.1.0.0, (x.1.1.1.0.0, x.1.1.1.1))))) (t y.0 y.1.0))

-- M2, with the boxes that the root no longer reaches
pub drop-typed : (g : QueryGraph) → Sound g.boxes g.root → shaped.Typed g.boxes → (b c : Node) (r : OwnedQuant) → MayDrop g b c r → shaped.Typed (dropped b c g).boxes
drop-typed g w t b c r m =
    subst (λ (z : List Node). shaped.Typed (compact (record g { boxes = map (moved b.id c.id) z })).boxes) (without-one b.id g.boxes w.ordered)
    (typed-compact (map (moved b.id c.id) (boxes_without b.id g.boxes)) g.root (sound g w b c r m) (typed-moved g w b c r m t))
