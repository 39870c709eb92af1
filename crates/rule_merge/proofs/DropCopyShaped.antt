-- M2 keeps the shapes of boxes.
use Rattle.std.proofs.Common.{ℕ, ◌==◌, ◌≡◌, ◌&&◌, ◌||◌, ◌<◌, arith, cond, nat_lt, not, Bool, true, false, List, [], ◌∷◌, ◌++◌, length, map, Option, Some, refl, sym, ap, ap₂, subst, ◌∙◌, eqb-true, ◌⊎◌, inl, inr}
use Rattle.std.specs.List.{list_all, list_any}
use Rattle.std.proofs.lemmas.Bool.{and_from, and_parts, cases_Bool, eq-eqb, not-true, or_cases, or_left, or_right}
use Rattle.qgm_core.specs.Boxes.{QueryGraph, is_box, is_quant, owns, range_in, width}
use Rattle.qgm_core.specs.Free.{IsFree, Reaches, free_in, itself, named_by, through}
use Rattle.qgm_core.specs.Kinds.{is_A, is_E, is_F, is_F_or_S, is_S, is_enforce, is_magic, is_permit, is_plain, is_preserve}
use Rattle.list_laws.specs.Lists.{In, first, holds}
use Rattle.qgm_core.specs.declared.kinds.BoxKind.{BoxKind}
use Rattle.qgm_core.specs.declared.kinds.BoxKind.TheVariants.{Base, Group, OuterJoin, Select, SetOp}
use Rattle.qgm_core.specs.declared.kinds.QuantKind.{QuantKind}
use Rattle.qgm_core.specs.declared.kinds.QuantKind.TheVariants.{A, E, F, S}
use Rattle.qgm_core.specs.declared.kinds.Role.{Role}
use Rattle.qgm_core.specs.declared.kinds.Role.TheVariants.{Fed, Magic, Plain}
use Rattle.qgm_core.specs.declared.node.Node.{Node}
use Rattle.qgm_core.specs.declared.parts.BoxParts.{BoxParts}
use Rattle.qgm_core.specs.declared.owned.OwnedQuant.{OwnedQuant}
use Rattle.qgm_terms.specs.declared.named.Column.{Column}
use Rattle.qgm_terms.specs.declared.named.QuantNode.{QuantNode}
use Rattle.qgm_terms.specs.declared.named.QuantNode.TheVariants as node
use Rattle.qgm_wellformed.specs.Columns.{box_under, columns_fit, columns_of, fits, over_box, places_fit, within}
use Rattle.qgm_wellformed.specs.Shapes.{arm_fits, columns_placed, columns_through, fed_by, heads_are, is_scalar, is_scalar_in, kind_fits, magic_found, node_fits, nodes_of, only, role_fits, shape_fits, width_found}
use Rattle.qgm_wellformed.specs.Shapes as shapes
use Rattle.qgm_wellformed.proofs.ClosedLaws.{finds-alone}
use Rattle.qgm_meaning.specs.Scope.{read_by}
use Rattle.rule_merge.specs.Dropped.{MayDrop, dropped}
use Rattle.qgm_edit_laws.specs.Ranges.{moved, moved_range}
use Rattle.qgm_edit_laws.specs.Graph.{Sound, nodes_in}
use Rattle.qgm_edit_laws.specs.Shaped.{Shaped}
use Rattle.qgm_edit_laws.proofs.Adds.{read-owned}
use Rattle.qgm_edit_laws.proofs.Edits.{boxes_without, length-map, without-in, without-one}
use Rattle.qgm_core.specs.Edits.{compact}
use Rattle.qgm_edit_laws.proofs.ShapedKept.{shaped-compact}
use Rattle.qgm_edit_laws.specs.Placed.{place}
use Rattle.rule_merge.proofs.DropCopyMeans.{Copies, any-moved, in-m, moved-sound}
use Rattle.qgm_edit_laws.proofs.PlacedLists.{first-in}
use Rattle.qgm_edit_laws.proofs.Ranks.{has-in, place-under, same-box}
use Rattle.qgm_edit_laws.proofs.Read.{column-named, is_at, named-split}
use Rattle.rule_merge.proofs.DropCopyKeeps.{copies}
use Rattle.qgm_edit_laws.proofs.Scope.{in-first, one-owner}
use Rattle.qgm_core.proofs.Reaching.{overs-held}
use Rattle.list_laws.proofs.Membership.{all-from, all-in, any-from, any-in, eq-itself, in-map, map-in}
use Rattle.list_laws.proofs.Booleans.{clash}

-- what is asked of all, where quantifiers range over other boxes
all-moved : (b c : ℕ) (p : OwnedQuant → Bool) (rs : List OwnedQuant) → ((r : OwnedQuant) → p (moved_range b c r) ≡ p r) → list_all p (map (moved_range b c) rs) ≡ list_all p rs
all-moved b c p [] h = refl
all-moved b c p (r ∷ rs) h = ap₂ (λ x y. x && y) (h r) (all-moved b c p rs h)

length-moved : (b c : ℕ) (rs : List OwnedQuant) → length (map (moved_range b c) rs) ≡ length rs
length-moved b c rs = length-map (moved_range b c) rs

all-same : {X : Type 0} (p q : X → Bool) (xs : List X) → ((x : X) → p x ≡ q x) → list_all p xs ≡ list_all q xs
all-same p q [] h = refl
all-same p q (x ∷ xs) h = ap₂ (λ a b. a && b) (h x) (all-same p q xs h)

none-moved : (b c : ℕ) (rs : List OwnedQuant) → shapes.is_none (map (moved_range b c) rs) ≡ shapes.is_none rs
none-moved b c [] = refl
none-moved b c (r ∷ rs) = refl

module _ (g : QueryGraph) (w : Sound g.boxes g.root) (s : Shaped g.boxes g.root) (b c : Node) (r : OwnedQuant) (m : MayDrop g b c r) where
  abbrev bs : List Node
  bs = g.boxes

  abbrev mv : Node → Node
  mv = moved b.id c.id

  abbrev mr : OwnedQuant → OwnedQuant
  mr = moved_range b.id c.id

  abbrev hm : List Node
  hm = map mv (boxes_without b.id bs)

  cp : Copies bs g.root b c r
  cp = copies g w b c r m

  sound : Sound hm g.root
  sound = moved-sound bs g.root w b c r cp

  from : (n : Node) → In n hm → (y : Node) × (In y bs × (((y.id == b.id) ≡ false) × (mv y ≡ n)))
  from n i = in-m bs g.root w b c r cp n i

  to : (y : Node) → In y bs → (y.id == b.id) ≡ false → In (mv y) hm
  to y i n = map-in mv y (boxes_without b.id bs) (without-in b.id y bs i n)

  r-in : In r b.quants
  r-in = subst (λ z. In r z) (sym m.alone) (inl refl)

  only-r : (x : OwnedQuant) → In x b.quants → r ≡ x
  only-r x i = elim (subst (λ z. In x z) m.alone i) [ inl e ↦ e | inr z ↦ elim z [ ] ]

  c-not-b : (c.id == b.id) ≡ false
  c-not-b = elim (cases_Bool (c.id == b.id)) [
    | inr f ↦ f
    | inl t ↦ absurd (
        let less : place bs b.id < place bs r.over = place-under bs b r w.ordered m.in_b r-in in
        let e : place bs r.over ≡ place bs b.id = ap (place bs) (m.over_c ∙ eqb-true c.id b.id t) in omega arith)
  ]

  -- the box that stands for box x
  abbrev now : ℕ → ℕ
  now x = cond (x == b.id) c.id x

  now-b : now b.id ≡ c.id
  now-b = ap (λ t. cond t c.id b.id) (eq-itself b.id)

  now-other : (x : ℕ) → (x == b.id) ≡ false → now x ≡ x
  now-other x n = ap (λ t. cond t c.id x) n

  -- ---- what is reached
  reach-to : (x y : ℕ) → Reaches bs x y → (y == b.id) ≡ false → Reaches hm (now x) y
  reach-to x y (itself z) n = subst (λ k. Reaches hm k x) (sym (now-other x n)) (itself x)
  reach-to x y (through n q z i j k) f = elim (cases_Bool (n.id == b.id)) [
    | inl t ↦ (
        let same : n ≡ b = same-box bs n b w.ordered i m.in_b (eqb-true n.id b.id t) in
        let e : r ≡ q = only-r q (subst (λ (u : Node). In q u.quants) same j) in
        let h = reach-to q.over y k f in
        let o : q.over ≡ c.id = ap (λ (u : OwnedQuant). u.over) (sym e) ∙ m.over_c in
        subst (λ u. Reaches hm u y) (ap now o ∙ now-other c.id c-not-b ∙ sym (ap (λ z. cond z c.id n.id) t)) h)
    | inr u ↦ subst (λ z. Reaches hm z y) (sym (now-other n.id u)) (through (mv n) (mr q) y (to n i u) (map-in mr q n.quants j) (reach-to q.over y k f))
  ]

  reach-from : (x y : ℕ) → Reaches hm x y → Reaches bs x y
  reach-from x y (itself z) = itself x
  reach-from x y (through n q z i j k) =
      let o = from n i in
      let p = in-map mr q o.0.quants (subst (λ (u : Node). In q u.quants) (sym o.1.1.1) j) in
      let h = reach-from q.over y k in
      let id : o.0.id ≡ n.id = ap (λ (u : Node). u.id) o.1.1.1 in
      let over : now p.0.over ≡ q.over = ap (λ (u : OwnedQuant). u.over) p.1.1 in
      subst (λ u. Reaches bs u y) id (through o.0 p.0 y o.1.0 p.1.0 (elim (cases_Bool (p.0.over == b.id)) [
        | inl t ↦ (
            let e : c.id ≡ q.over = sym (ap (λ z. cond z c.id p.0.over) t) ∙ over in
            subst (λ u. Reaches bs u y) (sym (eqb-true p.0.over b.id t)) (through b r y m.in_b r-in (subst (λ u. Reaches bs u y) (sym (m.over_c ∙ e)) h)))
        | inr f ↦ subst (λ u. Reaches bs u y) (sym over ∙ now-other p.0.over f) h
      ]))

  -- what is named after has an owner that was kept
  owned-after : (y : Node) → In y bs → (y.id == b.id) ≡ false → (q : ℕ) → holds q (named_by y) ≡ true → (o : Node) × (In o bs × (((o.id == b.id) ≡ false) × (owns q o ≡ true)))
  owned-after y i n q h =
      let held : list_any (owns q) hm ≡ true = (elim (or_cases (read_by (mv y) q) (nodes_in q (mv y)) (named-split q (mv y) h)) [
        | inl a ↦ read-owned hm g.root sound (mv y) q (to y i n) a
        | inr a ↦ any-from (owns q) (mv y) hm (to y i n) (sound.own_nodes (mv y) (to y i n) q a).0
      ]) in
      let x = any-in (owns q) hm held in
      let o = from x.0 x.1.0 in
      (o.0, (o.1.0, (o.1.1.0, sym (any-moved b.id c.id (is_quant q) o.0.quants (λ r. refl)) ∙ subst (λ (u : Node). owns q u ≡ true) (sym o.1.1.1) x.1.1)))

  -- b names its own alone
  b-names : (q : ℕ) → holds q (named_by b) ≡ true → owns q b ≡ true
  b-names q h = elim (or_cases (read_by b q) (nodes_in q b) (named-split q b h)) [
    | inr a ↦ (w.own_nodes b m.in_b q a).0
    | inl a ↦ elim (cases_Bool (r.id == q)) [ inl t ↦ any-from (is_quant q) r b.quants r-in t | inr f ↦ absurd (clash (read_by b q) a (cp.reads_own q f)) ]
  ]

  free-to : (x q : ℕ) → IsFree bs x q → IsFree hm (now x) q
  free-to x q f =
      let n = f.0.0 in let i = f.0.1.0 in let k = f.0.1.1.0 in let h = f.0.1.1.1 in
      let apart : (n.id == b.id) ≡ false = (elim (cases_Bool (n.id == b.id)) [
        | inr u ↦ u
        | inl t ↦ absurd (let same : n ≡ b = same-box bs n b w.ordered i m.in_b (eqb-true n.id b.id t) in clash (owns q n) (subst (λ (u : Node). owns q u ≡ true) (sym same) (b-names q (subst (λ (u : Node). holds q (named_by u) ≡ true) same h))) (f.1 n i k))
      ]) in (
        (mv n, (to n i apart, (reach-to x n.id k apart, h))),
        λ y j l. (
            let o = from y j in
            let unowned = f.1 o.0 o.1.0 (subst (λ u. Reaches bs x u) (sym (ap (λ (u : Node). u.id) o.1.1.1)) (back x y.id l)) in
            subst (λ (u : Node). owns q u ≡ false) o.1.1.1 (any-moved b.id c.id (is_quant q) o.0.quants (λ r. refl) ∙ unowned)),
      )
    where
      back : (x y : ℕ) → Reaches hm (now x) y → Reaches bs x y
      back x y l = elim (cases_Bool (x == b.id)) [
        | inr u ↦ reach-from x y (subst (λ z. Reaches hm z y) (now-other x u) l)
        | inl t ↦ subst (λ z. Reaches bs z y) (sym (eqb-true x b.id t)) (through b r y m.in_b r-in (subst (λ z. Reaches bs z y) (sym m.over_c) (reach-from c.id y (subst (λ z. Reaches hm z y) (ap (λ z. cond z c.id x) t) l))))
      ]

  free-from : (x q : ℕ) → (x == b.id) ≡ false → IsFree hm x q → IsFree bs x q
  free-from x q u f =
      let o = from f.0.0 f.0.1.0 in
      let id : o.0.id ≡ f.0.0.id = ap (λ (u : Node). u.id) o.1.1.1 in
      let named : holds q (named_by o.0) ≡ true = subst (λ (u : Node). holds q (named_by u) ≡ true) (sym o.1.1.1) f.0.1.1.1 in (
        (o.0, (o.1.0, (subst (λ u. Reaches bs x u) (sym id) (reach-from x f.0.0.id f.0.1.1.0), named))),
        λ y j l. elim (cases_Bool (y.id == b.id)) [
          | inr n ↦ sym (any-moved b.id c.id (is_quant q) y.quants (λ r. refl)) ∙ f.1 (mv y) (to y j n) (subst (λ z. Reaches hm z y.id) (now-other x u) (reach-to x y.id l n))
          | inl t ↦ elim (cases_Bool (owns q y)) [
            | inr n ↦ n
            | inl h ↦ absurd (
                let z = owned-after o.0 o.1.0 o.1.1.0 q named in
                let same : z.0 ≡ y = one-owner bs g.root w q z.0 y z.1.0 j z.1.1.1 h in
                clash (y.id == b.id) t (subst (λ (u : Node). (u.id == b.id) ≡ false) same z.1.1.0))
          ]
        ],
      )

  -- b is open by the same as c
  free-b : (q : ℕ) → IsFree bs c.id q → IsFree bs b.id q
  free-b q f = (
    (f.0.0, (f.0.1.0, (through b r f.0.0.id m.in_b r-in (subst (λ z. Reaches bs z f.0.0.id) (sym m.over_c) f.0.1.1.0), f.0.1.1.1))),
    λ y j l. unowned y j (to-c y l),
  )
    where
      to-c : (y : Node) → Reaches bs b.id y.id → ((y.id == b.id) ≡ true) ⊎ Reaches bs c.id y.id
      to-c y l = elim (cases_Bool (y.id == b.id)) [
        | inl t ↦ inl t
        | inr n ↦ inr (reach-from c.id y.id (subst (λ z. Reaches hm z y.id) now-b (reach-to b.id y.id l n)))
      ]

      unowned : (y : Node) → In y bs → ((y.id == b.id) ≡ true) ⊎ Reaches bs c.id y.id → owns q y ≡ false
      unowned y j e = elim e [
        | inr k ↦ f.1 y j k
        | inl t ↦ elim (cases_Bool (owns q y)) [
          | inr n ↦ n
          | inl h ↦ absurd (
              let k = free-to c.id q f in
              let o = from k.0.0 k.0.1.0 in
              let z = owned-after o.0 o.1.0 o.1.1.0 q (subst (λ (u : Node). holds q (named_by u) ≡ true) (sym o.1.1.1) k.0.1.1.1) in
              let same : z.0 ≡ y = one-owner bs g.root w q z.0 y z.1.0 j z.1.1.1 h in
              clash (y.id == b.id) t (subst (λ (u : Node). (u.id == b.id) ≡ false) same z.1.1.0))
        ]
      ]

  alone-after : (x q : ℕ) → only q (free_in bs x) ≡ true → only q (free_in hm (now x)) ≡ true
  alone-after x q h =
      let a = (finds-alone bs w.ordered x q).0 h in
      (finds-alone hm sound.ordered (now x) q).1 (free-to x q a.0, λ p f. a.1 p (old p f (cases_Bool (x == b.id))))
    where
      old : (p : ℕ) → IsFree hm (now x) p → ((x == b.id) ≡ true) ⊎ ((x == b.id) ≡ false) → IsFree bs x p
      old p f (inr u) = free-from x p u (subst (λ z. IsFree hm z p) (now-other x u) f)
      old p f (inl t) = subst (λ z. IsFree bs z p) (sym (eqb-true x b.id t)) (free-b p (free-from c.id p c-not-b (subst (λ z. IsFree hm z p) (ap (λ z. cond z c.id x) t) f)))

  -- ---- the box under a quantifier
  under : (y : Node) → In y bs → (q : OwnedQuant) → In q y.quants
      → (u : Node) × ((v : Node) × ((first (is_box q.over) bs ≡ Some u) × ((first (is_box (mr q).over) hm ≡ Some v) × ((width v ≡ width u) × ((u ≡ b) ⊎ (v.parts ≡ u.parts))))))
  under y i q j =
      let x = has-in q.over bs (overs-held bs y q w.ordered i j) in
      let at : first (is_box q.over) bs ≡ Some x.0 = ap (λ z. first (is_box z) bs) (sym x.1.1) ∙ in-first x.0 bs w.ordered x.1.0 in
      elim (cases_Bool (q.over == b.id)) [
        | inl t ↦ (
            let same : x.0 ≡ b = same-box bs x.0 b w.ordered x.1.0 m.in_b (x.1.1 ∙ eqb-true q.over b.id t) in
            (b, (mv c, (at ∙ ap (λ (z : Node). Some z) same, (ap (λ z. first (is_box (cond z c.id q.over)) hm) t ∙ in-first (mv c) hm sound.ordered (to c m.in_c c-not-b), (sym cp.widths, inl refl))))))
        | inr f ↦ (x.0, (mv x.0, (at, (ap (λ z. first (is_box (cond z c.id q.over)) hm) f ∙ ap (λ z. first (is_box z) hm) (sym x.1.1) ∙ in-first (mv x.0) hm sound.ordered (to x.0 x.1.0 (subst (λ z. (z == b.id) ≡ false) (sym x.1.1) f)), (refl, inr refl)))))
      ]

  widths-same : (y : Node) (i : In y bs) (q : OwnedQuant) (j : In q y.quants) → width_found (first (is_box (mr q).over) hm) ≡ width_found (first (is_box q.over) bs)
  widths-same y i q j = let x = under y i q j in ap width_found x.1.1.1.0 ∙ x.1.1.1.1.0 ∙ sym (ap width_found x.1.1.0)

  -- I4
  found-moved : (q : ℕ) (rs : List OwnedQuant) (x : OwnedQuant) → first (is_quant q) rs ≡ Some x → (first (is_quant q) (map mr rs) ≡ Some (mr x)) × In x rs
  found-moved q [] x e = absurd (let z : ⊥ = cc in z)
  found-moved q (y ∷ rs) x e = elim (y.id == q) as (λ t. ◌≡◌ {A = Option OwnedQuant} (cond t (Some y) (first (is_quant q) rs)) (Some x) → (◌≡◌ {A = Option OwnedQuant} (cond t (Some (mr y)) (first (is_quant q) (map mr rs))) (Some (mr x))) × In x (y ∷ rs)) [
    | true ↦ λ e. (let h : y ≡ x = cc in (ap (λ (z : OwnedQuant). Some (mr z)) h, inl h))
    | false ↦ λ e. (let h = found-moved q rs x e in (h.0, inr h.1))
  ] e

  columns-after : (y : Node) → In y bs → (y.id == b.id) ≡ false → columns_fit hm (mv y) ≡ true
  columns-after y i n =
      let f = and_parts (places_fit y.parts.kind) (list_all (λ (d : Column). fits d.place (box_under bs d.quant)) (columns_of y)) (s.columns y i) in
      and_from (places_fit y.parts.kind) (list_all (λ (d : Column). fits d.place (box_under hm d.quant)) (columns_of y)) f.0 (all-from (λ (d : Column). fits d.place (box_under hm d.quant)) (columns_of y) (λ d j. one d
      (column-named d.quant d.place y (any-from (is_at d.quant d.place) d (columns_of y) j (and_from (d.quant == d.quant) (d.place == d.place) (eq-itself d.quant) (eq-itself d.place))))
      (all-in (λ (d : Column). fits d.place (box_under bs d.quant)) d (columns_of y) f.1 j)))
    where
      one : (d : Column) → holds d.quant (named_by y) ≡ true → fits d.place (box_under bs d.quant) ≡ true → fits d.place (box_under hm d.quant) ≡ true
      one d h t =
          let o = owned-after y i n d.quant h in
          let x = first-in (is_quant d.quant) o.0.quants o.1.1.1 in
          let a = first-in (owns d.quant) bs (any-from (owns d.quant) o.0 bs o.1.0 o.1.1.1) in
          let same : a.0 ≡ o.0 = one-owner bs g.root w d.quant a.0 o.0 a.1.1.0 o.1.0 a.1.1.1 o.1.1.1 in
          let mine : owns d.quant (mv o.0) ≡ true = any-moved b.id c.id (is_quant d.quant) o.0.quants (λ r. refl) ∙ o.1.1.1 in
          let e = first-in (owns d.quant) hm (any-from (owns d.quant) (mv o.0) hm (to o.0 o.1.0 o.1.1.0) mine) in
          let same2 : e.0 ≡ mv o.0 = one-owner hm g.root sound d.quant e.0 (mv o.0) e.1.1.0 (to o.0 o.1.0 o.1.1.0) e.1.1.1 mine in
          let fm = found-moved d.quant o.0.quants x.0 x.1.0 in
          let u = under o.0 o.1.0 x.0 fm.1 in
          let before : box_under bs d.quant ≡ Some u.0 = ap (λ z. over_box bs (range_in d.quant z)) (a.1.0 ∙ ap (λ (z : Node). Some z) same) ∙ ap (over_box bs) x.1.0 ∙ u.1.1.0 in
          let after : box_under hm d.quant ≡ Some u.1.0 = ap (λ z. over_box hm (range_in d.quant z)) (e.1.0 ∙ ap (λ (z : Node). Some z) same2) ∙ ap (over_box hm) fm.0 ∙ u.1.1.1.0 in
          ap (fits d.place) after ∙ ap (λ z. within z d.place) u.1.1.1.1.0 ∙ sym (ap (fits d.place) before) ∙ t

  -- I8
  unseen-after : (y : Node) → In y bs → (y.id == b.id) ≡ false → is_permit y.parts.distinct ≡ true → (y.id ≡ g.root → ⊥) × ((n : Node) (q : OwnedQuant) → In n hm → In q n.quants → q.over ≡ y.id → is_F_or_S q.kind ≡ false)
  unseen-after y i u p = (
    (s.unseen y i p).0,
    λ n q j k e. (
        let o = from n j in
        let x = in-map mr q o.0.quants (subst (λ (z : Node). In q z.quants) (sym o.1.1.1) k) in
        let over : now x.0.over ≡ y.id = ap (λ (z : OwnedQuant). z.over) x.1.1 ∙ e in
        subst (λ (z : OwnedQuant). is_F_or_S z.kind ≡ false) x.1.1 (elim (cases_Bool (x.0.over == b.id)) [
          | inr f ↦ (s.unseen y i p).1 o.0 x.0 o.1.0 x.1.0 (sym (now-other x.0.over f) ∙ over)
          | inl t ↦ absurd (
              let same : c.id ≡ y.id = sym (ap (λ z. cond z c.id x.0.over) t) ∙ over in
              let z = (s.unseen y i p).1 b r m.in_b r-in (m.over_c ∙ same) in
              clash (is_F_or_S r.kind) (rows-count r.kind m.is_f) z)
        ])),
  )
    where
      rows-count : (k : QuantKind) → is_F k ≡ true → is_F_or_S k ≡ true
      rows-count F h = refl
      rows-count E h = absurd (let z : ⊥ = cc in z)
      rows-count A h = absurd (let z : ⊥ = cc in z)
      rows-count S h = absurd (let z : ⊥ = cc in z)

  -- I9
  parts-b : kind_fits g.root bs b Select ≡ true
  parts-b =
      let h = s.shapes b m.in_b in
      let a = and_parts ((kind_fits g.root bs b b.parts.kind && list_all (node_fits b.quants) (nodes_of b)) && columns_placed b) (not (is_scalar bs b.id) || nat_lt 0 (width b)) h in
      let d = and_parts (kind_fits g.root bs b b.parts.kind && list_all (node_fits b.quants) (nodes_of b)) (columns_placed b) a.0 in
      subst (λ k. kind_fits g.root bs b k ≡ true) m.a_select (and_parts (kind_fits g.root bs b b.parts.kind) (list_all (node_fits b.quants) (nodes_of b)) d.0).0

  b-not-magic : is_magic b.parts.role ≡ false
  b-not-magic = by b.parts.role (and_parts (shapes.is_unfolded b) (role_fits g.root bs b b.parts.role) parts-b).1
    where
      by : (k : Role) → role_fits g.root bs b k ≡ true → is_magic k ≡ false
      by Plain h = refl
      by Magic h = absurd (clash (is_enforce b.parts.distinct) (and_parts (is_enforce b.parts.distinct) (shapes.all_F b.quants) h).0 m.not_enforced)
      by Fed h = refl

  fed-after : (y : Node) (i : In y bs) (rs : List OwnedQuant) → ((q : OwnedQuant) → In q rs → In q y.quants) → fed_by bs y.parts.head rs ≡ true → fed_by hm y.parts.head (map mr rs) ≡ true
  fed-after y i [] sub h = h
  fed-after y i (a ∷ []) sub h = h
  fed-after y i (a ∷ (d ∷ [])) sub h =
      let p1 = and_parts (is_F a.kind && is_F d.kind && magic_found (first (is_box a.over) bs) && only a.id (free_in bs d.over)) (heads_are y.parts.head (columns_through bs a ++ columns_through bs d)) h in
      let p2 = and_parts (is_F a.kind && is_F d.kind && magic_found (first (is_box a.over) bs)) (only a.id (free_in bs d.over)) p1.0 in
      let p3 = and_parts (is_F a.kind && is_F d.kind) (magic_found (first (is_box a.over) bs)) p2.0 in
      let u = under y i a (sub a (inl refl)) in
      let magic : magic_found (first (is_box (mr a).over) hm) ≡ true = (elim u.1.1.1.1.1 [
        | inl e ↦ absurd (clash (is_magic b.parts.role) (subst (λ (z : Node). is_magic z.parts.role ≡ true) e (sym (ap magic_found u.1.1.0) ∙ p3.1)) b-not-magic)
        | inr e ↦ ap magic_found u.1.1.1.0 ∙ ap (λ (p : BoxParts). is_magic p.role) e ∙ sym (ap magic_found u.1.1.0) ∙ p3.1
      ]) in
      and_from (is_F a.kind && is_F d.kind && magic_found (first (is_box (mr a).over) hm) && only a.id (free_in hm (mr d).over)) (heads_are y.parts.head (columns_through hm (mr a) ++ columns_through hm (mr d)))
      (and_from (is_F a.kind && is_F d.kind && magic_found (first (is_box (mr a).over) hm)) (only a.id (free_in hm (mr d).over)) (and_from (is_F a.kind && is_F d.kind) (magic_found (first (is_box (mr a).over) hm)) p3.0 magic) (alone-after d.over a.id p2.1))
      (ap₂ (λ u v. heads_are y.parts.head (shapes.columns_from a.id 1 u ++ shapes.columns_from d.id 1 v)) (widths-same y i a (sub a (inl refl))) (widths-same y i d (sub d (inr (inl refl)))) ∙ p1.1)
  fed-after y i (a ∷ (d ∷ (e ∷ rs))) sub h = h

  role-after : (y : Node) → In y bs → (k : Role) → role_fits g.root bs y k ≡ true → role_fits g.root hm (mv y) k ≡ true
  role-after y i Plain h = refl
  role-after y i Magic h = ap (λ z. is_enforce y.parts.distinct && z) (all-moved b.id c.id (λ q. is_F q.kind) y.quants (λ q. refl)) ∙ h
  role-after y i Fed h =
      let a = and_parts (not (y.id == g.root) && is_preserve y.parts.distinct && shapes.is_none y.parts.conds.items) (fed_by bs y.parts.head y.quants) h in
      and_from (not (y.id == g.root) && is_preserve y.parts.distinct && shapes.is_none y.parts.conds.items) (fed_by hm y.parts.head (map mr y.quants)) a.0 (fed-after y i y.quants (λ q j. j) a.1)

  are-F : (k : ℕ) (rs : List OwnedQuant) → shapes.are_F k (map mr rs) ≡ shapes.are_F k rs
  are-F k rs = ap₂ (λ (l : ℕ) (z : Bool). (l == k) && z) (length-moved b.id c.id rs) (all-moved b.id c.id (λ q. is_F q.kind) rs (λ q. refl))

  head-own : (y : Node) → shapes.head_is_own (mv y) ≡ shapes.head_is_own y
  head-own y = all-same (λ q. owns q (mv y)) (λ q. owns q y) _ (λ q. any-moved b.id c.id (is_quant q) y.quants (λ r. refl))

  arms-after : (y : Node) (i : In y bs) (v : ℕ) (rs : List OwnedQuant) → ((q : OwnedQuant) → In q rs → In q y.quants) → list_all (arm_fits hm v) (map mr rs) ≡ list_all (arm_fits bs v) rs
  arms-after y i v [] sub = refl
  arms-after y i v (q ∷ rs) sub = ap₂ (λ (k : ℕ) (z : Bool). (k == v) && z) (widths-same y i q (sub q (inl refl))) (arms-after y i v rs (λ x j. sub x (inr j)))

  kind-after : (y : Node) → In y bs → (k : BoxKind) → kind_fits g.root bs y k ≡ true → kind_fits g.root hm (mv y) k ≡ true
  kind-after y i (Base t) h = ap (λ z. z && shapes.is_none y.parts.conds.items && shapes.is_none y.parts.head && is_plain y.parts.role) (none-moved b.id c.id y.quants) ∙ h
  kind-after y i Select h = let x = and_parts (shapes.is_unfolded y) (role_fits g.root bs y y.parts.role) h in and_from (shapes.is_unfolded y) (role_fits g.root hm (mv y) y.parts.role) x.0 (role-after y i y.parts.role x.1)
  kind-after y i (Group k) h = ap₂ (λ u v. u && shapes.is_none y.parts.conds.items && is_plain y.parts.role && shapes.head_folds k y.parts.head && v) (are-F 1 y.quants) (head-own y) ∙ h
  kind-after y i (SetOp form types) h = ap₂ (λ u v. u && v && nat_lt 0 (width y) && shapes.is_none y.parts.conds.items && shapes.is_none y.parts.head && is_plain y.parts.role) (are-F 2 y.quants) (arms-after y i (width y) y.quants (λ q j. j)) ∙ h
  kind-after y i OuterJoin h = ap₂ (λ u v. u && list_all shapes.is_column y.parts.head && v && shapes.is_unfolded y && is_plain y.parts.role) (are-F 2 y.quants) (head-own y) ∙ h

  node-same : (y : Node) (x : QuantNode) → node_fits (map mr y.quants) x ≡ node_fits y.quants x
  node-same y (node.Scalar q) = any-moved b.id c.id (λ r. is_quant q r && is_S r.kind) y.quants (λ r. refl)
  node-same y (node.Some q) = any-moved b.id c.id (λ r. is_quant q r && is_E r.kind) y.quants (λ r. refl)
  node-same y (node.Every q) = any-moved b.id c.id (λ r. is_quant q r && is_A r.kind) y.quants (λ r. refl)

  -- a scalar is of a box that has a column
  scalar-after : (y : Node) → In y bs → is_scalar hm y.id ≡ true → nat_lt 0 (width y) ≡ true
  scalar-after y i h =
      let x = any-in (λ (n : Node). is_scalar_in n.quants y.id) hm h in
      let o = from x.0 x.1.0 in
      let q = any-in (λ (z : OwnedQuant). (z.over == y.id) && is_S z.kind) (map mr o.0.quants) (subst (λ (n : Node). is_scalar_in n.quants y.id ≡ true) (sym o.1.1.1) x.1.1) in
      let p = in-map mr q.0 o.0.quants q.1.0 in
      let t = and_parts (q.0.over == y.id) (is_S q.0.kind) q.1.1 in
      let kind : is_S p.0.kind ≡ true = subst (λ (z : OwnedQuant). is_S z.kind ≡ true) (sym p.1.1) t.1 in
      let over : now p.0.over ≡ y.id = ap (λ (z : OwnedQuant). z.over) p.1.1 ∙ eqb-true q.0.over y.id t.0 in
      elim (cases_Bool (p.0.over == b.id)) [
        | inr f ↦ columns y i (any-from (λ (n : Node). is_scalar_in n.quants y.id) o.0 bs o.1.0 (any-from (λ (z : OwnedQuant). (z.over == y.id) && is_S z.kind) p.0 o.0.quants p.1.0 (and_from (p.0.over == y.id) (is_S p.0.kind) (eq-eqb p.0.over y.id (sym (now-other p.0.over f) ∙ over)) kind)))
        | inl u ↦ (
            let same : y ≡ c = same-box bs y c w.ordered i m.in_c (sym over ∙ ap (λ z. cond z c.id p.0.over) u) in
            subst (λ (z : Node). nat_lt 0 (width z) ≡ true) (sym same) (ap (nat_lt 0) (sym cp.widths)
            ∙ columns b m.in_b (any-from (λ (n : Node). is_scalar_in n.quants b.id) o.0 bs o.1.0 (any-from (λ (z : OwnedQuant). (z.over == b.id) && is_S z.kind) p.0 o.0.quants p.1.0 (and_from (p.0.over == b.id) (is_S p.0.kind) u kind)))))
      ]
    where
      columns : (n : Node) → In n bs → is_scalar bs n.id ≡ true → nat_lt 0 (width n) ≡ true
      columns n j t =
          let a = and_parts ((kind_fits g.root bs n n.parts.kind && list_all (node_fits n.quants) (nodes_of n)) && columns_placed n) (not (is_scalar bs n.id) || nat_lt 0 (width n)) (s.shapes n j) in
          elim (or_cases (not (is_scalar bs n.id)) (nat_lt 0 (width n)) a.1) [ inl f ↦ absurd (clash (is_scalar bs n.id) t (not-true (is_scalar bs n.id) f)) | inr z ↦ z ]

  shape-after : (y : Node) → In y bs → (y.id == b.id) ≡ false → shape_fits g.root hm (mv y) ≡ true
  shape-after y i n =
      let a = and_parts ((kind_fits g.root bs y y.parts.kind && list_all (node_fits y.quants) (nodes_of y)) && columns_placed y) (not (is_scalar bs y.id) || nat_lt 0 (width y)) (s.shapes y i) in
      let d = and_parts (kind_fits g.root bs y y.parts.kind && list_all (node_fits y.quants) (nodes_of y)) (columns_placed y) a.0 in
      let e = and_parts (kind_fits g.root bs y y.parts.kind) (list_all (node_fits y.quants) (nodes_of y)) d.0 in
      and_from ((kind_fits g.root hm (mv y) y.parts.kind && list_all (node_fits (map mr y.quants)) (nodes_of y)) && columns_placed (mv y)) (not (is_scalar hm y.id) || nat_lt 0 (width y))
      (and_from (kind_fits g.root hm (mv y) y.parts.kind && list_all (node_fits (map mr y.quants)) (nodes_of y)) (columns_placed (mv y))
      (and_from (kind_fits g.root hm (mv y) y.parts.kind) (list_all (node_fits (map mr y.quants)) (nodes_of y)) (kind-after y i y.parts.kind e.0) (all-same (node_fits (map mr y.quants)) (node_fits y.quants) (nodes_of y) (node-same y) ∙ e.1))
      (all-moved b.id c.id (λ q. is_F q.kind || not (shapes.looks_up q.id y)) y.quants (λ q. refl) ∙ d.1))
      (elim (cases_Bool (is_scalar hm y.id)) [
        | inr f ↦ or_left (not (is_scalar hm y.id)) (nat_lt 0 (width y)) (ap not f)
        | inl t ↦ or_right (not (is_scalar hm y.id)) (nat_lt 0 (width y)) (scalar-after y i t)
      ])

  pub shaped-moved : Shaped hm g.root
  shaped-moved = record {
    columns = λ n i. (let y = from n i in subst (λ z. columns_fit hm z ≡ true) y.1.1.1 (columns-after y.0 y.1.0 y.1.1.0));
    unseen = λ n i p. (
        let y = from n i in
        let h = unseen-after y.0 y.1.0 y.1.1.0 (subst (λ (z : Node). is_permit z.parts.distinct ≡ true) (sym y.1.1.1) p) in
        let id : y.0.id ≡ n.id = ap (λ (z : Node). z.id) y.1.1.1 in
        (λ e. h.0 (id ∙ e), λ o q j k e. h.1 o q j k (e ∙ sym id)));
    shapes = λ n i. (let y = from n i in subst (λ z. shape_fits g.root hm z ≡ true) y.1.1.1 (shape-after y.0 y.1.0 y.1.1.0));
  }

-- M2, with the boxes that the root no longer reaches
pub drop-shaped : (g : QueryGraph) → Sound g.boxes g.root → Shaped g.boxes g.root → (b c : Node) (r : OwnedQuant) → MayDrop g b c r → Shaped (dropped b c g).boxes g.root
drop-shaped g w s b c r m =
    subst (λ (z : List Node). Shaped (compact (record g { boxes = map (moved b.id c.id) z })).boxes g.root) (without-one b.id g.boxes w.ordered)
    (shaped-compact (map (moved b.id c.id) (boxes_without b.id g.boxes)) g.root (sound g w s b c r m) (shaped-moved g w s b c r m))
