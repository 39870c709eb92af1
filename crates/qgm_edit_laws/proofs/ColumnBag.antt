-- A column that no box names goes: the root gives the same rows.
use Rattle.std.proofs.Common.{ℕ, zero, suc, ◌==◌, ◌≡◌, ◌-◌, ◌≤◌, ◌<◌, cond, Bool, true, false, List, ◌∷◌, ◌++◌, map, filter, Option, Some, None, refl, sym, ap, subst, ◌∙◌, eqb-true, inl, inr, arith, []}
use Rattle.std.specs.List.{flat_map, list_any}
use Rattle.std.proofs.lemmas.Bool.{cases_Bool, eq-eqb, or_parts}
use Rattle.row_bag.specs.declared.tables.Table.{Table}
use Rattle.qgm_core.specs.Boxes.{QueryGraph, ids_in, ids_of, is_quant}
use Rattle.qgm_core.specs.Edits.{drop_column, shift_node, without_cell}
use Rattle.qgm_core.specs.Kinds.{is_enforce}
use Rattle.list_laws.specs.Lists.{In, first, times}
use Rattle.qgm_core.specs.declared.kinds.BoxKind.{BoxKind}
use Rattle.qgm_core.specs.declared.kinds.BoxKind.TheVariants.{Select}
use Rattle.qgm_core.specs.declared.node.Node.{Node}
use Rattle.qgm_core.specs.declared.owned.OwnedQuant.{OwnedQuant}
use Rattle.qgm_terms.specs.Wanted.{any_in, any_in_cond}
use Rattle.qgm_meaning.specs.Meaning.{Family, bag_in, quant_rows, root_bag, rows_by, rows_found, rows_of}
use Rattle.qgm_meaning.specs.Values.{Environment}
use Rattle.qgm_edit_laws.specs.Changes.{LosesColumn, is_set_op}
use Rattle.qgm_edit_laws.specs.FormedAdds.{of_column, types_asked}
use Rattle.qgm_edit_laws.specs.FormedColumn.{Unasked, keys_of}
use Rattle.qgm_edit_laws.specs.Graph.{Sound}
use Rattle.qgm_edit_laws.proofs.Column as c
use Rattle.qgm_edit_laws.proofs.Column.{place-goes, place-stays, place_each, shift_each}
use Rattle.qgm_edit_laws.proofs.Edits.{map-append}
use Rattle.qgm_edit_laws.proofs.Levels.{some-in}
use Rattle.qgm_edit_laws.proofs.Ranks.{same-box}
use Rattle.qgm_edit_laws.proofs.CutRows.{rows-less}
use Rattle.qgm_edit_laws.proofs.NarrowRows.{narrowed, slim, slim-none}
use Rattle.qgm_edit_laws.proofs.NarrowBoxes.{rows-re}
use Rattle.qgm_edit_laws.proofs.NarrowValues.{Apart, Goes}
use Rattle.qgm_edit_laws.proofs.RenamedColumns.{conds-each, head-each}
use Rattle.list_laws.proofs.Counting.{times-map}
use Rattle.list_laws.proofs.Membership.{in-append}
use Rattle.list_laws.proofs.Booleans.{clash}

-- ---- (as in Column.antt, where these aren't public)

abbrev all_quants : List Node → List OwnedQuant
all_quants bs = flat_map (λ n. n.quants) bs

ids-all : (bs : List Node) → map (λ (r : OwnedQuant). r.id) (all_quants bs) ≡ ids_in bs
ids-all [] = refl
ids-all (n ∷ bs) = map-append (λ (r : OwnedQuant). r.id) n.quants (all_quants bs) ∙ ap (λ z. ids_of n ++ z) (ids-all bs)

few-filtered : (q : ℕ) (p : OwnedQuant → Bool) (rs : List OwnedQuant) → times q (map (λ (r : OwnedQuant). r.id) (filter p rs)) ≤ times q (map (λ (r : OwnedQuant). r.id) rs)
few-filtered q p [] = omega arith
few-filtered q p (r ∷ rs) = let h = few-filtered q p rs in elim (p r) as (λ t. times q (map (λ (r : OwnedQuant). r.id) (cond t (r ∷ filter p rs) (filter p rs))) ≤ times q (map (λ (r : OwnedQuant). r.id) (r ∷ rs))) [ true ↦ (omega arith) | false ↦ (omega arith) ]

filtered-in : (p : OwnedQuant → Bool) (rs : List OwnedQuant) (r : OwnedQuant) → In r (filter p rs) → In r rs × (p r ≡ true)
filtered-in p [] r i = elim i [ ]
filtered-in p (x ∷ rs) r i = elim (cases_Bool (p x)) [
  | inl u ↦ elim (subst (λ (b : Bool). In r (cond b (x ∷ filter p rs) (filter p rs))) u i) [ inl e ↦ (inl e, subst (λ z. p z ≡ true) e u) | inr j ↦ (let y = filtered-in p rs r j in (inr y.0, y.1)) ]
  | inr u ↦ (let y = filtered-in p rs r (subst (λ (b : Bool). In r (cond b (x ∷ filter p rs) (filter p rs))) u i) in (inr y.0, y.1))
]

quants-in : (bs : List Node) (r : OwnedQuant) → In r (all_quants bs) → (n : Node) × (In n bs × In r n.quants)
quants-in [] r i = elim i [ ]
quants-in (n ∷ bs) r i = elim (in-append r n.quants (all_quants bs) i) [ inl a ↦ (n, (inl refl, a)) | inr a ↦ (let x = quants-in bs r a in (x.0, (inr x.1.0, x.1.1))) ]

each-distinct : (k : ℕ) (qs : List ℕ) (n : Node) → (shift_each k qs n).parts.distinct ≡ n.parts.distinct
each-distinct k [] n = refl
each-distinct k (q ∷ qs) n = each-distinct k qs (shift_node k q n)

module _ (bs : List Node) (root : ℕ) (w : Sound bs root) (b : Node) (k : ℕ) (m : LosesColumn bs b k) (un : Unasked bs b.id k) (keys : keys_of b.parts.kind < k) (loose : b.parts.kind ≡ Select → is_enforce b.parts.distinct ≡ false) (tables : List Table) where
  abbrev qs : List ℕ
  qs = c.qs bs root w b k m

  abbrev cut : Node → Node
  cut = c.cut bs root w b k m

  abbrev g : Node → Node
  g = c.g bs root w b k m

  -- q ranges over b
  abbrev over : ℕ → Bool
  over q = times q qs == 1

  abbrev place : ℕ → ℕ → ℕ
  place = place_each k qs

  few : (q : ℕ) → times q qs ≤ 1
  few q =
      let a = few-filtered q (λ r. r.over == b.id) (all_quants bs) in
      let d : times q (map (λ (r : OwnedQuant). r.id) (all_quants bs)) ≡ times q (ids_in bs) = ap (times q) (ids-all bs) in
      let e = w.once q in omega arith

  goes : Goes k over place
  goes = record {
    from_one = m.from_one;
    stays = λ q j f. place-stays k qs q j (none q f);
    goes = λ q j t. place-goes k qs q j (eqb-true (times q qs) 1 t);
  }
    where
      none : (q : ℕ) → (times q qs == 1) ≡ false → times q qs ≡ 0
      none q f = (let n : times q qs ≡ 1 → ⊥ = (λ e. clash (times q qs == 1) (eq-eqb (times q qs) 1 e) f) in less (times q qs) (few q) n)
        where
          less : (x : ℕ) → x ≤ 1 → (x ≡ 1 → ⊥) → x ≡ 0
          less zero l n = refl
          less (suc zero) l n = absurd (n refl)
          less (suc (suc x)) l n = absurd (let z : ⊥ = omega arith in z)

  -- a quantifier of a box is so where its box is b
  over-is : (n : Node) (r : OwnedQuant) → In n bs → In r n.quants → over r.id ≡ (r.over == b.id)
  over-is n r i j = elim (cases_Bool (r.over == b.id)) [
    | inl t ↦ eq-eqb (times r.id qs) 1 (c.over-b bs root w b k m n r i j (eqb-true r.over b.id t)) ∙ sym t
    | inr f ↦ ap (λ z. z == 1) (c.not-over bs root w b k m n r i j f) ∙ sym f
  ]

  -- a box names none of them with the column
  apart : (y : Node) → In y bs → Apart over (λ q. types_asked q k y)
  apart y i q t =
      let e : times q qs ≡ 1 = eqb-true (times q qs) 1 t in
      let x = times-map (λ (r : OwnedQuant). r.id) q (filter (λ r. r.over == b.id) (all_quants bs)) (omega arith) in
      let f = filtered-in (λ r. r.over == b.id) (all_quants bs) x.0 x.1.0 in
      let o = quants-in bs x.0 f.0 in
      subst (λ z. types_asked z k y ≡ false) x.1.1 (un y o.0 x.0 i o.1.0 o.1.1 (eqb-true x.0.over b.id f.1))

  apart-cut : (y : Node) → In y bs → Apart over (λ q. types_asked q k (cut y))
  apart-cut y i q t = elim (cases_Bool (types_asked q k (cut y))) [ inr f ↦ f | inl h ↦ absurd (clash (types_asked q k y) (c.less-read bs root w b k m (any_in (of_column q k)) (any_in_cond (of_column q k)) y h) (apart y i q t)) ]

  -- the rows of a box over those of the boxes behind it
  module _ (f' f : Family) (below : (x : ℕ) (e : Environment) → f' x (narrowed k over e) ≡ slim k (x == b.id) (f x e)) (n : Node) (i : In n bs) where
    abbrev s' : Family
    s' = quant_rows (g n) f'

    abbrev s : Family
    s = quant_rows n f

    same : (q : ℕ) (e : Environment) → s' q (narrowed k over e) ≡ slim k (over q) (s q e)
    same q e = ap (λ (rs : List OwnedQuant). rows_found (first (is_quant q) rs) f' (narrowed k over e)) (c.g-quants bs root w b k m n) ∙ found (first (is_quant q) n.quants) refl
      where
        found : (o : Option OwnedQuant) → first (is_quant q) n.quants ≡ o → rows_found o f' (narrowed k over e) ≡ slim k (over q) (rows_found o f e)
        found None h = sym (slim-none k (over q))
        found (Some r) h =
            let a = some-in (is_quant q) n.quants r h in
            let o : over q ≡ (r.over == b.id) = subst (λ z. over z ≡ (r.over == b.id)) (eqb-true r.id q a.1) (over-is n r i a.0) in
            below r.over e ∙ ap (λ z. slim k z (f r.over e)) (sym o)

    no-arm : (r : OwnedQuant) → In r (cut n).quants → is_set_op n.parts.kind ≡ true → over r.id ≡ false
    no-arm r j t =
        let l : In r n.quants = subst (λ z. In r z) (c.cut-quants bs root w b k m n) j in
        over-is n r i l ∙ (elim (cases_Bool (r.over == b.id)) [ inr z ↦ z | inl z ↦ absurd (clash (is_set_op n.parts.kind) t (m.no_arm n r i l (eqb-true r.over b.id z))) ])

    cut-rows : (e : Environment) → rows_by n.parts.kind tables (cut n) s e ≡ slim k (n.id == b.id) (rows_by n.parts.kind tables n s e)
    cut-rows e = elim (cases_Bool (n.id == b.id)) [
      | inr z ↦ ap (λ t. rows_by n.parts.kind tables (cond t (without_cell (k - 1) n) n) s e) z ∙ ap (λ t. slim k t (rows_by n.parts.kind tables n s e)) (sym z)
      | inl z ↦ (
          let same : n ≡ b = same-box bs n b w.ordered i m.within (eqb-true n.id b.id z) in
          ap (λ t. rows_by n.parts.kind tables (cond t (without_cell (k - 1) n) n) s e) z
          ∙ subst (λ (y : Node). rows_by y.parts.kind tables (without_cell (k - 1) y) s e ≡ slim k true (rows_by y.parts.kind tables y s e)) (sym same)
          (rows-less k b (let a = m.from_one in let d = m.column in omega arith) tables b.parts.kind (w.bare b m.within) (let a = keys in omega arith) loose s e)
          ∙ ap (λ t. slim k t (rows_by n.parts.kind tables n s e)) (sym z))
    ]

    box : (e : Environment) → rows_of tables (g n) f' (narrowed k over e) ≡ slim k (n.id == b.id) (rows_of tables n f e)
    box e =
        ap (λ (kind : BoxKind). rows_by kind tables (g n) s' (narrowed k over e)) (c.g-kind bs root w b k m n)
        ∙ rows-re k over place goes s' s same (cut n) (g n) (c.g-quants bs root w b k m n ∙ sym (c.cut-quants bs root w b k m n)) (each-distinct k qs (cut n)) (head-each k qs (cut n)) (conds-each k qs (cut n))
        (λ q t. (or_parts (list_any (any_in (of_column q k)) (cut n).parts.head) (list_any (any_in_cond (of_column q k)) (cut n).parts.conds.items) (apart-cut n i q t)).0)
        (λ q t. (or_parts (list_any (any_in (of_column q k)) (cut n).parts.head) (list_any (any_in_cond (of_column q k)) (cut n).parts.conds.items) (apart-cut n i q t)).1)
        tables n.parts.kind no-arm e
        ∙ cut-rows e

  claim : (ns : List Node) → ((n : Node) → In n ns → In n bs) → (x : ℕ) (e : Environment) → bag_in tables (map g ns) x (narrowed k over e) ≡ slim k (x == b.id) (bag_in tables ns x e)
  claim [] sub x e = sym (slim-none k (x == b.id))
  claim (n ∷ ns) sub x e = elim (cases_Bool (n.id == x)) [
    | inl t ↦
        ap (λ (z : Bool). cond z (rows_of tables (g n) (bag_in tables (map g ns))) (bag_in tables (map g ns) x) (narrowed k over e)) (ap (λ j. j == x) (c.g-id bs root w b k m n) ∙ t)
        ∙ box (bag_in tables (map g ns)) (bag_in tables ns) (claim ns (λ n i. sub n (inr i))) n (sub n (inl refl)) e
        ∙ ap (λ j. slim k (j == b.id) (rows_of tables n (bag_in tables ns) e)) (eqb-true n.id x t)
        ∙ sym (ap (λ (z : Bool). slim k (x == b.id) (cond z (rows_of tables n (bag_in tables ns)) (bag_in tables ns x) e)) t)
    | inr f ↦
        ap (λ (z : Bool). cond z (rows_of tables (g n) (bag_in tables (map g ns))) (bag_in tables (map g ns) x) (narrowed k over e)) (ap (λ j. j == x) (c.g-id bs root w b k m n) ∙ f)
        ∙ claim ns (λ n i. sub n (inr i)) x e
        ∙ sym (ap (λ (z : Bool). slim k (x == b.id) (cond z (rows_of tables n (bag_in tables ns)) (bag_in tables ns x) e)) f)
  ]

  pub column-bag : (root == b.id) ≡ false → bag_in tables (map g bs) root [] ≡ bag_in tables bs root []
  column-bag n = claim bs (λ n i. i) root [] ∙ ap (λ t. slim k t (bag_in tables bs root [])) n

-- the edit
pub drop-column-bag : (h : QueryGraph) → Sound h.boxes h.root → (b : Node) (k : ℕ) → LosesColumn h.boxes b k → Unasked h.boxes b.id k → keys_of b.parts.kind < k → (b.parts.kind ≡ Select → is_enforce b.parts.distinct ≡ false)
    → (h.root == b.id) ≡ false → (tables : List Table) → root_bag tables (drop_column b.id k h) ≡ root_bag tables h
drop-column-bag h w b k m un keys loose n tables = ap (λ z. bag_in tables z h.root []) (c.column-boxes h.boxes h.root w b k m) ∙ column-bag h.boxes h.root w b k m un keys loose tables n
