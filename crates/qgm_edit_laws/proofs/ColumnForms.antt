-- The check finds nothing more where a column that no box names goes.
use Rattle.std.proofs.Common.{ℕ, ◌==◌, ◌≡◌, ◌||◌, ◌+◌, ◌-◌, ◌≤◌, ◌<◌, nat_lt, cond, Bool, true, false, List, [], ◌∷◌, ◌++◌, map, Some, refl, sym, ap, ap₂, subst, ◌∙◌, eqb-true, inl, inr, arith}
use Rattle.std.specs.Prelude.{nat_le}
use Rattle.std.specs.List.{flat_map, list_all, list_any, remove}
use Rattle.std.proofs.lemmas.Bool.{and_from, and_parts, cases_Bool, eq-eqb, le-leb, leb-true, lt-ltb, ltb-false, ltb-true, or_cases, or_from, or_left}
use Rattle.qgm_core.specs.Boxes.{is_box, width}
use Rattle.qgm_core.specs.Edits.{drop_column, shift_node, without_cell}
use Rattle.qgm_core.specs.Kinds.{is_fed, is_magic, is_permit}
use Rattle.list_laws.specs.Lists.{In, first, times}
use Rattle.qgm_core.specs.declared.node.Node.{Node}
use Rattle.qgm_core.specs.declared.owned.OwnedQuant.{OwnedQuant}
use Rattle.qgm_terms.specs.Named.{columns_in, columns_in_cond}
use Rattle.qgm_terms.specs.Wanted.{reads}
use Rattle.qgm_terms.specs.declared.named.Column.{Column}
use Rattle.qgm_wellformed.specs.Columns.{box_under, columns_fit, columns_of, fits, places_fit, within}
use Rattle.qgm_wellformed.specs.Shapes.{columns_through, is_scalar_in, magic_found, shape_fits, width_found}
use Rattle.qgm_meaning.specs.Scope.{loose}
use Rattle.qgm_edit_laws.specs.Changes.{LosesColumn, is_set_op}
use Rattle.qgm_edit_laws.specs.FormedAdds.{types_asked}
use Rattle.qgm_edit_laws.specs.FormedColumn.{DropColumnWellFormed, Unasked}
use Rattle.qgm_edit_laws.specs.Graph.{Sound}
use Rattle.qgm_edit_laws.specs.FedOpen.{FedOpen}
use Rattle.qgm_edit_laws.specs.Reforms.{FedAlone}
use Rattle.qgm_edit_laws.specs.Scoped.{Scoped}
use Rattle.qgm_edit_laws.specs.Shaped.{Shaped}
use Rattle.qgm_edit_laws.proofs.BoxForms.{alone-by}
use Rattle.qgm_edit_laws.proofs.Column as c
use Rattle.qgm_edit_laws.proofs.Column.{shift_each}
use Rattle.qgm_edit_laws.proofs.ColumnCut.{cut-fits}
use Rattle.qgm_edit_laws.proofs.ColumnNames.{at-asked, each-column}
use Rattle.qgm_edit_laws.proofs.ColumnShapes.{each-shape, fed-two, heads-at, two-at}
use Rattle.qgm_edit_laws.proofs.ColumnTypes.{drop-column-typed, not-asked, under}
use Rattle.qgm_edit_laws.proofs.Formed.{sound-checked}
use Rattle.qgm_edit_laws.proofs.FreeLoose.{alone-from, open-looks}
use Rattle.qgm_edit_laws.proofs.Naming.{any-remove}
use Rattle.qgm_edit_laws.proofs.Ranks.{has-in, same-box}
use Rattle.qgm_edit_laws.proofs.Read.{any-both, at_all, at_cond, column-named, columns-found, is_at}
use Rattle.qgm_edit_laws.proofs.Scope.{in-first}
use Rattle.qgm_edit_laws.proofs.Scoped.{bounded}
use Rattle.qgm_edit_laws.proofs.ShapedPut.{columns-none, columns-unread, of_quant}
use Rattle.qgm_edit_laws.proofs.ShapeParts.{counts, fed-parts, shape-moved, shape-parts, two-parts}
use Rattle.qgm_edit_laws.proofs.WellFormedKept.{numbers-once}
use Rattle.qgm_core.proofs.Reaching.{overs-held}
use Rattle.list_laws.proofs.Membership.{all-from, all-in, any-from, any-in, eq-itself, in-map, map-in}
use Rattle.list_laws.proofs.Booleans.{clash}

-- a place among v columns, without column k
within-less : (u v k j : ℕ) → u + 1 ≡ v → 1 ≤ k → k ≤ v → (j == k) ≡ false → within v j ≡ true → within u (cond (nat_lt k j) (j - 1) j) ≡ true
within-less u v k j e one last ne h =
    let a = and_parts (nat_lt 0 j) (nat_le j v) h in
    let low = ltb-true 0 j a.0 in
    let high = leb-true j v a.1 in
    elim (cases_Bool (nat_lt k j)) [
      | inl l ↦ (
          let less = ltb-true k j l in
          ap (λ (t : Bool). within u (cond t (j - 1) j)) l ∙ and_from (nat_lt 0 (j - 1)) (nat_le (j - 1) u) (lt-ltb 0 (j - 1) (omega arith)) (le-leb (j - 1) u (omega arith)))
      | inr l ↦ (
          let less = ltb-false k j l in
          let other : j ≡ k → ⊥ = (λ t. clash (j == k) (eq-eqb j k t) ne) in
          ap (λ (t : Bool). within u (cond t (j - 1) j)) l ∙ and_from (nat_lt 0 j) (nat_le j u) a.0 (le-leb j u (let d = strict j k other less in omega arith)))
    ]
  where
    strict : (i k : ℕ) → (i ≡ k → ⊥) → i ≤ k → i < k
    strict i k n l = elim (cases_Bool (nat_lt i k)) [ inl t ↦ ltb-true i k t | inr f ↦ (let a = ltb-false i k f in absurd (n (omega arith))) ]

counted : (q : ℕ) (xs : List ℕ) → In q xs → 1 ≤ times q xs
counted q [] i = elim i [ ]
counted q (x ∷ xs) i = elim i [
  | inl e ↦ (let t : (x == q) ≡ true = eq-eqb x q e in let a : ◌≡◌ {A = ℕ} (cond (x == q) 1 0) 1 = ap (λ (b : Bool). cond {A = ℕ} b 1 0) t in omega arith)
  | inr j ↦ (let h = counted q xs j in omega arith)
]

-- what a box keeps where its head and its conditions change
each-part : {X : Type 0} (P : Node → X) (k : ℕ) → ((p : ℕ) (n : Node) → P (shift_node k p n) ≡ P n) → (qs : List ℕ) (n : Node) → P (shift_each k qs n) ≡ P n
each-part P k e [] n = refl
each-part P k e (q ∷ qs) n = each-part P k e qs (shift_node k q n) ∙ e q n

any-mapped : {X : Type 0} (p : X → Bool) (h : X → X) → ((x : X) → p (h x) ≡ p x) → (xs : List X) → list_any p (map h xs) ≡ list_any p xs
any-mapped p h e [] = refl
any-mapped p h e (x ∷ xs) = ap₂ (λ a b. a || b) (e x) (any-mapped p h e xs)

module _ (bs : List Node) (root : ℕ) (w : Sound bs root) (sh : Shaped bs root) (b : Node) (k : ℕ) (m : LosesColumn bs b k) (un : Unasked bs b.id k) where
  abbrev qs : List ℕ
  qs = c.qs bs root w b k m

  abbrev cut : Node → Node
  cut = c.cut bs root w b k m

  abbrev g : Node → Node
  g = c.g bs root w b k m

  abbrev hs : List Node
  hs = map g bs

  v : Sound hs root
  v = c.column-sound bs root w b k m

  g-quants : (y : Node) → (g y).quants ≡ y.quants
  g-quants = c.g-quants bs root w b k m

  g-id : (y : Node) → (g y).id ≡ y.id
  g-id = c.g-id bs root w b k m

  cut-part : {X : Type 0} (P : Node → X) → ((n : Node) → P (without_cell (k - 1) n) ≡ P n) → (y : Node) → P (cut y) ≡ P y
  cut-part P e y = elim (y.id == b.id) as (λ t. P (cond t (without_cell (k - 1) y) y) ≡ P y) [ true ↦ e y | false ↦ refl ]

  g-role : (y : Node) → (g y).parts.role ≡ y.parts.role
  g-role y = each-part (λ n. n.parts.role) k (λ p n. refl) qs (cut y) ∙ cut-part (λ n. n.parts.role) (λ n. refl) y

  g-distinct : (y : Node) → (g y).parts.distinct ≡ y.parts.distinct
  g-distinct y = each-part (λ n. n.parts.distinct) k (λ p n. refl) qs (cut y) ∙ cut-part (λ n. n.parts.distinct) (λ n. refl) y

  -- ---- I4

  columns-after : (y : Node) → In y bs → columns_fit hs (g y) ≡ true
  columns-after y i =
      let a = and_parts (places_fit y.parts.kind) (list_all (λ (d : Column). fits d.place (box_under bs d.quant)) (columns_of y)) (sh.columns y i) in
      and_from (places_fit (g y).parts.kind) (list_all (λ (d : Column). fits d.place (box_under hs d.quant)) (columns_of (g y))) (ap places_fit (c.g-kind bs root w b k m y) ∙ a.0)
      (all-from (λ (d : Column). fits d.place (box_under hs d.quant)) (columns_of (g y)) (λ d j. (
      let x = each-column k qs (cut y) d j in
      let q = x.0.quant in
      let l = x.0.place in
      let at : list_any (is_at q l) (columns_of y) ≡ true = columns-found q l y
      ∙ c.less-read bs root w b k m (at_all q l) (at_cond q l) y (sym (columns-found q l (cut y)) ∙ any-from (is_at q l) x.0 (columns_of (cut y)) x.1.0 (and_from (q == q) (l == l) (eq-itself q) (eq-itself l))) in
      let u = under bs root w b k m y i q (column-named q l y at) in
      let old : within (width u.box) l ≡ true = ap (fits l) (sym u.before) ∙ old-fits y a.1 q l at in
      ap (λ z. fits d.place (box_under hs z)) (sym x.1.1.0) ∙ ap (fits d.place) u.after ∙ ap (within (width (g u.box))) (sym x.1.1.1)
      ∙ (elim u.goes [
        | inl s ↦ ap₂ within (c.width-other bs root w b k m u.box s.0) (s.1 l) ∙ old
        | inr s ↦ (
            let ne : (l == k) ≡ false = (elim (cases_Bool (l == k)) [
              | inr f ↦ f
              | inl t ↦ absurd (clash (types_asked q k y) (subst (λ z. types_asked q z y ≡ true) (eqb-true l k t) (at-asked q l y at)) (not-asked bs root w b k m un y i q u s.0))
            ]) in
            ap₂ within (ap (λ z. width (g z)) s.0) (s.1 l)
            ∙ within-less (width (g b)) (width b) k l (c.width-b bs root w b k m) m.from_one (let e = m.wide in let f = m.column in omega arith) ne (ap (λ z. within (width z) l) (sym s.0) ∙ old))
      ]))))
    where
      old-fits : (y : Node) → list_all (λ (d : Column). fits d.place (box_under bs d.quant)) (columns_of y) ≡ true → (q l : ℕ) → list_any (is_at q l) (columns_of y) ≡ true → fits l (box_under bs q) ≡ true
      old-fits y h q l t =
          let x = any-in (is_at q l) (columns_of y) t in
          let e = and_parts (x.0.quant == q) (x.0.place == l) x.1.1 in
          ap₂ (λ i j. fits j (box_under bs i)) (sym (eqb-true x.0.quant q e.0)) (sym (eqb-true x.0.place l e.1)) ∙ all-in (λ (d : Column). fits d.place (box_under bs d.quant)) x.0 (columns_of y) h x.1.0

  -- ---- fed boxes name all columns of what they range over, so none ranges over b

  fed-apart : (y : Node) → In y bs → is_fed y.parts.role ≡ true → (x : OwnedQuant) → In x y.quants → x.over ≡ b.id → ⊥
  fed-apart y i f x j e =
      let p = fed-parts root bs y f (shape-parts root bs y (sh.shapes y i)).kind in
      let t = fed-two bs y.parts.head y.quants p.fed in
      let a = t.0 in
      let d = t.1.0 in
      let two = two-parts bs y.parts.head a d t.1.1.1 in
      let found : first (is_box x.over) bs ≡ Some b = subst (λ z. first (is_box z) bs ≡ Some b) (sym e) (in-first b bs w.ordered m.within) in
      let wide : width_found (first (is_box x.over) bs) ≡ width b = ap width_found found in
      let all : list_any (is_at x.id k) (columns_through bs a ++ columns_through bs d) ≡ true = two-at k a d x (width_found (first (is_box a.over) bs)) (width_found (first (is_box d.over) bs)) (width b)
      (elim (subst (λ z. In x z) t.1.1.0 j) [
        | inl s ↦ inl (sym s, ap (λ (z : OwnedQuant). width_found (first (is_box z.over) bs)) s ∙ wide)
        | inr s ↦ elim s [ inl s ↦ inr (sym s, ap (λ (z : OwnedQuant). width_found (first (is_box z.over) bs)) s ∙ wide) | inr s ↦ elim s [ ] ]
      ]) m.from_one (let u = m.column in let l = m.wide in omega arith) in
      let named : list_any (is_at x.id k) (columns_of y) ≡ true = any-both (is_at x.id k) (flat_map columns_in y.parts.head) (flat_map columns_in_cond y.parts.conds.items)
      ∙ or_left (list_any (is_at x.id k) (flat_map columns_in y.parts.head)) (list_any (is_at x.id k) (flat_map columns_in_cond y.parts.conds.items)) (heads-at x.id k y.parts.head (columns_through bs a ++ columns_through bs d) two.columns all) in
      clash (types_asked x.id k y) (at-asked x.id k y named) (un y y x i i j e)

  -- no quantifier over b is read in a fed box
  fed-unread : (y : Node) → In y bs → is_fed y.parts.role ≡ true → (p : ℕ) → In p qs → list_any (reads p) y.parts.head ≡ false
  fed-unread y i f p h =
      let s = fed-parts root bs y f (shape-parts root bs y (sh.shapes y i)).kind in
      let t = fed-two bs y.parts.head y.quants s.fed in
      let a = t.0 in
      let d = t.1.0 in
      columns-unread p y.parts.head (columns_through bs a ++ columns_through bs d) (two-parts bs y.parts.head a d t.1.1.1).columns
      (any-both (of_quant p) (columns_through bs a) (columns_through bs d) ∙ or_from (list_any (of_quant p) (columns_through bs a)) (list_any (of_quant p) (columns_through bs d))
      (columns-none p a.id 1 (width_found (first (is_box a.over) bs)) (apart a (subst (λ z. In a z) (sym t.1.1.0) (inl refl))))
      (columns-none p d.id 1 (width_found (first (is_box d.over) bs)) (apart d (subst (λ z. In d z) (sym t.1.1.0) (inr (inl refl))))))
    where
      apart : (x : OwnedQuant) → In x y.quants → (x.id == p) ≡ false
      apart x j = elim (cases_Bool (x.id == p)) [
        | inr n ↦ n
        | inl t ↦ absurd (
            let none = c.not-over bs root w b k m y x i j (elim (cases_Bool (x.over == b.id)) [ inr n ↦ n | inl e ↦ absurd (fed-apart y i f x j (eqb-true x.over b.id e)) ]) in
            let some = counted p qs h in
            let e : times x.id qs ≡ times p qs = ap (λ z. times z qs) (eqb-true x.id p t) in omega arith)
      ]

  -- ---- I9

  module _ (shape : shape_fits root bs (without_cell (k - 1) b) ≡ true) (opened : FedOpen hs) where
    cut-shape : (y : Node) → In y bs → shape_fits root bs (cut y) ≡ true
    cut-shape y i = elim (cases_Bool (y.id == b.id)) [
      | inr f ↦ ap (λ (t : Bool). shape_fits root bs (cond t (without_cell (k - 1) y) y)) f ∙ sh.shapes y i
      | inl e ↦ ap (λ (t : Bool). shape_fits root bs (cond t (without_cell (k - 1) y) y)) e ∙ ap (λ z. shape_fits root bs (without_cell (k - 1) z)) (same-box bs y b w.ordered i m.within (eqb-true y.id b.id e)) ∙ shape
    ]

    -- over the boxes as they were
    g-shape : (y : Node) → In y bs → shape_fits root bs (g y) ≡ true
    g-shape y i = each-shape root bs k qs (cut y) (λ f p j. less p y (fed-unread y i (ap is_fed (sym (cut-part (λ n. n.parts.role) (λ n. refl) y)) ∙ f) p j)) (cut-shape y i)
      where
        less : (p : ℕ) (y : Node) → list_any (reads p) y.parts.head ≡ false → list_any (reads p) (cut y).parts.head ≡ false
        less p y f = elim (y.id == b.id) as (λ t. list_any (reads p) (cond t (without_cell (k - 1) y) y).parts.head ≡ false) [
          | true ↦ (elim (cases_Bool (list_any (reads p) (remove y.parts.head (k - 1)))) [ inr n ↦ n | inl t ↦ absurd (clash (list_any (reads p) y.parts.head) (any-remove (reads p) (k - 1) y.parts.head t) f) ])
          | false ↦ f
        ]

    fewer : (x q : ℕ) → loose hs x q ≡ true → loose bs x q ≡ true
    fewer = bounded (loose bs) hs v.once (λ n j. (let y = in-map g n bs j in subst (λ z. Scoped (loose bs) z) y.1.1 (c.scoped-g bs root w b k m y.0 y.1.0)))

    alone : FedAlone hs
    alone = alone-by bs hs root w (λ n i. (let y = in-map g n bs i in subst (λ z. shape_fits root bs z ≡ true) y.1.1 (g-shape y.0 y.1.0))) fewer
        (λ n a d i f e t. open-looks hs root v d.over (opened n i f a d e))

    -- the box under a quantifier, before and after
    boxes : (y : Node) → In y bs → (x : OwnedQuant) → In x y.quants → (u : Node) × ((u.id ≡ x.over) × ((first (is_box x.over) bs ≡ Some u) × (first (is_box x.over) hs ≡ Some (g u))))
    boxes y i x j =
        let u = has-in x.over bs (overs-held bs y x w.ordered i j) in (
          u.0,
          (
            u.1.1,
            (
              subst (λ z. first (is_box z) bs ≡ Some u.0) u.1.1 (in-first u.0 bs w.ordered u.1.0),
              subst (λ z. first (is_box z) hs ≡ Some (g u.0)) (g-id u.0 ∙ u.1.1) (in-first (g u.0) hs v.ordered (map-in g u.0 bs u.1.0)),
            ),
          ),
        )

    over-other : (y : Node) → In y bs → counts (g y) ≡ true → (x : OwnedQuant) → In x y.quants → (x.over == b.id) ≡ false
    over-other y i h x j = elim (cases_Bool (x.over == b.id)) [
      | inr n ↦ n
      | inl e ↦ absurd (elim (or_cases (is_set_op (g y).parts.kind) (is_fed (g y).parts.role) h) [
        | inl s ↦ clash (is_set_op y.parts.kind) (ap is_set_op (sym (c.g-kind bs root w b k m y)) ∙ s) (m.no_arm y x i j (eqb-true x.over b.id e))
        | inr s ↦ fed-apart y i (ap is_fed (sym (g-role y)) ∙ s) x j (eqb-true x.over b.id e)
      ])
    ]

    shape-after : (y : Node) → In y bs → shape_fits root hs (g y) ≡ true
    shape-after y i = shape-moved root bs hs (g y)
        (λ x j h. (
        let l : In x y.quants = subst (λ z. In x z) (g-quants y) j in
        let u = boxes y i x l in
        ap width_found u.1.1.1 ∙ c.width-other bs root w b k m u.0 (subst (λ z. (z == b.id) ≡ false) (sym u.1.0) (over-other y i h x l)) ∙ sym (ap width_found u.1.1.0)))
        (λ x j. (let u = boxes y i x (subst (λ z. In x z) (g-quants y) j) in ap magic_found u.1.1.1 ∙ ap is_magic (g-role u.0) ∙ sym (ap magic_found u.1.1.0)))
        (λ f a d e. (let x = alone (g y) (map-in g y bs i) f a d e in alone-from hs root v d.over a.id x.0 x.1))
        (λ h. (shape-parts root bs (g y) (g-shape y i)).scalar (sym (any-mapped (λ (n : Node). is_scalar_in n.quants (g y).id) g (λ n. ap (λ z. is_scalar_in z (g y).id) (g-quants n)) bs) ∙ h))
        (g-shape y i)

    pub shaped-column : Shaped hs root
    shaped-column = record {
      columns = λ n i. (let y = in-map g n bs i in subst (λ z. columns_fit hs z ≡ true) y.1.1 (columns-after y.0 y.1.0));
      unseen = λ n i p. (
          let y = in-map g n bs i in
          let old = sh.unseen y.0 y.1.0 (ap is_permit (sym (g-distinct y.0)) ∙ ap (λ (z : Node). is_permit z.parts.distinct) y.1.1 ∙ p) in
          let id : y.0.id ≡ n.id = sym (g-id y.0) ∙ ap (λ (z : Node). z.id) y.1.1 in (
            λ e. old.0 (id ∙ e),
            λ o x j l e. (
                let z = in-map g o bs j in
                old.1 z.0 x z.1.0 (subst (λ rs. In x rs) (g-quants z.0) (subst (λ (u : Node). In x u.quants) (sym z.1.1) l)) (e ∙ sym id)),
          ));
      shapes = λ n i. (let y = in-map g n bs i in subst (λ z. shape_fits root hs z ≡ true) y.1.1 (shape-after y.0 y.1.0));
    }

pub drop-column-formed : DropColumnWellFormed
drop-column-formed g u f b k m =
    let p = (sound-checked g u).0 f in
    let same = c.column-boxes g.boxes g.root p.0 b k m.loses in
    let v = c.dropped-column g.boxes g.root p.0 b k m.loses g refl in
    let shape = cut-fits g.root g.boxes b k (p.0.bare b m.loses.within) m.loses.from_one m.loses.column m.not_fed m.no_key m.left (p.2.shapes b m.loses.within) in
    (sound-checked (drop_column b.id k g) (numbers-once (drop_column b.id k g).boxes v.ordered)).1
    (v, drop-column-typed g p.0 p.1 b k m.loses m.unasked, subst (λ z. Shaped z g.root) (sym same) (shaped-column g.boxes g.root p.0 p.2 b k m.loses m.unasked shape (subst FedOpen same m.fed_open)))
