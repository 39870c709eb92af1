-- M1 keeps the shapes of boxes.
use Rattle.std.proofs.Common.{ℕ, ◌==◌, ◌≡◌, ◌&&◌, ◌||◌, cond, nat_lt, not, Bool, true, false, List, [], ◌∷◌, ◌++◌, map, Some, refl, sym, ap, ap₂, subst, ◌∙◌, eqb-true, ◌⊎◌, inl, inr}
use Rattle.std.specs.List.{flat_map, list_all, list_any}
use Rattle.std.proofs.lemmas.Bool.{and_from, and_parts, cases_Bool, eq-eqb, not-true, or_cases, or_from, or_left, or_parts, or_right}
use Rattle.qgm_core.specs.Boxes.{QueryGraph, is_box, is_quant, owns, width}
use Rattle.qgm_core.specs.Edits.{compact}
use Rattle.qgm_core.specs.Free.{IsFree, free_in, reached}
use Rattle.qgm_core.specs.Kinds.{is_A, is_E, is_F, is_F_or_S, is_S, is_enforce, is_fed, is_magic, is_permit, is_plain, is_preserve, width_by}
use Rattle.list_laws.specs.Lists.{In, first, holds}
use Rattle.qgm_core.specs.declared.kinds.BoxKind.{BoxKind}
use Rattle.qgm_core.specs.declared.kinds.BoxKind.TheVariants.{Base, Group, OuterJoin, Select, SetOp}
use Rattle.qgm_core.specs.declared.kinds.QuantKind.{QuantKind}
use Rattle.qgm_core.specs.declared.kinds.Role.{Role}
use Rattle.qgm_core.specs.declared.kinds.Role.TheVariants.{Fed, Magic, Plain}
use Rattle.qgm_core.specs.declared.node.Node.{Node}
use Rattle.qgm_core.specs.declared.owned.OwnedQuant.{OwnedQuant}
use Rattle.qgm_terms.specs.Named.{names_in, nodes_in_cond}
use Rattle.qgm_terms.specs.Named as named
use Rattle.qgm_terms.specs.Substitution.{cell_at, substituted, substituted_cond}
use Rattle.qgm_terms.specs.Terms.{Term}
use Rattle.qgm_terms.specs.Wanted.{has_aggregate, has_aggregate_cond, reads_at, reads_at_cond, wanted}
use Rattle.qgm_terms.specs.declared.named.Column.{Column}
use Rattle.qgm_terms.specs.declared.named.QuantNode.{QuantNode}
use Rattle.qgm_terms.specs.declared.named.QuantNode.TheVariants as node
use Rattle.qgm_terms.specs.declared.sought.Sought.TheVariants.{Aggregate}
use Rattle.qgm_wellformed.specs.Columns.{box_under, columns_fit, columns_of, fits, places_fit, within}
use Rattle.qgm_wellformed.specs.Shapes.{all_F, are_F, arm_fits, columns_placed, columns_through, fed_by, head_folds, heads_are, is_among, is_column, is_none, is_scalar, is_scalar_in, is_unfolded, kind_fits, magic_found, node_fits, nodes_of, only, role_fits, shape_fits, width_found}
use Rattle.qgm_wellformed.specs.Shapes as shapes
use Rattle.qgm_wellformed.specs.WellFormed.{is_empty}
use Rattle.qgm_wellformed.proofs.Below.{free-free}
use Rattle.qgm_wellformed.proofs.ClosedLaws.{finds-alone}
use Rattle.qgm_meaning.specs.Scope.{put_node}
use Rattle.qgm_meaning.specs.Searches.{names, names_cond}
use Rattle.qgm_edit_laws.specs.Graph.{Sound, nodes_in}
use Rattle.rule_merge.specs.Merged.{Merges, merge_node, merged, merged_in}
use Rattle.qgm_edit_laws.specs.FedOpen.{FedOpen}
use Rattle.rule_merge.specs.MergeShapes.{MergeFits}
use Rattle.qgm_edit_laws.specs.Shaped.{Shaped}
use Rattle.qgm_edit_laws.proofs.AnyPut.{cell-any, conds-put, heads-put}
use Rattle.qgm_edit_laws.proofs.Compact.{in-kept, reached_boxes}
use Rattle.qgm_edit_laws.proofs.Edits.{any-append, boxes_without, length-map, without-one}
use Rattle.rule_merge.proofs.MergeSelectFree as freed
use Rattle.rule_merge.proofs.MergeSelectMeans as before
use Rattle.qgm_edit_laws.proofs.Ranks.{has-in}
use Rattle.qgm_edit_laws.proofs.Read.{any-both, at_all, at_cond, column-named, columns-found, is_at, is_of, nodes-listed}
use Rattle.qgm_edit_laws.proofs.Scope.{in-first}
use Rattle.qgm_edit_laws.proofs.ShapedKept.{free-same, shaped-on}
use Rattle.qgm_edit_laws.proofs.ShapedPut.{Passes, all-joined, all-parts, columns-none, columns-unread, conds-fit, conds-same, heads-fit, heads-same, of_quant, own-unread}
use Rattle.qgm_edit_laws.proofs.TypedKept.{found}
use Rattle.rule_merge.proofs.MergeSelectTyped as typed
use Rattle.qgm_edit_laws.proofs.Unput.{heads-none}
use Rattle.qgm_core.proofs.Reaching.{overs-held}
use Rattle.list_laws.proofs.Membership.{all-from, all-in, any-from, any-in, any-none, eq-itself}
use Rattle.list_laws.proofs.Booleans.{clash}
use Rattle.qgm_edit_laws.proofs.OwnShapes.{bare-passes, flat-joined, in-flat, none-map, rows-only, rows-placed, select-placed, shape-parts, some-held}

module _ (bs : List Node) (root : ℕ) (w : Sound bs root) (s : Shaped bs root) (b c : Node) (us : List OwnedQuant) (r : OwnedQuant) (vs : List OwnedQuant) (m : Merges bs b c us r vs) where
  abbrev q : ℕ
  q = r.id

  abbrev cells : List Term
  cells = c.parts.head

  abbrev pub quants : List OwnedQuant
  quants = us ++ (c.quants ++ vs)

  abbrev pub box : Node
  box = merged q c quants b

  abbrev put : Node → Node
  put = put_node q c.parts.head

  abbrev pub g : Node → Node
  g = merge_node b.id q c quants

  abbrev hm : List Node
  hm = map g (boxes_without c.id bs)

  pub sound : Sound hm root
  sound = freed.sound bs root w b c us r vs m

  from : (n : Node) → In n hm → (box ≡ n) ⊎ ((y : Node) × (In y bs × (((y.id == b.id) ≡ false) × (((y.id == c.id) ≡ false) × (put y ≡ n)))))
  from = freed.from bs root w b c us r vs m

  not-own : (y : Node) → In y bs → (y.id == b.id) ≡ false → (y.id == c.id) ≡ false → owns q y ≡ false
  not-own = before.not-own-q [] bs root w b c us r vs m

  nodes-apart : (y : Node) → In y bs → nodes_in q y ≡ false
  nodes-apart = before.nodes-not-q [] bs root w b c us r vs m

  -- a quantifier after was one before
  was : (n : Node) → In n hm → (t : OwnedQuant) → In t n.quants → (y : Node) × (In y bs × In t y.quants)
  was n i t j = elim (from n i) [
    | inl e ↦ elim (freed.quant-of bs root w b c us r vs m t (subst (λ (z : Node). In t z.quants) (sym e) j)) [ inl a ↦ (b, (m.in_b, a)) | inr a ↦ (c, (m.in_c, a)) ]
    | inr y ↦ (y.0, (y.1.0, subst (λ (z : Node). In t z.quants) (sym y.1.1.1.1) j))
  ]

  width-g : (y : Node) → width (g y) ≡ width y
  width-g y = elim (y.id == b.id) as (λ t. width (cond t (merged q c quants y) (put y)) ≡ width y) [ true ↦ ap (width_by y.parts.kind) (length-map (substituted q cells) y.parts.head) | false ↦ ap (width_by y.parts.kind) (length-map (substituted q cells) y.parts.head) ]

  width-put : (y : Node) → width (put y) ≡ width y
  width-put y = ap (width_by y.parts.kind) (length-map (substituted q cells) y.parts.head)

  role-g : (y : Node) → (g y).parts.role ≡ y.parts.role
  role-g y = elim (y.id == b.id) as (λ t. ◌≡◌ {A = Role} (cond t (merged q c quants y) (put y)).parts.role y.parts.role) [ true ↦ refl | false ↦ refl ]

  -- the box under a quantifier, before and after
  under-at : (y : Node) → In y bs → (t : OwnedQuant) → In t y.quants → (t.over == c.id) ≡ false → (u : Node) × ((first (is_box t.over) bs ≡ Some u) × (first (is_box t.over) hm ≡ Some (g u)))
  under-at y i t j n =
      let x = has-in t.over bs (overs-held bs y t w.ordered i j) in (
        x.0,
        (
          ap (λ z. first (is_box z) bs) (sym x.1.1) ∙ in-first x.0 bs w.ordered x.1.0,
          ap (λ z. first (is_box z) hm) (sym x.1.1 ∙ sym (before.g-id [] bs root w b c us r vs m x.0)) ∙ in-first (g x.0) hm sound.ordered (freed.to bs root w b c us r vs m x.0 x.1.0 (ap (λ z. z == c.id) x.1.1 ∙ n)),
        ),
      )

  widths : (y : Node) → In y bs → (t : OwnedQuant) → In t y.quants → (t.over == c.id) ≡ false → width_found (first (is_box t.over) hm) ≡ width_found (first (is_box t.over) bs)
  widths y i t j n = let x = under-at y i t j n in ap width_found x.1.1 ∙ width-g x.0 ∙ sym (ap width_found x.1.0)

  -- ---- what the shape of a box says

  shape-of : (y : Node) → In y bs → (kind_fits root bs y y.parts.kind ≡ true) × (list_all (node_fits y.quants) (nodes_of y) ≡ true) × ((not (is_scalar bs y.id) || nat_lt 0 (width y)) ≡ true)
  shape-of = shape-parts bs root s

  select-of : (y : Node) → In y bs → y.parts.kind ≡ Select → (is_unfolded y ≡ true) × (role_fits root bs y y.parts.role ≡ true)
  select-of y i e = and_parts (is_unfolded y) (role_fits root bs y y.parts.role) (subst (λ k. kind_fits root bs y k ≡ true) e (shape-of y i).0)

  -- no aggregates

  folded-none : (y : Node) → is_unfolded y ≡ true → (list_any has_aggregate y.parts.head ≡ false) × (list_any has_aggregate_cond y.parts.conds.items ≡ false)
  folded-none y h =
      let a = and_parts (not (list_any has_aggregate y.parts.head)) (not (list_any has_aggregate_cond y.parts.conds.items)) h in
      (not-true (list_any has_aggregate y.parts.head) a.0, not-true (list_any has_aggregate_cond y.parts.conds.items) a.1)

  c-folds : (list_any has_aggregate c.parts.head ≡ false) × (list_any has_aggregate_cond c.parts.conds.items ≡ false)
  c-folds = folded-none c (select-of c m.in_c m.select_c).0

  cell-unfolded : (k : ℕ) → has_aggregate (cell_at k cells) ≡ false
  cell-unfolded k = elim (cases_Bool (has_aggregate (cell_at k cells))) [ inr f ↦ f | inl t ↦ absurd (clash (list_any has_aggregate cells) (cell-any has_aggregate cells k refl t) c-folds.0) ]

  unfolded-put : (y : Node) → is_unfolded (put y) ≡ is_unfolded y
  unfolded-put y = ap₂ (λ u v. not u && not v) (heads-same q cells (wanted Aggregate) cell-unfolded y.parts.head) (conds-same q cells (wanted Aggregate) cell-unfolded y.parts.conds.items)

  unfolded-box : is_unfolded box ≡ true
  unfolded-box =
      let f = folded-none b (select-of b m.in_b m.select_b).0 in
      let conds : list_any has_aggregate_cond (map (substituted_cond q cells) b.parts.conds.items ++ c.parts.conds.items) ≡ false = (elim (cases_Bool (list_any has_aggregate_cond (map (substituted_cond q cells) b.parts.conds.items ++ c.parts.conds.items))) [
        | inr n ↦ n
        | inl t ↦ absurd (elim (any-append has_aggregate_cond (map (substituted_cond q cells) b.parts.conds.items) c.parts.conds.items t) [
          | inl a ↦ clash (list_any has_aggregate_cond b.parts.conds.items) (sym (conds-same q cells (wanted Aggregate) cell-unfolded b.parts.conds.items) ∙ a) f.1
          | inr a ↦ clash (list_any has_aggregate_cond c.parts.conds.items) a c-folds.1
        ])
      ]) in
      and_from (not (list_any has_aggregate (map (substituted q cells) b.parts.head))) (not (list_any has_aggregate_cond (map (substituted_cond q cells) b.parts.conds.items ++ c.parts.conds.items))) (ap not (heads-same q cells (wanted Aggregate) cell-unfolded b.parts.head ∙ f.0)) (ap not conds)

  -- ---- columns (I4)

  old-fits : (p k : ℕ) (y : Node) → In y bs → list_any (is_at p k) (columns_of y) ≡ true → fits k (box_under bs p) ≡ true
  old-fits p k y i h =
      let d = any-in (is_at p k) (columns_of y) h in
      let e = and_parts (d.0.quant == p) (d.0.place == k) d.1.1 in
      let f = and_parts (places_fit y.parts.kind) (list_all (λ (d : Column). fits d.place (box_under bs d.quant)) (columns_of y)) (s.columns y i) in
      ap₂ (λ x z. fits x (box_under bs z)) (sym (eqb-true d.0.place k e.1)) (sym (eqb-true d.0.quant p e.0)) ∙ all-in (λ (d : Column). fits d.place (box_under bs d.quant)) d.0 (columns_of y) f.1 d.1.0

  new-fits : (p k : ℕ) (y : Node) → In y bs → list_any (is_at p k) (columns_of y) ≡ true → (p == q) ≡ false → fits k (box_under hm p) ≡ true
  new-fits p k y i h n =
      let x = typed.under bs root w b c us r vs m p (found bs root w y i p (column-named p k y h)) n in
      ap (fits k) x.is ∙ ap (λ z. within z k) (width-g x.box) ∙ sym (ap (fits k) x.was) ∙ old-fits p k y i h

  module _ (p k : ℕ) where
    apart : (t j : ℕ) → (t == q) ≡ false → ((t == p) && (j == k)) ≡ true → (p == q) ≡ false
    apart t j n e = subst (λ z. (z == q) ≡ false) (eqb-true t p (and_parts (t == p) (j == k) e).0) n

    never : (t : ℕ) → (t == q) ≡ false → false ≡ true → (p == q) ≡ false
    never t n e = absurd (let z : ⊥ = cc in z)

    c-fits : list_any (is_at p k) (columns_of c) ≡ true → fits k (box_under hm p) ≡ true
    c-fits h = new-fits p k c m.in_c h (typed.c-names-not-q bs root w b c us r vs m p (column-named p k c h))

    by-head : (y : Node) → list_any (at_all p k) y.parts.head ≡ true → list_any (is_at p k) (columns_of y) ≡ true
    by-head y h = columns-found p k y ∙ or_left (list_any (at_all p k) y.parts.head) (list_any (at_cond p k) y.parts.conds.items) h

    by-cond : (y : Node) → list_any (at_cond p k) y.parts.conds.items ≡ true → list_any (is_at p k) (columns_of y) ≡ true
    by-cond y h = columns-found p k y ∙ or_right (list_any (at_all p k) y.parts.head) (list_any (at_cond p k) y.parts.conds.items) h

    cell-column : (j : ℕ) → at_all p k (cell_at j cells) ≡ true → fits k (box_under hm p) ≡ true
    cell-column j h = c-fits (by-head c (cell-any (at_all p k) cells j refl h))

    head-column : (y : Node) → In y bs → list_any (at_all p k) (map (substituted q cells) y.parts.head) ≡ true → fits k (box_under hm p) ≡ true
    head-column y i h =
        elim (heads-put q cells (λ t j. (t == p) && (j == k)) (λ t. false) (λ t. false) (λ t. true) ((p == q) ≡ false) apart never never y.parts.head (or_parts (list_any (names q) y.parts.head) (list_any (names_cond q) y.parts.conds.items) (nodes-apart y i)).0 h) [
          | inl a ↦ new-fits p k y i (by-head y a.0) a.1
          | inr a ↦ cell-column a.0 a.1.1
        ]

    cond-column : (y : Node) → In y bs → list_any (at_cond p k) (map (substituted_cond q cells) y.parts.conds.items) ≡ true → fits k (box_under hm p) ≡ true
    cond-column y i h =
        elim (conds-put q cells (λ t j. (t == p) && (j == k)) (λ t. false) (λ t. false) (λ t. true) ((p == q) ≡ false) apart never never y.parts.conds.items (or_parts (list_any (names q) y.parts.head) (list_any (names_cond q) y.parts.conds.items) (nodes-apart y i)).1 h) [
          | inl a ↦ new-fits p k y i (by-cond y a.0) a.1
          | inr a ↦ cell-column a.0 a.1.1
        ]

    box-column : list_any (is_at p k) (columns_of box) ≡ true → fits k (box_under hm p) ≡ true
    box-column h = elim (or_cases (list_any (at_all p k) (map (substituted q cells) b.parts.head)) (list_any (at_cond p k) (map (substituted_cond q cells) b.parts.conds.items ++ c.parts.conds.items)) (sym (columns-found p k box) ∙ h)) [
      | inl a ↦ head-column b m.in_b a
      | inr a ↦ elim (any-append (at_cond p k) (map (substituted_cond q cells) b.parts.conds.items) c.parts.conds.items a) [ inl d ↦ cond-column b m.in_b d | inr d ↦ c-fits (by-cond c d) ]
    ]

    put-column : (y : Node) → In y bs → list_any (is_at p k) (columns_of (put y)) ≡ true → fits k (box_under hm p) ≡ true
    put-column y i h = elim (or_cases (list_any (at_all p k) (map (substituted q cells) y.parts.head)) (list_any (at_cond p k) (map (substituted_cond q cells) y.parts.conds.items)) (sym (columns-found p k (put y)) ∙ h)) [ inl a ↦ head-column y i a | inr a ↦ cond-column y i a ]

  places : (y : Node) → In y bs → places_fit y.parts.kind ≡ true
  places y i = (and_parts (places_fit y.parts.kind) (list_all (λ (d : Column). fits d.place (box_under bs d.quant)) (columns_of y)) (s.columns y i)).0

  found-itself : (d : Column) (n : Node) → In d (columns_of n) → list_any (is_at d.quant d.place) (columns_of n) ≡ true
  found-itself d n j = any-from (is_at d.quant d.place) d (columns_of n) j (and_from (d.quant == d.quant) (d.place == d.place) (eq-itself d.quant) (eq-itself d.place))

  columns-after : (n : Node) → In n hm → columns_fit hm n ≡ true
  columns-after n i = elim (from n i) [
    | inl e ↦ subst (λ z. columns_fit hm z ≡ true) e (and_from (places_fit b.parts.kind) (list_all (λ (d : Column). fits d.place (box_under hm d.quant)) (columns_of box)) (places b m.in_b) (all-from (λ (d : Column). fits d.place (box_under hm d.quant)) (columns_of box) (λ d j. box-column d.quant d.place (found-itself d box j))))
    | inr y ↦ subst (λ z. columns_fit hm z ≡ true) y.1.1.1.1 (and_from (places_fit y.0.parts.kind) (list_all (λ (d : Column). fits d.place (box_under hm d.quant)) (columns_of (put y.0))) (places y.0 y.1.0) (all-from (λ (d : Column). fits d.place (box_under hm d.quant)) (columns_of (put y.0)) (λ d j. put-column d.quant d.place y.0 y.1.0 (found-itself d (put y.0) j))))
  ]

  -- ---- PERMIT (I8)

  unseen-was : (y n : Node) → In y bs → y.id ≡ n.id → y.parts.distinct ≡ n.parts.distinct → is_permit n.parts.distinct ≡ true → (n.id ≡ root → ⊥) × ((o : Node) (t : OwnedQuant) → In o hm → In t o.quants → t.over ≡ n.id → is_F_or_S t.kind ≡ false)
  unseen-was y n i e d p =
      let h = s.unseen y i (ap is_permit d ∙ p) in (
        (λ k. h.0 (e ∙ k)),
        (λ o t j l k. (let x = was o j t l in h.1 x.0 t x.1.0 x.1.1 (k ∙ sym e))),
      )

  unseen-after : (n : Node) → In n hm → is_permit n.parts.distinct ≡ true → (n.id ≡ root → ⊥) × ((o : Node) (t : OwnedQuant) → In o hm → In t o.quants → t.over ≡ n.id → is_F_or_S t.kind ≡ false)
  unseen-after n i p = elim (from n i) [
    | inl e ↦ unseen-was b n m.in_b (ap (λ (z : Node). z.id) e) (ap (λ (z : Node). z.parts.distinct) e) p
    | inr y ↦ unseen-was y.0 n y.1.0 (ap (λ (z : Node). z.id) y.1.1.1.1) (ap (λ (z : Node). z.parts.distinct) y.1.1.1.1) p
  ]

  -- ---- scalars are of boxes with a column (I9)

  scalar-was : (x : ℕ) → is_scalar hm x ≡ true → is_scalar bs x ≡ true
  scalar-was x h =
      let o = any-in (λ (n : Node). is_scalar_in n.quants x) hm h in
      let t = any-in (λ (z : OwnedQuant). (z.over == x) && is_S z.kind) o.0.quants o.1.1 in
      let y = was o.0 o.1.0 t.0 t.1.0 in
      any-from (λ (n : Node). is_scalar_in n.quants x) y.0 bs y.1.0 (any-from (λ (z : OwnedQuant). (z.over == x) && is_S z.kind) t.0 y.0.quants y.1.1 t.1.1)

  wide-after : (y n : Node) → In y bs → y.id ≡ n.id → width n ≡ width y → (not (is_scalar hm n.id) || nat_lt 0 (width n)) ≡ true
  wide-after y n i e d = elim (cases_Bool (is_scalar hm n.id)) [
    | inr f ↦ or_left (not (is_scalar hm n.id)) (nat_lt 0 (width n)) (ap not f)
    | inl t ↦ or_right (not (is_scalar hm n.id)) (nat_lt 0 (width n)) (ap (nat_lt 0) d ∙ (elim (or_cases (not (is_scalar bs y.id)) (nat_lt 0 (width y)) (shape-of y i).2) [
      | inl f ↦ absurd (clash (is_scalar bs y.id) (ap (is_scalar bs) e ∙ scalar-was n.id t) (not-true (is_scalar bs y.id) f))
      | inr h ↦ h
    ]))
  ]

  -- ---- nodes (I9)

  abbrev own_nodes_fit : QuantNode → Bool
  own_nodes_fit = node_fits quants

  among-c : (p : QuantKind → Bool) (x : ℕ) → is_among p x c.quants ≡ true → is_among p x quants ≡ true
  among-c p x h = let t = any-in (λ t. is_quant x t && p t.kind) c.quants h in any-from (λ t. is_quant x t && p t.kind) t.0 quants (freed.of-c bs root w b c us r vs m t.0 t.1.0) t.1.1

  among-b : (p : QuantKind → Bool) (x : ℕ) → (x == q) ≡ false → is_among p x b.quants ≡ true → is_among p x quants ≡ true
  among-b p x n h =
      let t = any-in (λ t. is_quant x t && p t.kind) b.quants h in
      let a = and_parts (t.0.id == x) (p t.0.kind) t.1.1 in
      any-from (λ t. is_quant x t && p t.kind) t.0 quants (freed.of-b bs root w b c us r vs m t.0 t.1.0 (subst (λ z. (z == q) ≡ false) (sym (eqb-true t.0.id x a.0)) n)) t.1.1

  node-c : (z : QuantNode) → node_fits c.quants z ≡ true → own_nodes_fit z ≡ true
  node-c (node.Scalar x) h = among-c is_S x h
  node-c (node.Some x) h = among-c is_E x h
  node-c (node.Every x) h = among-c is_A x h

  -- a node of b isn't of q
  node-apart : (x : ℕ) (z : QuantNode) → is_of x z ≡ true → In z (nodes_of b) → (x == q) ≡ false
  node-apart x z e i = elim (cases_Bool (x == q)) [
    | inr f ↦ f
    | inl t ↦ absurd (clash (nodes_in q b) (subst (λ k. nodes_in k b ≡ true) (eqb-true x q t) (sym (nodes-listed x b) ∙ any-from (is_of x) z (nodes_of b) i e)) (nodes-apart b m.in_b))
  ]

  node-b : (z : QuantNode) → In z (nodes_of b) → node_fits b.quants z ≡ true → own_nodes_fit z ≡ true
  node-b (node.Scalar x) i h = among-b is_S x (node-apart x (node.Scalar x) (eq-itself x) i) h
  node-b (node.Some x) i h = among-b is_E x (node-apart x (node.Some x) (eq-itself x) i) h
  node-b (node.Every x) i h = among-b is_A x (node-apart x (node.Every x) (eq-itself x) i) h

  b-nodes : list_all own_nodes_fit (nodes_of b) ≡ true
  b-nodes = all-from own_nodes_fit (nodes_of b) (λ z i. node-b z i (all-in (node_fits b.quants) z (nodes_of b) (shape-of b m.in_b).1 i))

  c-nodes : list_all own_nodes_fit (nodes_of c) ≡ true
  c-nodes = all-from own_nodes_fit (nodes_of c) (λ z i. node-c z (all-in (node_fits c.quants) z (nodes_of c) (shape-of c m.in_c).1 i))

  cell-nodes : (k : ℕ) → Passes q cells own_nodes_fit k
  cell-nodes k = elim (cases_Bool (list_all own_nodes_fit (named.nodes_in (cell_at k cells)))) [
    | inl t ↦ t
    | inr f ↦ absurd (
        let x = any-in (λ (x : Term). not (list_all own_nodes_fit (named.nodes_in x))) cells (cell-any (λ (x : Term). not (list_all own_nodes_fit (named.nodes_in x))) cells k refl (ap not f)) in
        let parts = all-parts own_nodes_fit (flat_map named.nodes_in cells) (flat_map nodes_in_cond c.parts.conds.items) c-nodes in
        clash (list_all own_nodes_fit (named.nodes_in x.0)) (all-from own_nodes_fit (named.nodes_in x.0) (λ z i. all-in own_nodes_fit z (flat_map named.nodes_in cells) parts.0 (in-flat named.nodes_in x.0 cells z x.1.0 i))) (not-true (list_all own_nodes_fit (named.nodes_in x.0)) x.1.1))
  ]

  box-nodes : list_all own_nodes_fit (nodes_of box) ≡ true
  box-nodes =
      let n = or_parts (list_any (names q) b.parts.head) (list_any (names_cond q) b.parts.conds.items) (nodes-apart b m.in_b) in
      let pb = all-parts own_nodes_fit (flat_map named.nodes_in b.parts.head) (flat_map nodes_in_cond b.parts.conds.items) b-nodes in
      let pc = all-parts own_nodes_fit (flat_map named.nodes_in cells) (flat_map nodes_in_cond c.parts.conds.items) c-nodes in
      all-joined own_nodes_fit (flat_map named.nodes_in (map (substituted q cells) b.parts.head)) (flat_map nodes_in_cond (map (substituted_cond q cells) b.parts.conds.items ++ c.parts.conds.items))
      (heads-fit q cells own_nodes_fit b.parts.head (λ k h. cell-nodes k) n.0 pb.0)
      (flat-joined own_nodes_fit nodes_in_cond (map (substituted_cond q cells) b.parts.conds.items) c.parts.conds.items (conds-fit q cells own_nodes_fit b.parts.conds.items (λ k h. cell-nodes k) n.1 pb.1) pc.1)

  put-nodes : (y : Node) → In y bs → (y.id == b.id) ≡ false → list_all (node_fits y.quants) (nodes_of (put y)) ≡ true
  put-nodes y i l =
      let n = or_parts (list_any (names q) y.parts.head) (list_any (names_cond q) y.parts.conds.items) (nodes-apart y i) in
      let p = all-parts (node_fits y.quants) (flat_map named.nodes_in y.parts.head) (flat_map nodes_in_cond y.parts.conds.items) (shape-of y i).1 in
      all-joined (node_fits y.quants) (flat_map named.nodes_in (map (substituted q cells) y.parts.head)) (flat_map nodes_in_cond (map (substituted_cond q cells) y.parts.conds.items))
      (heads-fit q cells (node_fits y.quants) y.parts.head (λ k h. bare-passes (node_fits y.quants) (cell_at k cells) (m.naked y i l k (or_left (list_any (reads_at q k) y.parts.head) (list_any (reads_at_cond q k) y.parts.conds.items) h))) n.0 p.0)
      (conds-fit q cells (node_fits y.quants) y.parts.conds.items (λ k h. bare-passes (node_fits y.quants) (cell_at k cells) (m.naked y i l k (or_right (list_any (reads_at q k) y.parts.head) (list_any (reads_at_cond q k) y.parts.conds.items) h))) n.1 p.1)

  -- ---- roles (I9)

  -- a fed box below which q isn't free goes on being fed
  module _ (y : Node) (i : In y bs) (n : (y.id == b.id) ≡ false) (l : (y.id == c.id) ≡ false) where
    own-apart : (t : OwnedQuant) → In t y.quants → (t.id == q) ≡ false
    own-apart t j = any-none (is_quant q) t y.quants (not-own y i n l) j

    not-over : (t : OwnedQuant) → In t y.quants → (t.over == c.id) ≡ false
    not-over t j = freed.not-over-c bs root w b c us r vs m y t i n j

    alone-after : (p : ℕ) (t : OwnedQuant) → In t y.quants → (p == q) ≡ false → is_empty (free_in hm t.over) ≡ false → only p (free_in bs t.over) ≡ true → only p (free_in hm t.over) ≡ true
    alone-after p t j k e h =
        let z = (finds-alone bs w.ordered t.over p).0 h in
        let sub : (x : ℕ) → IsFree hm t.over x → IsFree bs t.over x = λ x f. freed.free-from bs root w b c us r vs m t.over x (not-over t j) (λ f. clash (p == q) (eq-eqb p q (sym (z.1 q f))) k) f in
        let x = some-held (free_in hm t.over) e in
        let f = (free-free hm sound.ordered t.over x.0).0 x.1 in
        (finds-alone hm sound.ordered t.over p).1 (subst (λ k. IsFree hm t.over k) (z.1 x.0 (sub x.0 f)) f, λ x f. z.1 x (sub x f))

    two-after : (a d : OwnedQuant) → In a y.quants → In d y.quants → is_empty (free_in hm d.over) ≡ false → shapes.fed_by_two bs y.parts.head a d ≡ true → shapes.fed_by_two hm (map (substituted q cells) y.parts.head) a d ≡ true
    two-after a d ja jd e h =
        let p1 = and_parts (is_F a.kind && is_F d.kind && magic_found (first (is_box a.over) bs) && only a.id (free_in bs d.over)) (heads_are y.parts.head (columns_through bs a ++ columns_through bs d)) h in
        let p2 = and_parts (is_F a.kind && is_F d.kind && magic_found (first (is_box a.over) bs)) (only a.id (free_in bs d.over)) p1.0 in
        let p3 = and_parts (is_F a.kind && is_F d.kind) (magic_found (first (is_box a.over) bs)) p2.0 in
        let u = under-at y i a ja (not-over a ja) in
        let unread = columns-unread q y.parts.head (columns_through bs a ++ columns_through bs d) p1.1 (any-both (of_quant q) (columns_through bs a) (columns_through bs d) ∙ or_from (list_any (of_quant q) (columns_through bs a)) (list_any (of_quant q) (columns_through bs d)) (columns-none q a.id 1 (width_found (first (is_box a.over) bs)) (own-apart a ja)) (columns-none q d.id 1 (width_found (first (is_box d.over) bs)) (own-apart d jd))) in
        and_from (is_F a.kind && is_F d.kind && magic_found (first (is_box a.over) hm) && only a.id (free_in hm d.over)) (heads_are (map (substituted q cells) y.parts.head) (columns_through hm a ++ columns_through hm d))
        (and_from (is_F a.kind && is_F d.kind && magic_found (first (is_box a.over) hm)) (only a.id (free_in hm d.over))
        (and_from (is_F a.kind && is_F d.kind) (magic_found (first (is_box a.over) hm)) p3.0 (ap magic_found u.1.1 ∙ ap is_magic (role-g u.0) ∙ sym (ap magic_found u.1.0) ∙ p3.1))
        (alone-after a.id d jd (own-apart a ja) e p2.1))
        (ap (λ x. heads_are x (columns_through hm a ++ columns_through hm d)) (heads-none q cells y.parts.head unread)
        ∙ ap₂ (λ u v. heads_are y.parts.head (shapes.columns_from a.id 1 u ++ shapes.columns_from d.id 1 v)) (widths y i a ja (not-over a ja)) (widths y i d jd (not-over d jd)) ∙ p1.1)

    -- fed boxes among these range by the second over open boxes
    abbrev Opened : Type 0
    Opened = is_fed y.parts.role ≡ true → (a d : OwnedQuant) → y.quants ≡ a ∷ (d ∷ []) → is_empty (free_in hm d.over) ≡ false

    fed-after : is_fed y.parts.role ≡ true → Opened → (rs : List OwnedQuant) → y.quants ≡ rs → fed_by bs y.parts.head rs ≡ true → fed_by hm (map (substituted q cells) y.parts.head) rs ≡ true
    fed-after f o [] e h = h
    fed-after f o (a ∷ []) e h = h
    fed-after f o (a ∷ (d ∷ [])) e h = two-after a d (subst (λ z. In a z) (sym e) (inl refl)) (subst (λ z. In d z) (sym e) (inr (inl refl))) (o f a d e) h
    fed-after f o (a ∷ (d ∷ (t ∷ rs))) e h = h

    role-after : Opened → (k : Role) → y.parts.role ≡ k → role_fits root bs y k ≡ true → role_fits root hm (put y) k ≡ true
    role-after o Plain e h = refl
    role-after o Magic e h = h
    role-after o Fed e h =
        let a = and_parts (not (y.id == root) && is_preserve y.parts.distinct && is_none y.parts.conds.items) (fed_by bs y.parts.head y.quants) h in
        let d = and_parts (not (y.id == root) && is_preserve y.parts.distinct) (is_none y.parts.conds.items) a.0 in
        and_from (not (y.id == root) && is_preserve y.parts.distinct && is_none (map (substituted_cond q cells) y.parts.conds.items)) (fed_by hm (map (substituted q cells) y.parts.head) y.quants)
        (and_from (not (y.id == root) && is_preserve y.parts.distinct) (is_none (map (substituted_cond q cells) y.parts.conds.items)) d.0 (none-map (substituted_cond q cells) y.parts.conds.items ∙ d.1))
        (fed-after (ap is_fed e) o y.quants refl a.1)

    -- ---- kinds (I9)

    own-head : shapes.head_is_own y ≡ true → map (substituted q cells) y.parts.head ≡ y.parts.head
    own-head h = heads-none q cells y.parts.head (own-unread q y h (not-own y i n l))

    arms-after : (v : ℕ) (rs : List OwnedQuant) → ((t : OwnedQuant) → In t rs → In t y.quants) → list_all (arm_fits hm v) rs ≡ list_all (arm_fits bs v) rs
    arms-after v [] sub = refl
    arms-after v (t ∷ rs) sub = ap₂ (λ (k : ℕ) (z : Bool). (k == v) && z) (widths y i t (sub t (inl refl)) (not-over t (sub t (inl refl)))) (arms-after v rs (λ x j. sub x (inr j)))

    kind-after : Opened → (k : BoxKind) → kind_fits root bs y k ≡ true → kind_fits root hm (put y) k ≡ true
    kind-after o (Base t) h = ap₂ (λ u v. is_none y.quants && u && v && is_plain y.parts.role) (none-map (substituted_cond q cells) y.parts.conds.items) (none-map (substituted q cells) y.parts.head) ∙ h
    kind-after o Select h =
        let x = and_parts (is_unfolded y) (role_fits root bs y y.parts.role) h in
        and_from (is_unfolded (put y)) (role_fits root hm (put y) y.parts.role) (unfolded-put y ∙ x.0) (role-after o y.parts.role refl x.1)
    kind-after o (Group k) h =
        let a = and_parts (are_F 1 y.quants && is_none y.parts.conds.items && is_plain y.parts.role && head_folds k y.parts.head) (shapes.head_is_own y) h in
        ap₂ (λ (u : Bool) (hd : List Term). are_F 1 y.quants && u && is_plain y.parts.role && head_folds k hd && list_all (λ p. owns p y) (flat_map names_in hd)) (none-map (substituted_cond q cells) y.parts.conds.items) (own-head a.1) ∙ h
    kind-after o (SetOp form types) h =
        ap (λ v. are_F 2 y.quants && list_all (arm_fits hm v) y.quants && nat_lt 0 v && is_none (map (substituted_cond q cells) y.parts.conds.items) && is_none (map (substituted q cells) y.parts.head) && is_plain y.parts.role) (width-put y)
        ∙ ap (λ z. are_F 2 y.quants && z && nat_lt 0 (width y) && is_none (map (substituted_cond q cells) y.parts.conds.items) && is_none (map (substituted q cells) y.parts.head) && is_plain y.parts.role) (arms-after (width y) y.quants (λ t j. j))
        ∙ ap₂ (λ u v. are_F 2 y.quants && list_all (arm_fits bs (width y)) y.quants && nat_lt 0 (width y) && u && v && is_plain y.parts.role) (none-map (substituted_cond q cells) y.parts.conds.items) (none-map (substituted q cells) y.parts.head) ∙ h
    kind-after o OuterJoin h =
        let a = and_parts (are_F 2 y.quants && list_all is_column y.parts.head && shapes.head_is_own y && is_unfolded y) (is_plain y.parts.role) h in
        let d = and_parts (are_F 2 y.quants && list_all is_column y.parts.head && shapes.head_is_own y) (is_unfolded y) a.0 in
        let e = and_parts (are_F 2 y.quants && list_all is_column y.parts.head) (shapes.head_is_own y) d.0 in
        ap₂ (λ (hd : List Term) (u : Bool). are_F 2 y.quants && list_all is_column hd && list_all (λ p. owns p y) (flat_map names_in hd) && u && is_plain y.parts.role) (own-head e.1) (unfolded-put y) ∙ h

    placed-after : (k : BoxKind) → y.parts.kind ≡ k → kind_fits root bs y k ≡ true → columns_placed (put y) ≡ true
    placed-after (Base t) e h = rows-placed (put y) (rows-only bs root y (Base t) h refl)
    placed-after Select e h = select-placed hm root sound (put y) (freed.to-other bs root w b c us r vs m y i n l) e
    placed-after (Group k) e h = rows-placed (put y) (rows-only bs root y (Group k) h refl)
    placed-after (SetOp form types) e h = rows-placed (put y) (rows-only bs root y (SetOp form types) h refl)
    placed-after OuterJoin e h = rows-placed (put y) (rows-only bs root y OuterJoin h refl)

    put-shape : Opened → shape_fits root hm (put y) ≡ true
    put-shape o =
        let h = shape-of y i in
        and_from ((kind_fits root hm (put y) y.parts.kind && list_all (node_fits y.quants) (nodes_of (put y))) && columns_placed (put y)) (not (is_scalar hm y.id) || nat_lt 0 (width (put y)))
        (and_from (kind_fits root hm (put y) y.parts.kind && list_all (node_fits y.quants) (nodes_of (put y))) (columns_placed (put y))
        (and_from (kind_fits root hm (put y) y.parts.kind) (list_all (node_fits y.quants) (nodes_of (put y))) (kind-after o y.parts.kind h.0) (put-nodes y i n))
        (placed-after y.parts.kind refl h.0))
        (wide-after y (put y) i refl (width-put y))

  -- ---- the merged box

  module _ (not_fed : is_fed b.parts.role ≡ false) (rows_alone : is_magic b.parts.role ≡ true → all_F c.quants ≡ true) where
    box-role : (k : Role) → b.parts.role ≡ k → role_fits root bs b k ≡ true → role_fits root hm box k ≡ true
    box-role Plain e h = refl
    box-role Magic e h =
        let a = and_parts (is_enforce b.parts.distinct) (all_F b.quants) h in
        and_from (is_enforce b.parts.distinct) (all_F quants) a.0 (all-from (λ t. is_F t.kind) quants (λ t j. elim (freed.quant-of bs root w b c us r vs m t j) [
          | inl x ↦ all-in (λ t. is_F t.kind) t b.quants a.1 x
          | inr x ↦ all-in (λ t. is_F t.kind) t c.quants (rows_alone (ap is_magic e)) x
        ]))
    box-role Fed e h = absurd (clash (is_fed b.parts.role) (ap is_fed e) not_fed)

    box-kind : kind_fits root hm box b.parts.kind ≡ true
    box-kind = subst (λ k. kind_fits root hm box k ≡ true) (sym m.select_b) (and_from (is_unfolded box) (role_fits root hm box b.parts.role) unfolded-box (box-role b.parts.role refl (select-of b m.in_b m.select_b).1))

    box-shape : shape_fits root hm box ≡ true
    box-shape =
        and_from ((kind_fits root hm box b.parts.kind && list_all (node_fits quants) (nodes_of box)) && columns_placed box) (not (is_scalar hm b.id) || nat_lt 0 (width box))
        (and_from (kind_fits root hm box b.parts.kind && list_all (node_fits quants) (nodes_of box)) (columns_placed box)
        (and_from (kind_fits root hm box b.parts.kind) (list_all (node_fits quants) (nodes_of box)) box-kind box-nodes)
        (select-placed hm root sound box (freed.box-in bs root w b c us r vs m) m.select_b))
        (wide-after b box m.in_b refl (ap (width_by b.parts.kind) (length-map (substituted q cells) b.parts.head)))

    abbrev keep : ℕ → Bool
    keep x = holds x (reached (root ∷ []) hm)

    -- where fed boxes that the root still reaches range by the second over open boxes, shapes stay
    pub shaped-merged : FedOpen (reached_boxes root hm) → Shaped (reached_boxes root hm) root
    shaped-merged o = shaped-on hm root sound (record {
      columns = λ n i. columns-after n (in-kept keep n hm i).0;
      unseen = λ n i p. unseen-after n (in-kept keep n hm i).0 p;
      shapes = λ n i. elim (from n (in-kept keep n hm i).0) [
        | inl e ↦ subst (λ z. shape_fits root hm z ≡ true) e box-shape
        | inr y ↦ subst (λ z. shape_fits root hm z ≡ true) y.1.1.1.1 (put-shape y.0 y.1.0 y.1.1.0 y.1.1.1.0 (λ f a d e. (
            let j : In d n.quants = subst (λ (z : Node). In d z.quants) y.1.1.1.1 (subst (λ z. In d z) (sym e) (inr (inl refl))) in
            ap is_empty (sym (free-same hm root sound n i d j)) ∙ o n i (subst (λ (z : Node). is_fed z.parts.role ≡ true) y.1.1.1.1 f) a d (subst (λ (z : Node). z.quants ≡ a ∷ (d ∷ [])) y.1.1.1.1 e))))
      ];
    })

-- M1, with the boxes that the root no longer reaches
pub merge-shaped : (g : QueryGraph) → Sound g.boxes g.root → Shaped g.boxes g.root → (b c : Node) (us : List OwnedQuant) (rq : OwnedQuant) (vs : List OwnedQuant)
    → Merges g.boxes b c us rq vs → MergeFits g b c us rq vs → Shaped (merged_in b c us rq vs g).boxes g.root
merge-shaped g w s b c us rq vs m f =
    let same = without-one c.id g.boxes w.ordered in
    subst (λ (z : List Node). Shaped (compact (record g { boxes = map (merge_node b.id rq.id c (us ++ (c.quants ++ vs))) z })).boxes g.root) same
    (shaped-merged g.boxes g.root w s b c us rq vs m f.not_fed f.rows_alone
    (subst (λ (z : List Node). FedOpen (compact (record g { boxes = map (merge_node b.id rq.id c (us ++ (c.quants ++ vs))) z })).boxes) (sym same) f.fed_open))
