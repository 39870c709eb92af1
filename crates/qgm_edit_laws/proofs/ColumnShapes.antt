-- Shapes of boxes where quantifiers lose a column.
use Rattle.std.proofs.Common.{ℕ, zero, suc, ◌==◌, ◌≡◌, ◌&&◌, ◌||◌, ◌+◌, ◌≤◌, ◌<◌, nat_lt, not, Bool, true, false, List, [], ◌∷◌, ◌++◌, map, refl, ap, ap₂, subst, ◌∙◌, eqb-true, ◌⊎◌, inl, inr, arith}
use Rattle.std.specs.List.{flat_map, list_all, list_any}
use Rattle.std.proofs.lemmas.Bool.{and_from, and_parts, cases_Bool, eq-eqb, ltb-false, ltb-true, or_cases, or_left, or_right}
use Rattle.qgm_core.specs.Boxes.{width}
use Rattle.qgm_core.specs.Edits.{shift_node}
use Rattle.qgm_core.specs.Kinds.{is_F, is_fed, is_plain, is_preserve, width_by}
use Rattle.list_laws.specs.Lists.{In}
use Rattle.qgm_core.specs.declared.kinds.BoxKind.{BoxKind}
use Rattle.qgm_core.specs.declared.kinds.BoxKind.TheVariants.{Base, Group, OuterJoin, Select, SetOp}
use Rattle.qgm_core.specs.declared.kinds.Role.{Role}
use Rattle.qgm_core.specs.declared.kinds.Role.TheVariants.{Fed, Magic, Plain}
use Rattle.qgm_core.specs.declared.node.Node.{Node}
use Rattle.qgm_core.specs.declared.owned.OwnedQuant.{OwnedQuant}
use Rattle.qgm_terms.specs.Named.{columns_in}
use Rattle.qgm_terms.specs.Shift.{shifted, shifted_cond}
use Rattle.qgm_terms.specs.Terms.{Term}
use Rattle.qgm_terms.specs.Wanted.{reads, wanted}
use Rattle.qgm_terms.specs.declared.named.Column.{Column}
use Rattle.qgm_terms.specs.declared.sought.Sought.TheVariants.{Aggregate, Row}
use Rattle.qgm_wellformed.specs.Shapes.{are_F, arm_fits, columns_from, columns_through, fed_by, fed_by_two, head_folds, head_is_own, heads_are, is_column, is_none, is_unfolded, kind_fits, looks_up, node_fits, role_fits, same_columns, shape_fits}
use Rattle.qgm_edit_laws.proofs.Column.{shift_each}
use Rattle.qgm_edit_laws.proofs.ColumnNames.{all-columns-shift, columns-kept, folds-shift, nodes-shift, own-shift}
use Rattle.qgm_edit_laws.proofs.Edits.{length-map}
use Rattle.qgm_edit_laws.proofs.Follow.{all-alike}
use Rattle.qgm_edit_laws.proofs.Naming.{conds-shift, heads-shift}
use Rattle.qgm_edit_laws.proofs.Read.{any-both, is_at}
use Rattle.qgm_edit_laws.proofs.OwnShapes.{none-map}
use Rattle.qgm_edit_laws.proofs.ShapeParts.{shape-from, shape-parts, two-parts}
use Rattle.list_laws.proofs.Membership.{eq-itself}
use Rattle.list_laws.proofs.Booleans.{clash}

-- ---- fed boxes

-- a fed box has two quantifiers
pub fed-two : (bs : List Node) (head : List Term) (rs : List OwnedQuant) → fed_by bs head rs ≡ true → (a : OwnedQuant) × ((d : OwnedQuant) × ((rs ≡ a ∷ (d ∷ [])) × (fed_by_two bs head a d ≡ true)))
fed-two bs head [] h = absurd (let z : ⊥ = cc in z)
fed-two bs head (a ∷ []) h = absurd (let z : ⊥ = cc in z)
fed-two bs head (a ∷ (d ∷ [])) h = (a, (d, (refl, h)))
fed-two bs head (a ∷ (d ∷ (x ∷ rs))) h = absurd (let z : ⊥ = cc in z)

-- all columns, from place i on
columns-at : (q k i w : ℕ) → i ≤ k → k < i + w → list_any (is_at q k) (columns_from q i w) ≡ true
columns-at q k i zero l m = absurd (omega arith)
columns-at q k i (suc w) l m = elim (cases_Bool (i == k)) [
  | inl e ↦ or_left ((q == q) && (i == k)) (list_any (is_at q k) (columns_from q (i + 1) w)) (and_from (q == q) (i == k) (eq-itself q) e)
  | inr f ↦ or_right ((q == q) && (i == k)) (list_any (is_at q k) (columns_from q (i + 1) w)) (columns-at q k (i + 1) w (next i k l f) (omega arith))
]
  where
    next : (i k : ℕ) → i ≤ k → (i == k) ≡ false → i + 1 ≤ k
    next i k l f = elim (cases_Bool (nat_lt i k)) [
      | inl t ↦ (let a = ltb-true i k t in omega arith)
      | inr t ↦ absurd (let a = ltb-false i k t in let e : i ≡ k = omega arith in clash (i == k) (eq-eqb i k e) f)
    ]

same-at : (q k : ℕ) (cs ds : List Column) → same_columns cs ds ≡ true → list_any (is_at q k) ds ≡ true → list_any (is_at q k) cs ≡ true
same-at q k cs [] h t = absurd (let z : ⊥ = cc in z)
same-at q k [] (d ∷ ds) h t = absurd (let z : ⊥ = cc in z)
same-at q k (c ∷ cs) (d ∷ ds) h t =
    let a = and_parts ((c.quant == d.quant) && (c.place == d.place)) (same_columns cs ds) h in
    let b = and_parts (c.quant == d.quant) (c.place == d.place) a.0 in
    elim (or_cases (is_at q k d) (list_any (is_at q k) ds) t) [
      | inl x ↦ or_left (is_at q k c) (list_any (is_at q k) cs) (ap₂ (λ i j. (i == q) && (j == k)) (eqb-true c.quant d.quant b.0) (eqb-true c.place d.place b.1) ∙ x)
      | inr x ↦ or_right (is_at q k c) (list_any (is_at q k) cs) (same-at q k cs ds a.1 x)
    ]

-- a head of such columns has each of them
pub heads-at : (q k : ℕ) (head : List Term) (columns : List Column) → heads_are head columns ≡ true → list_any (is_at q k) columns ≡ true → list_any (is_at q k) (flat_map columns_in head) ≡ true
heads-at q k head columns h t = same-at q k (flat_map columns_in head) columns (and_parts (list_all is_column head) (same_columns (flat_map columns_in head) columns) h).1 t

-- all columns of two quantifiers are among those of both
pub two-at : (k : ℕ) (a d x : OwnedQuant) (u v w : ℕ) → ((x ≡ a) × (u ≡ w)) ⊎ ((x ≡ d) × (v ≡ w)) → 1 ≤ k → k ≤ w → list_any (is_at x.id k) (columns_from a.id 1 u ++ columns_from d.id 1 v) ≡ true
two-at k a d x u v w c l m = any-both (is_at x.id k) (columns_from a.id 1 u) (columns_from d.id 1 v) ∙ elim c [
  | inl e ↦ or_left (list_any (is_at x.id k) (columns_from a.id 1 u)) (list_any (is_at x.id k) (columns_from d.id 1 v)) (subst (λ (z : OwnedQuant). list_any (is_at x.id k) (columns_from z.id 1 u) ≡ true) e.0 (let f = e.1 in columns-at x.id k 1 u l (omega arith)))
  | inr e ↦ or_right (list_any (is_at x.id k) (columns_from a.id 1 u)) (list_any (is_at x.id k) (columns_from d.id 1 v)) (subst (λ (z : OwnedQuant). list_any (is_at x.id k) (columns_from z.id 1 v) ≡ true) e.0 (let f = e.1 in columns-at x.id k 1 v l (omega arith)))
]

-- ---- a shape over the same boxes, where p loses column k

module _ (root : ℕ) (bs : List Node) (p k : ℕ) (z : Node) where
  abbrev z' : Node
  z' = shift_node k p z

  unfolded-shift : is_unfolded z' ≡ is_unfolded z
  unfolded-shift = ap₂ (λ a b. not a && not b) (heads-shift p k (wanted Aggregate) (λ r i j. refl) z.parts.head) (conds-shift p k (wanted Aggregate) (λ r i j. refl) z.parts.conds.items)

  looks-shift : (q : ℕ) → looks_up q z' ≡ looks_up q z
  looks-shift q = ap₂ (λ a b. a || b) (heads-shift p k (wanted (Row q)) (λ r i j. refl) z.parts.head) (conds-shift p k (wanted (Row q)) (λ r i j. refl) z.parts.conds.items)

  width-shift : width z' ≡ width z
  width-shift = ap (width_by z.parts.kind) (length-map (shifted p k) z.parts.head)

  module _ (unread : is_fed z.parts.role ≡ true → list_any (reads p) z.parts.head ≡ false) where
    head-kept : is_fed z.parts.role ≡ true → fed_by bs z.parts.head z.quants ≡ true → map (shifted p k) z.parts.head ≡ z.parts.head
    head-kept f h =
        let x = fed-two bs z.parts.head z.quants h in
        let y = two-parts bs z.parts.head x.0 x.1.0 x.1.1.1 in
        columns-kept p k z.parts.head (and_parts (list_all is_column z.parts.head) (same_columns (flat_map columns_in z.parts.head) (columns_through bs x.0 ++ columns_through bs x.1.0)) y.columns).0 (unread f)

    role-shift : (r : Role) → z.parts.role ≡ r → role_fits root bs z r ≡ true → role_fits root bs z' r ≡ true
    role-shift Plain e h = refl
    role-shift Magic e h = h
    role-shift Fed e h =
        let a = and_parts (not (z.id == root) && is_preserve z.parts.distinct && is_none z.parts.conds.items) (fed_by bs z.parts.head z.quants) h in
        ap₂ (λ (c : Bool) (xs : List Term). not (z.id == root) && is_preserve z.parts.distinct && c && fed_by bs xs z.quants) (none-map (shifted_cond p k) z.parts.conds.items) (head-kept (ap is_fed e) a.1) ∙ h

    kind-shift : (n : BoxKind) → kind_fits root bs z n ≡ true → kind_fits root bs z' n ≡ true
    kind-shift (Base table) h = ap₂ (λ u v. is_none z.quants && u && v && is_plain z.parts.role) (none-map (shifted_cond p k) z.parts.conds.items) (none-map (shifted p k) z.parts.head) ∙ h
    kind-shift Select h =
        let x = and_parts (is_unfolded z) (role_fits root bs z z.parts.role) h in
        and_from (is_unfolded z') (role_fits root bs z' z.parts.role) (unfolded-shift ∙ x.0) (role-shift z.parts.role refl x.1)
    kind-shift (Group keys) h =
        ap₂ (λ u v. are_F 1 z.quants && u && is_plain z.parts.role && v && head_is_own z') (none-map (shifted_cond p k) z.parts.conds.items) (folds-shift p k keys z.parts.head)
        ∙ ap (λ u. are_F 1 z.quants && is_none z.parts.conds.items && is_plain z.parts.role && head_folds keys z.parts.head && u) (own-shift p k z) ∙ h
    kind-shift (SetOp form types) h =
        ap (λ v. are_F 2 z.quants && list_all (arm_fits bs v) z.quants && nat_lt 0 v && is_none (map (shifted_cond p k) z.parts.conds.items) && is_none (map (shifted p k) z.parts.head) && is_plain z.parts.role) width-shift
        ∙ ap₂ (λ u v. are_F 2 z.quants && list_all (arm_fits bs (width z)) z.quants && nat_lt 0 (width z) && u && v && is_plain z.parts.role) (none-map (shifted_cond p k) z.parts.conds.items) (none-map (shifted p k) z.parts.head) ∙ h
    kind-shift OuterJoin h =
        ap₂ (λ u v. are_F 2 z.quants && u && v && is_unfolded z' && is_plain z.parts.role) (all-columns-shift p k z.parts.head) (own-shift p k z)
        ∙ ap (λ u. are_F 2 z.quants && list_all is_column z.parts.head && head_is_own z && u && is_plain z.parts.role) unfolded-shift ∙ h

    shape-shift : shape_fits root bs z ≡ true → shape_fits root bs z' ≡ true
    shape-shift h = let s = shape-parts root bs z h in shape-from root bs z' (record {
      kind = kind-shift z.parts.kind s.kind;
      nodes = ap (list_all (node_fits z.quants)) (nodes-shift p k z) ∙ s.nodes;
      placed = all-alike (λ r. is_F r.kind || not (looks_up r.id z')) (λ r. is_F r.kind || not (looks_up r.id z)) z.quants (λ r i. ap (λ b. is_F r.kind || not b) (looks-shift r.id)) ∙ s.placed;
      scalar = λ t. ap (nat_lt 0) width-shift ∙ s.scalar t;
    })

-- where each of these quantifiers loses it, none of which a fed box reads
pub each-shape : (root : ℕ) (bs : List Node) (k : ℕ) (qs : List ℕ) (z : Node) → (is_fed z.parts.role ≡ true → (p : ℕ) → In p qs → list_any (reads p) z.parts.head ≡ false) → shape_fits root bs z ≡ true → shape_fits root bs (shift_each k qs z) ≡ true
each-shape root bs k [] z u h = h
each-shape root bs k (p ∷ qs) z u h = each-shape root bs k qs (shift_node k p z)
    (λ f r i. heads-shift p k (wanted (Row r)) (λ q i j. refl) z.parts.head ∙ u f r (inr i))
    (shape-shift root bs p k z (λ f. u f p (inl refl)) h)
