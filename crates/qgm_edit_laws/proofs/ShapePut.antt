-- A box that has cells put in for columns of a quantifier of another box keeps its shape.
use Rattle.std.proofs.Common.{ℕ, zero, suc, ◌==◌, ◌≡◌, ◌&&◌, ◌+◌, nat_lt, not, Bool, true, false, List, [], ◌∷◌, ◌++◌, map, refl, sym, ap, ap₂, subst, ◌∙◌, inl, inr, get_or}
use Rattle.std.specs.List.{flat_map, list_all, list_any}
use Rattle.std.proofs.lemmas.Bool.{and_from, and_parts, cases_Bool, or_from, or_parts}
use Rattle.qgm_core.specs.Boxes.{is_box, is_quant, owns, width}
use Rattle.qgm_core.specs.Edits.{with_distinct}
use Rattle.qgm_core.specs.Kinds.{is_enforce, is_plain, is_preserve, width_by}
use Rattle.list_laws.specs.Lists.{In, first}
use Rattle.qgm_core.specs.declared.kinds.BoxKind.{BoxKind}
use Rattle.qgm_core.specs.declared.kinds.BoxKind.TheVariants.{Base, Group, OuterJoin, Select, SetOp}
use Rattle.qgm_core.specs.declared.kinds.Distinct.{Distinct}
use Rattle.qgm_core.specs.declared.kinds.Role.{Role}
use Rattle.qgm_core.specs.declared.kinds.Role.TheVariants.{Fed, Magic, Plain}
use Rattle.qgm_core.specs.declared.node.Node.{Node}
use Rattle.qgm_core.specs.declared.owned.OwnedQuant.{OwnedQuant}
use Rattle.qgm_meaning.specs.Scope.{put_node}
use Rattle.qgm_meaning.specs.Searches.{bare, names, names_cond}
use Rattle.qgm_terms.specs.Named.{names_in, nodes_in, nodes_in_cond}
use Rattle.qgm_terms.specs.Substitution.{cell_at, substituted, substituted_cond}
use Rattle.qgm_terms.specs.Terms.{Term, null_int}
use Rattle.qgm_terms.specs.Wanted.{has_aggregate, wanted}
use Rattle.qgm_terms.specs.declared.sought.Sought.TheVariants.{Aggregate}
use Rattle.qgm_wellformed.specs.Shapes.{all_F, are_F, arm_fits, columns_placed, columns_through, fed_by, head_folds, is_column, is_none, is_unfolded, kind_fits, node_fits, nodes_of, role_fits, shape_fits, width_found}
use Rattle.qgm_edit_laws.specs.Graph.{Sound}
use Rattle.qgm_edit_laws.proofs.AnyPut.{cell-any}
use Rattle.qgm_edit_laws.proofs.Edits.{length-map}
use Rattle.qgm_edit_laws.proofs.Read.{any-both}
use Rattle.qgm_edit_laws.proofs.OwnShapes.{bare-passes, none-map, rows-only, rows-placed, select-placed}
use Rattle.qgm_edit_laws.proofs.ShapedPut.{all-joined, all-parts, columns-none, columns-unread, conds-fit, conds-same, heads-fit, heads-same, of_quant, own-unread}
use Rattle.qgm_edit_laws.proofs.ShapeParts.{shape-from, shape-parts, two-parts}
use Rattle.qgm_edit_laws.proofs.Unput.{heads-none}
use Rattle.qgm_wellformed.specs.Shapes as shapes
use Rattle.qgm_edit_laws.specs.Graph as graph
use Rattle.list_laws.proofs.Membership.{any-none}
use Rattle.list_laws.proofs.Booleans.{clash}

bare-get : (xs : List Term) (k : ℕ) → list_all bare xs ≡ true → bare (get_or xs k null_int) ≡ true
bare-get [] k h = refl
bare-get (x ∷ xs) zero h = (and_parts (bare x) (list_all bare xs) h).0
bare-get (x ∷ xs) (suc k) h = bare-get xs k (and_parts (bare x) (list_all bare xs) h).1

pub bare-cell : (xs : List Term) (k : ℕ) → list_all bare xs ≡ true → bare (cell_at k xs) ≡ true
bare-cell xs k h = bare-get (null_int ∷ xs) k h

cells-unfolded : (cells : List Term) → list_any has_aggregate cells ≡ false → (k : ℕ) → has_aggregate (cell_at k cells) ≡ false
cells-unfolded cells h k = elim (cases_Bool (has_aggregate (cell_at k cells))) [ inr f ↦ f | inl t ↦ absurd (clash (list_any has_aggregate cells) (cell-any has_aggregate cells k refl t) h) ]

-- ---- a box that has cells of another's columns put in

module _ (root : ℕ) (bs : List Node) (q : ℕ) (cells : List Term) (dn : Distinct) (y : Node) (own : owns q y ≡ false) (nod : graph.nodes_in q y ≡ false) (folds : list_any has_aggregate cells ≡ false) (bares : list_all bare cells ≡ true)
    (pre : is_preserve y.parts.distinct ≡ true → is_preserve dn ≡ true) (enf : is_enforce y.parts.distinct ≡ true → is_enforce dn ≡ true) where
  abbrev z : Node
  z = with_distinct dn (put_node q cells y)

  width-put : width z ≡ width y
  width-put = ap (width_by y.parts.kind) (length-map (substituted q cells) y.parts.head)

  unfolded-put : is_unfolded z ≡ is_unfolded y
  unfolded-put = ap₂ (λ u v. not u && not v) (heads-same q cells (wanted Aggregate) (cells-unfolded cells folds) y.parts.head) (conds-same q cells (wanted Aggregate) (cells-unfolded cells folds) y.parts.conds.items)

  own-head : shapes.head_is_own y ≡ true → map (substituted q cells) y.parts.head ≡ y.parts.head
  own-head h = heads-none q cells y.parts.head (own-unread q y h own)

  fed-head : (a d : OwnedQuant) → In a y.quants → In d y.quants → shapes.fed_by_two bs y.parts.head a d ≡ true → map (substituted q cells) y.parts.head ≡ y.parts.head
  fed-head a d ja jd h =
      let t = two-parts bs y.parts.head a d h in
      heads-none q cells y.parts.head (columns-unread q y.parts.head (columns_through bs a ++ columns_through bs d) t.columns (
      any-both (of_quant q) (columns_through bs a) (columns_through bs d)
      ∙ or_from (list_any (of_quant q) (columns_through bs a)) (list_any (of_quant q) (columns_through bs d)) (columns-none q a.id 1 (width_found (first (is_box a.over) bs)) (any-none (is_quant q) a y.quants own ja)) (columns-none q d.id 1 (width_found (first (is_box d.over) bs)) (any-none (is_quant q) d y.quants own jd))))

  fed-put : (rs : List OwnedQuant) → y.quants ≡ rs → fed_by bs y.parts.head rs ≡ true → fed_by bs (map (substituted q cells) y.parts.head) rs ≡ true
  fed-put [] e h = h
  fed-put (a ∷ []) e h = h
  fed-put (a ∷ (d ∷ [])) e h = ap (λ hd. shapes.fed_by_two bs hd a d) (fed-head a d (subst (λ z. In a z) (sym e) (inl refl)) (subst (λ z. In d z) (sym e) (inr (inl refl))) h) ∙ h
  fed-put (a ∷ (d ∷ (t ∷ rs))) e h = h

  role-put : (k : Role) → role_fits root bs y k ≡ true → role_fits root bs z k ≡ true
  role-put Plain h = refl
  role-put Magic h = let a = and_parts (is_enforce y.parts.distinct) (all_F y.quants) h in and_from (is_enforce dn) (all_F y.quants) (enf a.0) a.1
  role-put Fed h =
      let a = and_parts (not (y.id == root) && is_preserve y.parts.distinct && is_none y.parts.conds.items) (fed_by bs y.parts.head y.quants) h in
      let d = and_parts (not (y.id == root) && is_preserve y.parts.distinct) (is_none y.parts.conds.items) a.0 in
      let e = and_parts (not (y.id == root)) (is_preserve y.parts.distinct) d.0 in
      and_from (not (y.id == root) && is_preserve dn && is_none (map (substituted_cond q cells) y.parts.conds.items)) (fed_by bs (map (substituted q cells) y.parts.head) y.quants)
      (and_from (not (y.id == root) && is_preserve dn) (is_none (map (substituted_cond q cells) y.parts.conds.items)) (and_from (not (y.id == root)) (is_preserve dn) e.0 (pre e.1)) (none-map (substituted_cond q cells) y.parts.conds.items ∙ d.1))
      (fed-put y.quants refl a.1)

  kind-put : (k : BoxKind) → kind_fits root bs y k ≡ true → kind_fits root bs z k ≡ true
  kind-put (Base t) h = ap₂ (λ u v. is_none y.quants && u && v && is_plain y.parts.role) (none-map (substituted_cond q cells) y.parts.conds.items) (none-map (substituted q cells) y.parts.head) ∙ h
  kind-put Select h =
      let x = and_parts (is_unfolded y) (role_fits root bs y y.parts.role) h in
      and_from (is_unfolded z) (role_fits root bs z y.parts.role) (unfolded-put ∙ x.0) (role-put y.parts.role x.1)
  kind-put (Group k) h =
      let a = and_parts (are_F 1 y.quants && is_none y.parts.conds.items && is_plain y.parts.role && head_folds k y.parts.head) (shapes.head_is_own y) h in
      ap₂ (λ (u : Bool) (hd : List Term). are_F 1 y.quants && u && is_plain y.parts.role && head_folds k hd && list_all (λ p. owns p y) (flat_map names_in hd)) (none-map (substituted_cond q cells) y.parts.conds.items) (own-head a.1) ∙ h
  kind-put (SetOp form types) h =
      ap (λ v. are_F 2 y.quants && list_all (arm_fits bs v) y.quants && nat_lt 0 v && is_none (map (substituted_cond q cells) y.parts.conds.items) && is_none (map (substituted q cells) y.parts.head) && is_plain y.parts.role) width-put
      ∙ ap₂ (λ u v. are_F 2 y.quants && list_all (arm_fits bs (width y)) y.quants && nat_lt 0 (width y) && u && v && is_plain y.parts.role) (none-map (substituted_cond q cells) y.parts.conds.items) (none-map (substituted q cells) y.parts.head) ∙ h
  kind-put OuterJoin h =
      let a = and_parts (are_F 2 y.quants && list_all is_column y.parts.head && shapes.head_is_own y && is_unfolded y) (is_plain y.parts.role) h in
      let d = and_parts (are_F 2 y.quants && list_all is_column y.parts.head && shapes.head_is_own y) (is_unfolded y) a.0 in
      let e = and_parts (are_F 2 y.quants && list_all is_column y.parts.head) (shapes.head_is_own y) d.0 in
      ap₂ (λ (hd : List Term) (u : Bool). are_F 2 y.quants && list_all is_column hd && list_all (λ p. owns p y) (flat_map names_in hd) && u && is_plain y.parts.role) (own-head e.1) unfolded-put ∙ h

  nodes-put : list_all (node_fits y.quants) (nodes_of y) ≡ true → list_all (node_fits y.quants) (nodes_of z) ≡ true
  nodes-put h =
      let n = or_parts (list_any (names q) y.parts.head) (list_any (names_cond q) y.parts.conds.items) nod in
      let p = all-parts (node_fits y.quants) (flat_map nodes_in y.parts.head) (flat_map nodes_in_cond y.parts.conds.items) h in
      all-joined (node_fits y.quants) (flat_map nodes_in (map (substituted q cells) y.parts.head)) (flat_map nodes_in_cond (map (substituted_cond q cells) y.parts.conds.items))
      (heads-fit q cells (node_fits y.quants) y.parts.head (λ k t. bare-passes (node_fits y.quants) (cell_at k cells) (bare-cell cells k bares)) n.0 p.0)
      (conds-fit q cells (node_fits y.quants) y.parts.conds.items (λ k t. bare-passes (node_fits y.quants) (cell_at k cells) (bare-cell cells k bares)) n.1 p.1)

  placed-put : (hs : List Node) → Sound hs root → In z hs → (k : BoxKind) → y.parts.kind ≡ k → kind_fits root bs y k ≡ true → columns_placed z ≡ true
  placed-put hs v j (Base t) e h = rows-placed z (rows-only bs root y (Base t) h refl)
  placed-put hs v j Select e h = select-placed hs root v z j e
  placed-put hs v j (Group k) e h = rows-placed z (rows-only bs root y (Group k) h refl)
  placed-put hs v j (SetOp form types) e h = rows-placed z (rows-only bs root y (SetOp form types) h refl)
  placed-put hs v j OuterJoin e h = rows-placed z (rows-only bs root y OuterJoin h refl)

  pub shape-put : (hs : List Node) → Sound hs root → In z hs → shape_fits root bs y ≡ true → shape_fits root bs z ≡ true
  shape-put hs v j h =
      let p = shape-parts root bs y h in
      shape-from root bs z (record { kind = kind-put y.parts.kind p.kind; nodes = nodes-put p.nodes; placed = placed-put hs v j y.parts.kind refl p.kind; scalar = λ t. ap (nat_lt 0) width-put ∙ p.scalar t })
