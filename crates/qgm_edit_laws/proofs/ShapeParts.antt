-- The shape of a box, part by part.
use Rattle.std.proofs.Common.{ℕ, ◌==◌, ◌≡◌, ◌&&◌, ◌||◌, nat_lt, not, Bool, true, List, [], ◌∷◌, ◌++◌, refl, sym, ap, ap₂, subst, ◌∙◌, inl, inr}
use Rattle.std.specs.List.{list_all}
use Rattle.std.proofs.lemmas.Bool.{and_from, and_parts, cases_Bool, not-true, or_cases, or_left, or_right}
use Rattle.qgm_core.specs.Boxes.{is_box, width}
use Rattle.qgm_core.specs.Free.{free_in}
use Rattle.qgm_core.specs.Kinds.{is_F, is_fed, is_plain, is_preserve}
use Rattle.list_laws.specs.Lists.{In, first}
use Rattle.qgm_core.specs.declared.kinds.BoxKind.{BoxKind}
use Rattle.qgm_core.specs.declared.kinds.BoxKind.TheVariants.{Base, Group, OuterJoin, Select, SetOp}
use Rattle.qgm_core.specs.declared.kinds.Role.{Role}
use Rattle.qgm_core.specs.declared.kinds.Role.TheVariants.{Fed, Magic, Plain}
use Rattle.qgm_core.specs.declared.node.Node.{Node}
use Rattle.qgm_core.specs.declared.owned.OwnedQuant.{OwnedQuant}
use Rattle.qgm_terms.specs.Terms.{Term}
use Rattle.qgm_wellformed.specs.Shapes.{arm_fits, columns_from, columns_placed, columns_through, fed_by, fed_by_two, heads_are, is_none, is_scalar, is_unfolded, kind_fits, magic_found, node_fits, nodes_of, only, role_fits, shape_fits, width_found}
use Rattle.qgm_wellformed.specs.Shapes as shapes
use Rattle.qgm_edit_laws.specs.Changes.{is_set_op}
use Rattle.list_laws.proofs.Booleans.{clash}

pub record ShapeParts (root : ℕ) (bs : List Node) (n : Node) : Type 0 where
  pub kind : kind_fits root bs n n.parts.kind ≡ true
  pub nodes : list_all (node_fits n.quants) (nodes_of n) ≡ true
  pub placed : columns_placed n ≡ true
  pub scalar : is_scalar bs n.id ≡ true → nat_lt 0 (width n) ≡ true

module _ (root : ℕ) (bs : List Node) (n : Node) where
  pub shape-parts : shape_fits root bs n ≡ true → ShapeParts root bs n
  shape-parts h =
      let a = and_parts ((kind_fits root bs n n.parts.kind && list_all (node_fits n.quants) (nodes_of n)) && columns_placed n) (not (is_scalar bs n.id) || nat_lt 0 (width n)) h in
      let d = and_parts (kind_fits root bs n n.parts.kind && list_all (node_fits n.quants) (nodes_of n)) (columns_placed n) a.0 in
      let e = and_parts (kind_fits root bs n n.parts.kind) (list_all (node_fits n.quants) (nodes_of n)) d.0 in
      record {
        kind = e.0;
        nodes = e.1;
        placed = d.1;
        scalar = λ t. elim (or_cases (not (is_scalar bs n.id)) (nat_lt 0 (width n)) a.1) [ inl f ↦ absurd (clash (is_scalar bs n.id) t (not-true (is_scalar bs n.id) f)) | inr z ↦ z ];
      }

  pub shape-from : ShapeParts root bs n → shape_fits root bs n ≡ true
  shape-from p =
      and_from ((kind_fits root bs n n.parts.kind && list_all (node_fits n.quants) (nodes_of n)) && columns_placed n) (not (is_scalar bs n.id) || nat_lt 0 (width n))
      (and_from (kind_fits root bs n n.parts.kind && list_all (node_fits n.quants) (nodes_of n)) (columns_placed n) (and_from (kind_fits root bs n n.parts.kind) (list_all (node_fits n.quants) (nodes_of n)) p.kind p.nodes) p.placed)
      (elim (cases_Bool (is_scalar bs n.id)) [
        | inr f ↦ or_left (not (is_scalar bs n.id)) (nat_lt 0 (width n)) (ap not f)
        | inl t ↦ or_right (not (is_scalar bs n.id)) (nat_lt 0 (width n)) (p.scalar t)
      ])

-- ---- roles

fed-plain : (r : Role) → is_fed r ≡ true → is_plain r ≡ true → ⊥
fed-plain Plain f p = let z : ⊥ = cc in z
fed-plain Magic f p = let z : ⊥ = cc in z
fed-plain Fed f p = let z : ⊥ = cc in z

pub record FedParts (root : ℕ) (bs : List Node) (n : Node) : Type 0 where
  pub select : n.parts.kind ≡ Select
  pub not_root : not (n.id == root) ≡ true
  pub preserve : is_preserve n.parts.distinct ≡ true
  pub no_conds : is_none n.parts.conds.items ≡ true
  pub fed : fed_by bs n.parts.head n.quants ≡ true

-- a fed box is a select of its shape
pub fed-parts : (root : ℕ) (bs : List Node) (n : Node) → is_fed n.parts.role ≡ true → kind_fits root bs n n.parts.kind ≡ true → FedParts root bs n
fed-parts root bs n f = by n.parts.kind refl
  where
    role : n.parts.kind ≡ Select → (r : Role) → is_fed r ≡ true → role_fits root bs n r ≡ true → FedParts root bs n
    role e Plain f h = absurd (let z : ⊥ = cc in z)
    role e Magic f h = absurd (let z : ⊥ = cc in z)
    role e Fed f h =
        let a = and_parts (not (n.id == root) && is_preserve n.parts.distinct && is_none n.parts.conds.items) (fed_by bs n.parts.head n.quants) h in
        let b = and_parts (not (n.id == root) && is_preserve n.parts.distinct) (is_none n.parts.conds.items) a.0 in
        let c = and_parts (not (n.id == root)) (is_preserve n.parts.distinct) b.0 in
        record { select = e; not_root = c.0; preserve = c.1; no_conds = b.1; fed = a.1 }

    by : (k : BoxKind) → n.parts.kind ≡ k → kind_fits root bs n k ≡ true → FedParts root bs n
    by (Base t) e h = absurd (fed-plain n.parts.role f (and_parts (is_none n.quants && is_none n.parts.conds.items && is_none n.parts.head) (is_plain n.parts.role) h).1)
    by Select e h = role e n.parts.role f (and_parts (is_unfolded n) (role_fits root bs n n.parts.role) h).1
    by (Group k) e h = absurd (
        let a = and_parts (shapes.are_F 1 n.quants && is_none n.parts.conds.items && is_plain n.parts.role && shapes.head_folds k n.parts.head) (shapes.head_is_own n) h in
        let b = and_parts (shapes.are_F 1 n.quants && is_none n.parts.conds.items && is_plain n.parts.role) (shapes.head_folds k n.parts.head) a.0 in
        fed-plain n.parts.role f (and_parts (shapes.are_F 1 n.quants && is_none n.parts.conds.items) (is_plain n.parts.role) b.0).1)
    by (SetOp form types) e h = absurd (fed-plain n.parts.role f (and_parts (shapes.are_F 2 n.quants && list_all (arm_fits bs (width n)) n.quants && nat_lt 0 (width n) && is_none n.parts.conds.items && is_none n.parts.head) (is_plain n.parts.role) h).1)
    by OuterJoin e h = absurd (fed-plain n.parts.role f (and_parts (shapes.are_F 2 n.quants && list_all shapes.is_column n.parts.head && shapes.head_is_own n && is_unfolded n) (is_plain n.parts.role) h).1)

pub record TwoParts (bs : List Node) (head : List Term) (a d : OwnedQuant) : Type 0 where
  pub kinds : (is_F a.kind && is_F d.kind) ≡ true
  pub magic : magic_found (first (is_box a.over) bs) ≡ true
  pub alone : only a.id (free_in bs d.over) ≡ true
  pub columns : heads_are head (columns_through bs a ++ columns_through bs d) ≡ true

module _ (bs : List Node) (head : List Term) (a d : OwnedQuant) where
  pub two-parts : fed_by_two bs head a d ≡ true → TwoParts bs head a d
  two-parts h =
      let p1 = and_parts (is_F a.kind && is_F d.kind && magic_found (first (is_box a.over) bs) && only a.id (free_in bs d.over)) (heads_are head (columns_through bs a ++ columns_through bs d)) h in
      let p2 = and_parts (is_F a.kind && is_F d.kind && magic_found (first (is_box a.over) bs)) (only a.id (free_in bs d.over)) p1.0 in
      let p3 = and_parts (is_F a.kind && is_F d.kind) (magic_found (first (is_box a.over) bs)) p2.0 in
      record { kinds = p3.0; magic = p3.1; alone = p2.1; columns = p1.1 }

  pub two-from : TwoParts bs head a d → fed_by_two bs head a d ≡ true
  two-from p =
      and_from (is_F a.kind && is_F d.kind && magic_found (first (is_box a.over) bs) && only a.id (free_in bs d.over)) (heads_are head (columns_through bs a ++ columns_through bs d))
      (and_from (is_F a.kind && is_F d.kind && magic_found (first (is_box a.over) bs)) (only a.id (free_in bs d.over)) (and_from (is_F a.kind && is_F d.kind) (magic_found (first (is_box a.over) bs)) p.kinds p.magic) p.alone) p.columns

-- ---- a shape sees of the boxes under quantifiers their widths and whether they are magic, and what is looked up under the second of a fed box

-- a set operation or a fed box, which counts the columns of the boxes below it
abbrev pub counts : Node → Bool
counts n = is_set_op n.parts.kind || is_fed n.parts.role

module _ (root : ℕ) (bs hs : List Node) (n : Node)
    (wide : (r : OwnedQuant) → In r n.quants → counts n ≡ true → width_found (first (is_box r.over) hs) ≡ width_found (first (is_box r.over) bs))
    (magic : (r : OwnedQuant) → In r n.quants → magic_found (first (is_box r.over) hs) ≡ magic_found (first (is_box r.over) bs))
    (alone : is_fed n.parts.role ≡ true → (a d : OwnedQuant) → n.quants ≡ a ∷ (d ∷ []) → only a.id (free_in hs d.over) ≡ true) where
  two-moved : is_fed n.parts.role ≡ true → (a d : OwnedQuant) → In a n.quants → In d n.quants → only a.id (free_in hs d.over) ≡ true → fed_by_two bs n.parts.head a d ≡ true → fed_by_two hs n.parts.head a d ≡ true
  two-moved f a d i j o h =
      let c = or_right (is_set_op n.parts.kind) (is_fed n.parts.role) f in
      let p = two-parts bs n.parts.head a d h in
      two-from hs n.parts.head a d (record {
        kinds = p.kinds;
        magic = magic a i ∙ p.magic;
        alone = o;
        columns = ap₂ (λ u v. heads_are n.parts.head (columns_from a.id 1 u ++ columns_from d.id 1 v)) (wide a i c) (wide d j c) ∙ p.columns;
      })

  fed-moved : is_fed n.parts.role ≡ true → (rs : List OwnedQuant) → n.quants ≡ rs → fed_by bs n.parts.head rs ≡ true → fed_by hs n.parts.head rs ≡ true
  fed-moved f [] e h = h
  fed-moved f (a ∷ []) e h = h
  fed-moved f (a ∷ (d ∷ [])) e h = two-moved f a d (subst (λ z. In a z) (sym e) (inl refl)) (subst (λ z. In d z) (sym e) (inr (inl refl))) (alone f a d e) h
  fed-moved f (a ∷ (d ∷ (t ∷ rs))) e h = h

  role-moved : (k : Role) → n.parts.role ≡ k → role_fits root bs n k ≡ true → role_fits root hs n k ≡ true
  role-moved Plain e h = refl
  role-moved Magic e h = h
  role-moved Fed e h =
      let a = and_parts (not (n.id == root) && is_preserve n.parts.distinct && is_none n.parts.conds.items) (fed_by bs n.parts.head n.quants) h in
      and_from (not (n.id == root) && is_preserve n.parts.distinct && is_none n.parts.conds.items) (fed_by hs n.parts.head n.quants) a.0 (fed-moved (ap is_fed e) n.quants refl a.1)

  arms-moved : is_set_op n.parts.kind ≡ true → (rs : List OwnedQuant) → ((r : OwnedQuant) → In r rs → In r n.quants) → list_all (arm_fits hs (width n)) rs ≡ list_all (arm_fits bs (width n)) rs
  arms-moved s [] sub = refl
  arms-moved s (r ∷ rs) sub = ap₂ (λ (k : ℕ) (z : Bool). (k == width n) && z) (wide r (sub r (inl refl)) (or_left (is_set_op n.parts.kind) (is_fed n.parts.role) s)) (arms-moved s rs (λ x j. sub x (inr j)))

  kind-moved : (k : BoxKind) → n.parts.kind ≡ k → kind_fits root bs n k ≡ true → kind_fits root hs n k ≡ true
  kind-moved (Base t) e h = h
  kind-moved Select e h = let x = and_parts (is_unfolded n) (role_fits root bs n n.parts.role) h in and_from (is_unfolded n) (role_fits root hs n n.parts.role) x.0 (role-moved n.parts.role refl x.1)
  kind-moved (Group k) e h = h
  kind-moved (SetOp form types) e h = ap (λ z. shapes.are_F 2 n.quants && z && nat_lt 0 (width n) && is_none n.parts.conds.items && is_none n.parts.head && is_plain n.parts.role) (arms-moved (ap is_set_op e) n.quants (λ r j. j)) ∙ h
  kind-moved OuterJoin e h = h

  pub shape-moved : (is_scalar hs n.id ≡ true → nat_lt 0 (width n) ≡ true) → shape_fits root bs n ≡ true → shape_fits root hs n ≡ true
  shape-moved scalar h = let p = shape-parts root bs n h in shape-from root hs n (record { kind = kind-moved n.parts.kind refl p.kind; nodes = p.nodes; placed = p.placed; scalar = scalar })
