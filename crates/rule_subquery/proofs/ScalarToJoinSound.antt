-- U3: the box that reads the first column may stand in the place of the box with the scalar.
use Rattle.std.proofs.Common.{ℕ, suc, ◌==◌, ◌≡◌, ◌&&◌, ◌||◌, ◌≤◌, nat_lt, nat_le, not, cond, Bool, true, false, List, [], ◌∷◌, ◌++◌, map, length, Some, refl, sym, ap, ap₂, subst, ◌∙◌, eqb-true, ◌⊎◌, inl, inr, arith}
use Rattle.std.specs.List.{flat_map, list_all, list_any}
use Rattle.std.proofs.lemmas.Bool.{and_from, and_parts, cases_Bool, le-leb, ltb-true, or_right}
use Rattle.std.specs.Prelude.{ℕ, ◌≡◌, ◌++◌, List, [], ◌∷◌, map, true}
use Rattle.row_bag.specs.AsSets.{is_clean}
use Rattle.row_bag.specs.Joins.{how_many}
use Rattle.row_bag.specs.declared.tables.Table.{Table}
use Rattle.qgm_terms.specs.Named.{columns_in, columns_in_cond, nodes_in, nodes_in_cond}
use Rattle.qgm_terms.specs.Wanted.{wanted}
use Rattle.qgm_terms.specs.declared.named.Column.{Column}
use Rattle.qgm_terms.specs.declared.named.QuantNode.{QuantNode}
use Rattle.qgm_terms.specs.declared.sought.Sought.TheVariants as sought
use Rattle.qgm_terms.specs.declared.named.QuantNode.TheVariants as node
use Rattle.qgm_core.specs.Boxes.{ids_of, is_quant, owns, width}
use Rattle.qgm_core.specs.Kinds.{is_A, is_E, is_F, is_F_or_S, is_S, width_by}
use Rattle.list_laws.specs.Lists.{In, first, times}
use Rattle.qgm_core.specs.declared.kinds.BoxKind.TheVariants.{Select}
use Rattle.qgm_core.specs.declared.kinds.QuantKind.{QuantKind}
use Rattle.qgm_core.specs.declared.kinds.QuantKind.TheVariants.{F, S}
use Rattle.qgm_core.specs.declared.kinds.Role.TheVariants.{Plain}
use Rattle.qgm_core.specs.declared.node.Node.{Node}
use Rattle.qgm_core.specs.declared.owned.OwnedQuant.{OwnedQuant}
use Rattle.qgm_wellformed.specs.Columns.{columns_fit, columns_of, fits, box_under, places_fit}
use Rattle.qgm_wellformed.specs.Shapes.{is_among, is_unfolded, kind_fits, looks_up, node_fits, nodes_of, role_fits, shape_fits, columns_placed}
use Rattle.qgm_wellformed.specs.Types.{arms_agree, cond_fits, is_known, lookup_of, term_type, types_agree, types_by, types_of}
use Rattle.qgm_meaning.specs.Rules.{as_F}
use Rattle.qgm_meaning.specs.Scope.{looks_found, loose, loose_by, loose_each, loose_of, quant_looks, read_by, under_any}
use Rattle.qgm_meaning.specs.Searches.{as_column, as_column_cond, binding, binds, binds_cond}
use Rattle.qgm_meaning.proofs.ExistsJoined.{inner}
use Rattle.qgm_meaning.specs.Fits as environments
use Rattle.qgm_meaning.specs.Meaning.{bag_in}
use Rattle.qgm_meaning.specs.Satisfies.{Satisfies}
use Rattle.qgm_meaning.specs.Values.{Environment}
use Rattle.qgm_edit_laws.specs.Graph.{Sound, binds_row}
use Rattle.qgm_edit_laws.specs.Shaped.{Shaped, Typed}
use Rattle.qgm_edit_laws.proofs.BoxForms.{counted-seen, scalar-column}
use Rattle.qgm_edit_laws.proofs.Edits.{split-once}
use Rattle.qgm_edit_laws.proofs.Formed.{under-is}
use Rattle.qgm_edit_laws.proofs.Ranks.{has-in}
use Rattle.qgm_edit_laws.proofs.Read.{is_of, nodes-listed}
use Rattle.qgm_edit_laws.proofs.Scope.{unfold-loose}
use Rattle.qgm_edit_laws.proofs.ShapeParts.{ShapeParts, shape-from, shape-parts}
use Rattle.qgm_edit_laws.proofs.Turns.{first-own}
use Rattle.qgm_edit_laws.specs.PutsBox.{PutsBox}
use Rattle.qgm_edit_laws.proofs.ScalarAsColumn.{aggregate-same, all-columns, all-columns-cond, all-nodes, all-nodes-cond, any-conds, any-heads, fit-columns, flat-conds, flat-heads, known-columns, node-same, row-same, typed-columns}
use Rattle.qgm_edit_laws.proofs.MovedLast.{absorbed, any-behind, each-walk, in-behind, in-beside, looks-over, over-behind, times-behind, walk, walk-both}
use Rattle.qgm_edit_laws.proofs.Binders.{binder, binders-listed}
use Rattle.qgm_edit_laws.proofs.ConjunctsOf.{all-both}
use Rattle.qgm_edit_laws.specs.Graph as graph
use Rattle.rule_subquery.specs.ScalarToJoin.{column_box}
use Rattle.list_laws.proofs.Membership.{all-from, all-in, any-from, any-in, any-none, any-not, eq-false-sym, eq-itself, in-right}
use Rattle.list_laws.proofs.Booleans.{clash}
use Rattle.qgm_core.proofs.Reaching.{overs-held}
use Rattle.list_laws.proofs.Counting.{times-in}

-- o, a plain select, has the S quantifier r between us and vs, over a box of exactly one clean row in the environments that evaluation meets
pub record OneScalar (bs : List Node) (o : Node) (us : List OwnedQuant) (r : OwnedQuant) (vs : List OwnedQuant) : Type 0 where
  pub within : In o bs
  pub select : o.parts.kind ≡ Select
  pub plain : o.parts.role ≡ Plain
  pub split : o.quants ≡ us ++ r ∷ vs
  pub is_s : r.kind ≡ S
  pub clean : (tables : List Table) → Satisfies tables bs → (e : Environment) → environments.fits (bag_in tables bs) bs e ≡ true → is_clean (bag_in tables bs r.over e) ≡ true
  pub one : (tables : List Table) → Satisfies tables bs → (e : Environment) → environments.fits (bag_in tables bs) bs e ≡ true → how_many (bag_in tables bs r.over e) ≡ 1

length-map : {X Y : Type 0} (f : X → Y) (xs : List X) → length (map f xs) ≡ length xs
length-map f [] = refl
length-map f (x ∷ xs) = ap suc (length-map f xs)

module _ (bs : List Node) (root : ℕ) (w : Sound bs root) (ty : Typed bs) (sh : Shaped bs root) (o : Node) (us : List OwnedQuant) (r : OwnedQuant) (vs : List OwnedQuant) (e : OneScalar bs o us r vs) where
  abbrev i : ℕ
  i = r.id

  abbrev n : Node
  n = column_box us r vs o

  abbrev s : OwnedQuant
  s = as_F i r.over

  pub in-r : In r o.quants
  in-r = subst (λ z. In r z) (sym e.split) (in-right r us (r ∷ vs) (inl refl))

  pub owned : owns i o ≡ true
  owned = any-from (is_quant i) r o.quants in-r (eq-itself i)

  few : times i (map (λ (x : OwnedQuant). x.id) (us ++ r ∷ vs)) ≤ 1
  few = subst (λ z. times i (map (λ (x : OwnedQuant). x.id) z) ≤ 1) e.split (let a = times-in ids_of i o bs e.within in let b = w.once i in omega arith)

  apart : (x : OwnedQuant) → In x us ⊎ In x vs → (x.id == i) ≡ false
  apart x j = split-once (λ (x : OwnedQuant). x.id) us r vs few x j

  pub absent-us : list_any (is_quant i) us ≡ false
  absent-us = any-not (is_quant i) us (λ x j. apart x (inl j))

  pub absent-vs : list_any (is_quant i) vs ≡ false
  absent-vs = any-not (is_quant i) vs (λ x j. apart x (inr j))

  not-row : is_F r.kind ≡ false
  not-row = ap is_F e.is_s

  found-r : first (is_quant i) o.quants ≡ Some r
  found-r = first-own r o.quants (subst (λ z. times i (map (λ (x : OwnedQuant). x.id) z) ≤ 1) (sym e.split) few) in-r

  -- r is the one of its number, so that no other kind is
  r-alone : (x : OwnedQuant) → In x o.quants → (x.id == i) ≡ true → r ≡ x
  r-alone x j t =
      let a : first (is_quant x.id) o.quants ≡ Some x = first-own x o.quants (let a = times-in ids_of x.id o bs e.within in let b = w.once x.id in omega arith) j in
      let b : Some r ≡ Some x = sym found-r ∙ ap (λ z. first (is_quant z) o.quants) (sym (eqb-true x.id i t)) ∙ a in cc

  no-row : binds_row i o.quants ≡ false
  no-row = any-not (λ (x : OwnedQuant). is_F x.kind && is_quant i x) o.quants (λ x j. elim (cases_Bool (x.id == i)) [
    | inr f ↦ ap (λ b. is_F x.kind && b) f ∙ off (is_F x.kind)
    | inl t ↦ ap (λ b. b && (x.id == i)) (ap (λ (z : OwnedQuant). is_F z.kind) (sym (r-alone x j t)) ∙ not-row)
  ])
    where
      off : (a : Bool) → (a && false) ≡ false
      off true = refl
      off false = refl

  -- no some or every is of r
  shape-o : ShapeParts root bs o
  shape-o = shape-parts root bs o (sh.shapes o e.within)

  not-among : (p : QuantKind → Bool) → p S ≡ false → is_among p i o.quants ≡ false
  not-among p h = any-not (λ (x : OwnedQuant). is_quant i x && p x.kind) o.quants (λ x j. elim (cases_Bool (x.id == i)) [
    | inr f ↦ ap (λ b. b && p x.kind) f
    | inl t ↦ ap₂ (λ a b. a && b) t (ap (λ (z : OwnedQuant). p z.kind) (sym (r-alone x j t)) ∙ ap p e.is_s ∙ h)
  ])

  -- ---- what it reads

  abbrev L : ℕ → ℕ → Bool
  L = loose bs

  read-same : (q : ℕ) → (i == q) ≡ false → read_by n q ≡ read_by o q
  read-same q f = ap₂ (λ a b. a || b) (any-heads i (wanted (sought.Row q)) (wanted (sought.Row q)) (row-same i q f) o.parts.head) (any-conds i (wanted (sought.Row q)) (wanted (sought.Row q)) (row-same i q f) o.parts.conds.items)

  under-same : (q : ℕ) → under_any n.quants L q ≡ under_any o.quants L q
  under-same q = any-behind (λ (x : OwnedQuant). L x.over q) us r s vs refl ∙ sym (ap (λ rs. under_any rs L q) e.split)

  found-same : (x q : ℕ) → quant_looks n L x q ≡ quant_looks o L x q
  found-same x q = looks-over (first (is_quant x) n.quants) (first (is_quant x) (us ++ r ∷ vs)) (over-behind r s refl refl x us vs absent-vs) L q ∙ sym (ap (λ rs. looks_found (first (is_quant x) rs) L q) e.split)

  looks-r : (q : ℕ) → quant_looks o L i q ≡ L r.over q
  looks-r q = ap (λ z. looks_found z L q) found-r

  under-r : (q : ℕ) → L r.over q ≡ true → (read_by o q || under_any o.quants L q) ≡ true
  under-r q t = or_right (read_by o q) (under_any o.quants L q) (any-from (λ (x : OwnedQuant). L x.over q) r o.quants in-r t)

  nothing-inner : (read_by o i || under_any o.quants L i) ≡ false
  nothing-inner = inner o L i o.quants no-row
      (sym (ap (λ k. loose_by k o L i) e.select) ∙ sym (ap (λ (l : ℕ → Bool). l i) (unfold-loose bs o w.ordered e.within)) ∙ w.settled o e.within i owned)

  abbrev looked-at : ℕ → ℕ → Bool
  looked-at q x = quant_looks o L x q

  abbrev ends-at : ℕ → Node → Bool
  ends-at q y = read_by y q || under_any y.quants L q

  looks-same : (q : ℕ) → loose_of n L q ≡ loose_of o L q
  looks-same q =
      ap (λ k. loose_by k n L q) e.select
      ∙ each-walk (looked-at q) q n L (λ x. found-same x q) n.quants ∙ walk-both (looked-at q) q (us ++ vs) (s ∷ []) (ends-at q n) ∙ ap (walk (looked-at q) q (us ++ vs)) last ∙ walk-both (looked-at q) q us vs (ends-at q o)
      ∙ sym (each-walk (looked-at q) q o L (λ x. refl) (us ++ r ∷ vs) ∙ walk-both (looked-at q) q us (r ∷ vs) (ends-at q o) ∙ ap (λ b. walk (looked-at q) q us (cond b (looked-at q r.id || (not (r.id == q) && walk (looked-at q) q vs (ends-at q o))) (walk (looked-at q) q vs (ends-at q o)))) not-row)
      ∙ sym (ap (λ rs. loose_each rs o L q) e.split) ∙ sym (ap (λ k. loose_by k o L q) e.select)
    where
      below : looked-at q i ≡ true → ends-at q o ≡ true
      below t = under-r q (sym (looks-r q) ∙ t)

      last : (looked-at q i || (not (i == q) && ends-at q n)) ≡ ends-at q o
      last = elim (cases_Bool (i == q)) [
        | inr f ↦ ap (λ (t : Bool). looked-at q i || (not t && ends-at q n)) f ∙ ap₂ (λ a b. looked-at q i || (a || b)) (read-same q f) (under-same q) ∙ absorbed (looked-at q i) (ends-at q o) below
        | inl t ↦ (
            let none : ends-at q o ≡ false = subst (λ z. (read_by o z || under_any o.quants L z) ≡ false) (eqb-true i q t) nothing-inner in
            let no : looked-at q i ≡ false = (elim (cases_Bool (looked-at q i)) [ inr f ↦ f | inl y ↦ absurd (clash (ends-at q o) (below y) none) ]) in
            ap₂ (λ (a b : Bool). a || (not b && ends-at q n)) no t ∙ sym none)
      ]

  -- ---- types, columns, shape

  types-o : (list_all (λ x. is_known (term_type (lookup_of bs) x)) o.parts.head ≡ true) × (list_all (cond_fits (lookup_of bs)) o.parts.conds.items ≡ true)
  types-o =
      let a = and_parts (list_all (λ x. is_known (term_type (lookup_of bs) x)) o.parts.head) (list_all (cond_fits (lookup_of bs)) o.parts.conds.items && arms_agree (types_of bs) o.parts.kind o.quants) (ty o e.within) in
      (a.0, (and_parts (list_all (cond_fits (lookup_of bs)) o.parts.conds.items) (arms_agree (types_of bs) o.parts.kind o.quants) a.1).0)

  types-n : types_agree bs n ≡ true
  types-n = and_from (list_all (λ x. is_known (term_type (lookup_of bs) x)) n.parts.head) (list_all (cond_fits (lookup_of bs)) n.parts.conds.items && arms_agree (types_of bs) o.parts.kind n.quants)
      (known-columns i (lookup_of bs) o.parts.head ∙ types-o.0)
      (and_from (list_all (cond_fits (lookup_of bs)) n.parts.conds.items) (arms_agree (types_of bs) o.parts.kind n.quants)
      (fit-columns i (lookup_of bs) o.parts.conds.items ∙ types-o.1) (ap (λ k. arms_agree (types_of bs) k n.quants) e.select))

  -- the box under r has a column
  one-there : fits 1 (box_under bs i) ≡ true
  one-there =
      let z = has-in r.over bs (overs-held bs o r w.ordered e.within in-r) in
      let wide : nat_lt 0 (width z.0) ≡ true = scalar-column bs root ty sh o z.0 r e.within in-r (ap is_S e.is_s) z.1.0 z.1.1 in
      ap (fits 1) (under-is bs w.ordered w.once o r z.0 e.within in-r z.1.0 z.1.1)
      ∙ and_from (nat_lt 0 1) (nat_le 1 (width z.0)) refl (le-leb 1 (width z.0) (let l = ltb-true 0 (width z.0) wide in omega arith))

  columns-n : columns_fit bs n ≡ true
  columns-n =
      let p : Column → Bool = λ (c : Column). fits c.place (box_under bs c.quant) in
      let a = and_parts (places_fit o.parts.kind) (list_all p (columns_of o)) (sh.columns o e.within) in
      let b = and_parts (list_all p (flat_map columns_in o.parts.head)) (list_all p (flat_map columns_in_cond o.parts.conds.items)) (sym (all-both p (flat_map columns_in o.parts.head) (flat_map columns_in_cond o.parts.conds.items)) ∙ a.1) in
      and_from (places_fit o.parts.kind) (list_all p (columns_of n)) a.0
      (all-both p (flat_map columns_in n.parts.head) (flat_map columns_in_cond n.parts.conds.items)
      ∙ and_from (list_all p (flat_map columns_in n.parts.head)) (list_all p (flat_map columns_in_cond n.parts.conds.items))
      (flat-heads p columns_in columns_in (as_column i) (λ x h. all-columns i p one-there x h) o.parts.head b.0)
      (flat-conds p columns_in_cond columns_in_cond (as_column_cond i) (λ x h. all-columns-cond i p one-there x h) o.parts.conds.items b.1))

  unfolded-n : is_unfolded n ≡ true
  unfolded-n =
      let a : kind_fits root bs o Select ≡ true = subst (λ k. kind_fits root bs o k ≡ true) e.select shape-o.kind in
      let b = and_parts (is_unfolded o) (role_fits root bs o o.parts.role) a in
      ap₂ (λ a b. not a && not b) (any-heads i (wanted sought.Aggregate) (wanted sought.Aggregate) (aggregate-same i) o.parts.head) (any-conds i (wanted sought.Aggregate) (wanted sought.Aggregate) (aggregate-same i) o.parts.conds.items) ∙ b.0

  abbrev pub binders : Node → Bool
  binders y = list_any (binds i) y.parts.head || list_any (binds_cond i) y.parts.conds.items

  -- which nodes of r could be beside its scalars
  pub no-binds : binders o ≡ false
  no-binds = elim (cases_Bool (binders o)) [
    | inr f ↦ f
    | inl t ↦ absurd (
        let x = any-in (binder i) (nodes_of o) (binders-listed i o ∙ t) in
        by x.0 (all-in (node_fits o.quants) x.0 (nodes_of o) shape-o.nodes x.1.0) x.1.1)
  ]
    where
      by : (x : QuantNode) → node_fits o.quants x ≡ true → binder i x ≡ true → ⊥
      by (node.Scalar q) f h = let z : ⊥ = cc in z
      by (node.Some q) f h = clash (is_among is_E i o.quants) (subst (λ z. is_among is_E z o.quants ≡ true) (eqb-true q i h) f) (not-among is_E refl)
      by (node.Every q) f h = clash (is_among is_A i o.quants) (subst (λ z. is_among is_A z o.quants ≡ true) (eqb-true q i h) f) (not-among is_A refl)

  no-node : graph.nodes_in i n ≡ false
  no-node = ap₂ (λ a b. a || b) (any-heads i (wanted (sought.NodeOf i)) (binding (λ r. r == i)) (node-same i) o.parts.head) (any-conds i (wanted (sought.NodeOf i)) (binding (λ r. r == i)) (node-same i) o.parts.conds.items) ∙ no-binds

  among-same : (p : QuantKind → Bool) (q : ℕ) → (i == q) ≡ false → is_among p q o.quants ≡ true → is_among p q n.quants ≡ true
  among-same p q f h = any-behind (λ (x : OwnedQuant). is_quant q x && p x.kind) us r s vs (ap (λ b. b && p F) f ∙ sym (ap (λ b. b && p r.kind) f)) ∙ sym (ap (λ rs. is_among p q rs) e.split) ∙ h

  nodes-n : list_all (node_fits n.quants) (nodes_of n) ≡ true
  nodes-n =
      let p : QuantNode → Bool = node_fits o.quants in
      let b = and_parts (list_all p (flat_map nodes_in o.parts.head)) (list_all p (flat_map nodes_in_cond o.parts.conds.items)) (sym (all-both p (flat_map nodes_in o.parts.head) (flat_map nodes_in_cond o.parts.conds.items)) ∙ shape-o.nodes) in
      let all : list_all p (nodes_of n) ≡ true =
      all-both p (flat_map nodes_in n.parts.head) (flat_map nodes_in_cond n.parts.conds.items)
      ∙ and_from (list_all p (flat_map nodes_in n.parts.head)) (list_all p (flat_map nodes_in_cond n.parts.conds.items))
      (flat-heads p nodes_in nodes_in (as_column i) (λ x h. all-nodes i p x h) o.parts.head b.0)
      (flat-conds p nodes_in_cond nodes_in_cond (as_column_cond i) (λ x h. all-nodes-cond i p x h) o.parts.conds.items b.1) in
      all-from (node_fits n.quants) (nodes_of n) (λ x j. by x (all-in p x (nodes_of n) all j) (any-none (is_of i) x (nodes_of n) (nodes-listed i n ∙ no-node) j))
    where
      by : (x : QuantNode) → node_fits o.quants x ≡ true → is_of i x ≡ false → node_fits n.quants x ≡ true
      by (node.Scalar q) h f = among-same is_S q (eq-false-sym q i f) h
      by (node.Some q) h f = among-same is_E q (eq-false-sym q i f) h
      by (node.Every q) h f = among-same is_A q (eq-false-sym q i f) h

  placed-n : columns_placed n ≡ true
  placed-n = all-from (λ (x : OwnedQuant). is_F x.kind || not (looks_up x.id n)) n.quants (λ x j. elim (in-behind x us r s vs j) [
    | inr k ↦ subst (λ (z : OwnedQuant). (is_F z.kind || not (looks_up z.id n)) ≡ true) k refl
    | inl k ↦ (
        let h = all-in (λ (x : OwnedQuant). is_F x.kind || not (looks_up x.id o)) x o.quants shape-o.placed (subst (λ z. In x z) (sym e.split) (in-beside x us r vs k)) in
        ap (λ z. is_F x.kind || not z) (read-same x.id (eq-false-sym x.id i (apart x k))) ∙ h)
  ])

  wide-n : width n ≡ width o
  wide-n = ap (width_by o.parts.kind) (length-map (as_column i) o.parts.head)

  shape-n : shape_fits root bs n ≡ true
  shape-n = shape-from root bs n (record {
    kind = subst (λ k. kind_fits root bs n k ≡ true) (sym e.select) (and_from (is_unfolded n) (role_fits root bs n o.parts.role) unfolded-n (subst (λ k. role_fits root bs n k ≡ true) (sym e.plain) refl));
    nodes = nodes-n;
    placed = placed-n;
    scalar = λ t. ap (nat_lt 0) wide-n ∙ shape-o.scalar t;
  })

  was-n : (x : OwnedQuant) → In x n.quants → (y : OwnedQuant) × (In y o.quants × ((y.id ≡ x.id) × (y.over ≡ x.over)))
  was-n x j = elim (in-behind x us r s vs j) [
    | inl k ↦ (x, (subst (λ z. In x z) (sym e.split) (in-beside x us r vs k), (refl, refl)))
    | inr k ↦ (r, (in-r, (ap (λ (z : OwnedQuant). z.id) k, ap (λ (z : OwnedQuant). z.over) k)))
  ]

  pub puts : PutsBox bs root o (column_box us r vs)
  puts = record {
    within = e.within;
    id = λ y. refl;
    select = e.select;
    ids = λ q. times-behind (λ (x : OwnedQuant). x.id) q us r s vs refl ∙ sym (ap (λ rs. times q (map (λ (x : OwnedQuant). x.id) rs)) e.split);
    overs = λ b. times-behind (λ (x : OwnedQuant). x.over) b us r s vs refl ∙ sym (ap (λ rs. times b (map (λ (x : OwnedQuant). x.over) rs)) e.split);
    was = was-n;
    looks = looks-same;
    wide = wide-n;
    stay = subst (λ k. types_by (lookup_of bs) k n.parts.head ≡ types_by (lookup_of bs) k o.parts.head) (sym e.select) (typed-columns i (lookup_of bs) o.parts.head);
    magic = refl;
    types = types-n;
    columns = columns-n;
    shape = shape-n;
    scalars = λ z x j t k v. elim (in-behind x us r s vs j) [
      | inl a ↦ scalar-column bs root ty sh o z x e.within (subst (λ rs. In x rs) (sym e.split) (in-beside x us r vs a)) t k v
      | inr a ↦ absurd (clash (is_S x.kind) t (ap (λ (z : OwnedQuant). is_S z.kind) (sym a)))
    ];
    unseen = λ z x j t k v. elim (in-behind x us r s vs j) [
      | inl a ↦ counted-seen bs root ty sh o z x e.within (subst (λ rs. In x rs) (sym e.split) (in-beside x us r vs a)) t k v
      | inr a ↦ counted-seen bs root ty sh o z r e.within in-r (ap is_F_or_S e.is_s) k (v ∙ ap (λ (z : OwnedQuant). z.over) (sym a))
    ];
    permit = λ t. sh.unseen o e.within t;
  }
