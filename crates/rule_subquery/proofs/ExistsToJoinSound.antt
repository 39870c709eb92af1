-- U1: the box that joins may stand in the place of the box with EXISTS.
use Rattle.std.proofs.Common.{ℕ, ◌==◌, ◌≡◌, ◌&&◌, ◌||◌, ◌≤◌, not, cond, Bool, true, false, List, [], ◌∷◌, ◌++◌, map, Some, refl, sym, ap, ap₂, subst, ◌∙◌, eqb-true, ◌⊎◌, inl, inr, arith}
use Rattle.std.specs.List.{flat_map, list_all, list_any}
use Rattle.std.proofs.lemmas.Bool.{and_from, and_parts, cases_Bool, or_from, or_left, or_right}
use Rattle.qgm_terms.specs.Named.{columns_in, columns_in_cond, nodes_in, nodes_in_cond}
use Rattle.qgm_terms.specs.Terms.{Cond, and, some}
use Rattle.qgm_terms.specs.Wanted.{has_aggregate, has_aggregate_cond, reads, reads_cond}
use Rattle.qgm_terms.specs.declared.named.Column.{Column}
use Rattle.qgm_terms.specs.declared.named.QuantNode.{QuantNode}
use Rattle.qgm_terms.specs.declared.named.QuantNode.TheVariants as node
use Rattle.qgm_core.specs.Boxes.{ids_of, is_quant, owns}
use Rattle.qgm_core.specs.Kinds.{is_A, is_E, is_F, is_S, is_permit}
use Rattle.list_laws.specs.Lists.{In, first, times}
use Rattle.qgm_core.specs.declared.kinds.BoxKind.TheVariants.{Select}
use Rattle.qgm_core.specs.declared.kinds.Distinct.{Distinct}
use Rattle.qgm_core.specs.declared.kinds.QuantKind.{QuantKind}
use Rattle.qgm_core.specs.declared.kinds.QuantKind.TheVariants.{F}
use Rattle.qgm_core.specs.declared.node.Node.{Node}
use Rattle.qgm_core.specs.declared.owned.OwnedQuant.{OwnedQuant}
use Rattle.qgm_wellformed.specs.Columns.{columns_fit, columns_of, fits, box_under, places_fit}
use Rattle.qgm_wellformed.specs.Shapes.{is_among, is_unfolded, kind_fits, looks_up, node_fits, nodes_of, role_fits, shape_fits, columns_placed}
use Rattle.qgm_wellformed.specs.Types.{arms_agree, cond_fits, is_known, lookup_of, term_type, types_agree, types_of}
use Rattle.qgm_meaning.specs.Rules.{as_F}
use Rattle.qgm_meaning.specs.Scope.{looks_found, loose, loose_by, loose_each, loose_of, quant_looks, read_by, under_any}
use Rattle.qgm_meaning.specs.Searches.{names, names_cond}
use Rattle.qgm_meaning.proofs.ExistsJoined.{inner}
use Rattle.qgm_edit_laws.specs.Graph.{Sound}
use Rattle.qgm_edit_laws.specs.Shaped.{Shaped, Typed}
use Rattle.qgm_edit_laws.proofs.BoxForms.{counted-seen, scalar-column}
use Rattle.qgm_edit_laws.proofs.Edits.{split-once}
use Rattle.qgm_edit_laws.proofs.Read.{any-both, is_of, nodes-listed}
use Rattle.qgm_edit_laws.proofs.Scope.{unfold-loose}
use Rattle.qgm_edit_laws.proofs.ShapeParts.{ShapeParts, shape-from, shape-parts}
use Rattle.qgm_edit_laws.proofs.Turns.{first-own}
use Rattle.qgm_edit_laws.specs.ConjunctsOf.{conjuncts}
use Rattle.qgm_edit_laws.specs.PutsBox.{PutsBox}
use Rattle.qgm_edit_laws.proofs.MovedLast.{absorbed, any-behind, each-walk, in-behind, in-beside, looks-over, over-behind, times-behind, walk, walk-both}
use Rattle.qgm_edit_laws.proofs.ConjunctsOf.{all-both, all-conjuncts, any-conjuncts, flat-both, flat-conjuncts}
use Rattle.qgm_edit_laws.specs.Graph as graph
use Rattle.rule_subquery.specs.ExistsToJoin.{joined_box, HasExists}
use Rattle.list_laws.proofs.Membership.{all-from, all-in, any-from, any-none, any-not, eq-false-sym, eq-itself, in-right}
use Rattle.list_laws.proofs.Booleans.{clash}
use Rattle.list_laws.proofs.Counting.{times-in}

-- o, a box of bs, has the E quantifier r between us and vs, whose one node is the whole conjunct between xs and ys; the box under r isn't PERMIT
pub record Existing (bs : List Node) (o : Node) (us : List OwnedQuant) (r : OwnedQuant) (vs : List OwnedQuant) (xs : List Cond) (c : Cond) (ys : List Cond) : Type 0 where
  pub within : In o bs
  pub is : HasExists o us r vs xs c ys
  pub seen : (z : Node) → In z bs → z.id ≡ r.over → is_permit z.parts.distinct ≡ false

-- ---- conditions, with a conjunct opened

module _ (i : ℕ) (xs : List Cond) (c : Cond) (ys : List Cond) where
  abbrev opened : List Cond
  opened = xs ++ (conjuncts c ++ ys)

  abbrev closed : List Cond
  closed = xs ++ some i c ∷ ys

  any-opened : (p : Cond → Bool) → ((a b : Cond) → p (and a b) ≡ (p a || p b)) → p (some i c) ≡ p c → list_any p opened ≡ list_any p closed
  any-opened p h k =
      any-both p xs (conjuncts c ++ ys) ∙ ap (λ z. list_any p xs || z) (any-both p (conjuncts c) ys ∙ ap (λ z. z || list_any p ys) (any-conjuncts p h c ∙ sym k))
      ∙ sym (any-both p xs (some i c ∷ ys))

  all-opened : (p : Cond → Bool) → ((a b : Cond) → p (and a b) ≡ (p a && p b)) → p (some i c) ≡ p c → list_all p opened ≡ list_all p closed
  all-opened p h k =
      all-both p xs (conjuncts c ++ ys) ∙ ap (λ z. list_all p xs && z) (all-both p (conjuncts c) ys ∙ ap (λ z. z && list_all p ys) (all-conjuncts p h c ∙ sym k))
      ∙ sym (all-both p xs (some i c ∷ ys))

  flat-opened : {X : Type 0} (f : Cond → List X) → ((a b : Cond) → f (and a b) ≡ f a ++ f b) → f (some i c) ≡ f c → flat_map f opened ≡ flat_map f closed
  flat-opened f h k =
      flat-both f xs (conjuncts c ++ ys) ∙ ap (λ z. flat_map f xs ++ z) (flat-both f (conjuncts c) ys ∙ ap (λ z. z ++ flat_map f ys) (flat-conjuncts f h c ∙ sym k))
      ∙ sym (flat-both f xs (some i c ∷ ys))

  -- what is said of all of a list of nodes but one
  nodes-opened : flat_map nodes_in_cond opened ≡ flat_map nodes_in_cond xs ++ (nodes_in_cond c ++ flat_map nodes_in_cond ys)
  nodes-opened = flat-both nodes_in_cond xs (conjuncts c ++ ys) ∙ ap (λ z. flat_map nodes_in_cond xs ++ z) (flat-both nodes_in_cond (conjuncts c) ys ∙ ap (λ z. z ++ flat_map nodes_in_cond ys) (flat-conjuncts nodes_in_cond (λ a b. refl) c))

  nodes-closed : flat_map nodes_in_cond closed ≡ flat_map nodes_in_cond xs ++ (node.Some i ∷ (nodes_in_cond c ++ flat_map nodes_in_cond ys))
  nodes-closed = flat-both nodes_in_cond xs (some i c ∷ ys)

  nodes-less : (p : QuantNode → Bool) → list_all p (flat_map nodes_in_cond closed) ≡ true → list_all p (flat_map nodes_in_cond opened) ≡ true
  nodes-less p h =
      let a = and_parts (list_all p (flat_map nodes_in_cond xs)) (list_all p (node.Some i ∷ (nodes_in_cond c ++ flat_map nodes_in_cond ys)))
      (sym (all-both p (flat_map nodes_in_cond xs) (node.Some i ∷ (nodes_in_cond c ++ flat_map nodes_in_cond ys))) ∙ ap (list_all p) (sym nodes-closed) ∙ h) in
      let b = and_parts (p (node.Some i)) (list_all p (nodes_in_cond c ++ flat_map nodes_in_cond ys)) a.1 in
      ap (list_all p) nodes-opened ∙ all-both p (flat_map nodes_in_cond xs) (nodes_in_cond c ++ flat_map nodes_in_cond ys)
      ∙ and_from (list_all p (flat_map nodes_in_cond xs)) (list_all p (nodes_in_cond c ++ flat_map nodes_in_cond ys)) a.0 b.1

-- ---- the box before

module _ (bs : List Node) (root : ℕ) (w : Sound bs root) (o : Node) (us : List OwnedQuant) (r : OwnedQuant) (vs : List OwnedQuant) (xs : List Cond) (c : Cond) (ys : List Cond) (e : Existing bs o us r vs xs c ys) where
  pub in-r : In r o.quants
  in-r = subst (λ z. In r z) (sym e.is.split) (in-right r us (r ∷ vs) (inl refl))

  pub owned : owns r.id o ≡ true
  owned = any-from (is_quant r.id) r o.quants in-r (eq-itself r.id)

  pub few : times r.id (map (λ (x : OwnedQuant). x.id) (us ++ r ∷ vs)) ≤ 1
  few = subst (λ z. times r.id (map (λ (x : OwnedQuant). x.id) z) ≤ 1) e.is.split (let a = times-in ids_of r.id o bs e.within in let b = w.once r.id in omega arith)

  pub apart : (x : OwnedQuant) → In x us ⊎ In x vs → (x.id == r.id) ≡ false
  apart x j = split-once (λ (x : OwnedQuant). x.id) us r vs few x j

  pub absent-us : list_any (is_quant r.id) us ≡ false
  absent-us = any-not (is_quant r.id) us (λ x j. apart x (inl j))

  pub absent-vs : list_any (is_quant r.id) vs ≡ false
  absent-vs = any-not (is_quant r.id) vs (λ x j. apart x (inr j))

  pub found-r : first (is_quant r.id) o.quants ≡ Some r
  found-r = first-own r o.quants (subst (λ z. times r.id (map (λ (x : OwnedQuant). x.id) z) ≤ 1) (sym e.is.split) few) in-r

  pub not-row : is_F r.kind ≡ false
  not-row = ap is_F e.is.is_e

  node-there : graph.nodes_in r.id o ≡ true
  node-there = or_right (list_any (names r.id) o.parts.head) (list_any (names_cond r.id) o.parts.conds.items)
      (ap (list_any (names_cond r.id)) e.is.conds ∙ any-from (names_cond r.id) (some r.id c) (xs ++ some r.id c ∷ ys) (in-right (some r.id c) xs (some r.id c ∷ ys) (inl refl)) (or_left (r.id == r.id) (true && names_cond r.id c) (eq-itself r.id)))

  pub nothing-inner : (read_by o r.id || under_any o.quants (loose bs) r.id) ≡ false
  nothing-inner = inner o (loose bs) r.id o.quants (w.own_nodes o e.within r.id node-there).1
      (sym (ap (λ k. loose_by k o (loose bs) r.id) e.is.select) ∙ sym (ap (λ (l : ℕ → Bool). l r.id) (unfold-loose bs o w.ordered e.within)) ∙ w.settled o e.within r.id owned)

-- ---- the box

module _ (bs : List Node) (root : ℕ) (w : Sound bs root) (ty : Typed bs) (sh : Shaped bs root) (o : Node) (us : List OwnedQuant) (r : OwnedQuant) (vs : List OwnedQuant) (xs : List Cond) (c : Cond) (ys : List Cond)
    (d : Distinct) (e : Existing bs o us r vs xs c ys) (may : is_permit d ≡ true → is_permit o.parts.distinct ≡ true) where
  abbrev pub i : ℕ
  i = r.id

  abbrev pub turn : Node → Node
  turn = joined_box d us r vs xs c ys

  abbrev pub n : Node
  n = turn o

  abbrev pub s : OwnedQuant
  s = as_F i r.over

  -- ---- what it reads

  read-same : (q : ℕ) → (i == q) ≡ false → read_by n q ≡ read_by o q
  read-same q f =
      ap (λ z. list_any (reads q) o.parts.head || z)
      (any-opened i xs c ys (reads_cond q) (λ a b. refl) (ap (λ (t : Bool). not t && reads_cond q c) f) ∙ sym (ap (list_any (reads_cond q)) e.is.conds))

  under-same : (L : ℕ → ℕ → Bool) (q : ℕ) → under_any n.quants L q ≡ under_any o.quants L q
  under-same L q = any-behind (λ (x : OwnedQuant). L x.over q) us r s vs refl ∙ sym (ap (λ rs. under_any rs L q) e.is.split)

  found-same : (L : ℕ → ℕ → Bool) (x q : ℕ) → quant_looks n L x q ≡ quant_looks o L x q
  found-same L x q = looks-over (first (is_quant x) n.quants) (first (is_quant x) (us ++ r ∷ vs)) (over-behind r s refl refl x us vs (absent-vs bs root w o us r vs xs c ys e)) L q ∙ sym (ap (λ rs. looks_found (first (is_quant x) rs) L q) e.is.split)

  abbrev L : ℕ → ℕ → Bool
  L = loose bs

  looks-r : (q : ℕ) → quant_looks o L i q ≡ L r.over q
  looks-r q = ap (λ z. looks_found z L q) (found-r bs root w o us r vs xs c ys e)

  under-r : (q : ℕ) → L r.over q ≡ true → (read_by o q || under_any o.quants L q) ≡ true
  under-r q t = or_right (read_by o q) (under_any o.quants L q) (any-from (λ (x : OwnedQuant). L x.over q) r o.quants (in-r bs root w o us r vs xs c ys e) t)

  abbrev looked-at : ℕ → ℕ → Bool
  looked-at q x = quant_looks o L x q

  abbrev ends-at : ℕ → Node → Bool
  ends-at q y = read_by y q || under_any y.quants L q

  looks-same : (q : ℕ) → loose_of n L q ≡ loose_of o L q
  looks-same q =
      ap (λ k. loose_by k n L q) e.is.select
      ∙ each-walk (looked-at q) q n L (λ x. found-same L x q) n.quants ∙ walk-both (looked-at q) q (us ++ vs) (s ∷ []) (ends-at q n) ∙ ap (walk (looked-at q) q (us ++ vs)) last ∙ walk-both (looked-at q) q us vs (ends-at q o)
      ∙ sym (each-walk (looked-at q) q o L (λ x. refl) (us ++ r ∷ vs) ∙ walk-both (looked-at q) q us (r ∷ vs) (ends-at q o) ∙ ap (λ b. walk (looked-at q) q us (cond b (looked-at q r.id || (not (r.id == q) && walk (looked-at q) q vs (ends-at q o))) (walk (looked-at q) q vs (ends-at q o)))) (not-row bs root w o us r vs xs c ys e))
      ∙ sym (ap (λ rs. loose_each rs o L q) e.is.split) ∙ sym (ap (λ k. loose_by k o L q) e.is.select)
    where
      below : looked-at q i ≡ true → ends-at q o ≡ true
      below t = under-r q (sym (looks-r q) ∙ t)

      last : (looked-at q i || (not (i == q) && ends-at q n)) ≡ ends-at q o
      last = elim (cases_Bool (i == q)) [
        | inr f ↦ ap (λ (t : Bool). looked-at q i || (not t && ends-at q n)) f ∙ ap₂ (λ a b. looked-at q i || (a || b)) (read-same q f) (under-same L q) ∙ absorbed (looked-at q i) (ends-at q o) below
        | inl t ↦ (
            let none : ends-at q o ≡ false = subst (λ z. (read_by o z || under_any o.quants L z) ≡ false) (eqb-true i q t) (nothing-inner bs root w o us r vs xs c ys e) in
            let no : looked-at q i ≡ false = (elim (cases_Bool (looked-at q i)) [ inr f ↦ f | inl y ↦ absurd (clash (ends-at q o) (below y) none) ]) in
            ap₂ (λ (a b : Bool). a || (not b && ends-at q n)) no t ∙ sym none)
      ]

  -- ---- its types, columns and shape

  pub types-o : (list_all (λ x. is_known (term_type (lookup_of bs) x)) o.parts.head ≡ true) × (list_all (cond_fits (lookup_of bs)) o.parts.conds.items ≡ true)
  types-o =
      let a = and_parts (list_all (λ x. is_known (term_type (lookup_of bs) x)) o.parts.head) (list_all (cond_fits (lookup_of bs)) o.parts.conds.items && arms_agree (types_of bs) o.parts.kind o.quants) (ty o e.within) in
      (a.0, (and_parts (list_all (cond_fits (lookup_of bs)) o.parts.conds.items) (arms_agree (types_of bs) o.parts.kind o.quants) a.1).0)

  types-n : types_agree bs n ≡ true
  types-n = and_from (list_all (λ x. is_known (term_type (lookup_of bs) x)) o.parts.head) (list_all (cond_fits (lookup_of bs)) n.parts.conds.items && arms_agree (types_of bs) o.parts.kind n.quants) types-o.0
      (and_from (list_all (cond_fits (lookup_of bs)) n.parts.conds.items) (arms_agree (types_of bs) o.parts.kind n.quants)
      (all-opened i xs c ys (cond_fits (lookup_of bs)) (λ a b. refl) refl ∙ sym (ap (list_all (cond_fits (lookup_of bs))) e.is.conds) ∙ types-o.1)
      (ap (λ k. arms_agree (types_of bs) k n.quants) e.is.select))

  columns-same : columns_of n ≡ columns_of o
  columns-same = ap (λ z. flat_map columns_in o.parts.head ++ z) (flat-opened i xs c ys columns_in_cond (λ a b. refl) refl ∙ sym (ap (flat_map columns_in_cond) e.is.conds))

  columns-n : columns_fit bs n ≡ true
  columns-n = ap (λ z. places_fit o.parts.kind && list_all (λ (c : Column). fits c.place (box_under bs c.quant)) z) columns-same ∙ sh.columns o e.within

  shape-o : ShapeParts root bs o
  shape-o = shape-parts root bs o (sh.shapes o e.within)

  unfolded-n : is_unfolded n ≡ true
  unfolded-n =
      let a : kind_fits root bs o Select ≡ true = subst (λ k. kind_fits root bs o k ≡ true) e.is.select shape-o.kind in
      let b = and_parts (is_unfolded o) (role_fits root bs o o.parts.role) a in
      ap (λ z. not (list_any has_aggregate o.parts.head) && not z) (any-opened i xs c ys has_aggregate_cond (λ a b. refl) refl ∙ sym (ap (list_any has_aggregate_cond) e.is.conds)) ∙ b.0

  no-node : graph.nodes_in i n ≡ false
  no-node = or_from (list_any (names i) o.parts.head) (list_any (names_cond i) n.parts.conds.items) e.is.in_head
      (any-both (names_cond i) xs (conjuncts c ++ ys) ∙ or_from (list_any (names_cond i) xs) (list_any (names_cond i) (conjuncts c ++ ys)) e.is.in_before
      (any-both (names_cond i) (conjuncts c) ys ∙ or_from (list_any (names_cond i) (conjuncts c)) (list_any (names_cond i) ys) (any-conjuncts (names_cond i) (λ a b. refl) c ∙ e.is.in_cond) e.is.in_behind))

  among-same : (p : QuantKind → Bool) (q : ℕ) → (i == q) ≡ false → is_among p q o.quants ≡ true → is_among p q n.quants ≡ true
  among-same p q f h = any-behind (λ (x : OwnedQuant). is_quant q x && p x.kind) us r s vs (ap (λ b. b && p F) f ∙ sym (ap (λ b. b && p r.kind) f)) ∙ sym (ap (λ rs. is_among p q rs) e.is.split) ∙ h

  nodes-n : list_all (node_fits n.quants) (nodes_of n) ≡ true
  nodes-n =
      let old = and_parts (list_all (node_fits o.quants) (flat_map nodes_in o.parts.head)) (list_all (node_fits o.quants) (flat_map nodes_in_cond o.parts.conds.items))
      (sym (all-both (node_fits o.quants) (flat_map nodes_in o.parts.head) (flat_map nodes_in_cond o.parts.conds.items)) ∙ shape-o.nodes) in
      let less = nodes-less i xs c ys (node_fits o.quants) (ap (λ z. list_all (node_fits o.quants) (flat_map nodes_in_cond z)) (sym e.is.conds) ∙ old.1) in
      let all : list_all (node_fits o.quants) (nodes_of n) ≡ true =
      all-both (node_fits o.quants) (flat_map nodes_in o.parts.head) (flat_map nodes_in_cond n.parts.conds.items)
      ∙ and_from (list_all (node_fits o.quants) (flat_map nodes_in o.parts.head)) (list_all (node_fits o.quants) (flat_map nodes_in_cond n.parts.conds.items)) old.0 less in
      all-from (node_fits n.quants) (nodes_of n) (λ x j. by x (all-in (node_fits o.quants) x (nodes_of n) all j) (any-none (is_of i) x (nodes_of n) (nodes-listed i n ∙ no-node) j))
    where
      by : (x : QuantNode) → node_fits o.quants x ≡ true → is_of i x ≡ false → node_fits n.quants x ≡ true
      by (node.Scalar q) h f = among-same is_S q (eq-false-sym q i f) h
      by (node.Some q) h f = among-same is_E q (eq-false-sym q i f) h
      by (node.Every q) h f = among-same is_A q (eq-false-sym q i f) h

  placed-n : columns_placed n ≡ true
  placed-n = all-from (λ (x : OwnedQuant). is_F x.kind || not (looks_up x.id n)) n.quants (λ x j. elim (in-behind x us r s vs j) [
    | inr k ↦ subst (λ (z : OwnedQuant). (is_F z.kind || not (looks_up z.id n)) ≡ true) k refl
    | inl k ↦ (
        let h = all-in (λ (x : OwnedQuant). is_F x.kind || not (looks_up x.id o)) x o.quants shape-o.placed (subst (λ z. In x z) (sym e.is.split) (in-beside x us r vs k)) in
        ap (λ z. is_F x.kind || not z) (read-same x.id (eq-false-sym x.id i ((apart bs root w o us r vs xs c ys e) x k))) ∙ h)
  ])

  shape-n : shape_fits root bs n ≡ true
  shape-n = shape-from root bs n (record {
    kind = subst (λ k. kind_fits root bs n k ≡ true) (sym e.is.select) (and_from (is_unfolded n) (role_fits root bs n o.parts.role) unfolded-n (subst (λ k. role_fits root bs n k ≡ true) (sym e.is.plain) refl));
    nodes = nodes-n;
    placed = placed-n;
    scalar = shape-o.scalar;
  })

  was-n : (x : OwnedQuant) → In x n.quants → (y : OwnedQuant) × (In y o.quants × ((y.id ≡ x.id) × (y.over ≡ x.over)))
  was-n x j = elim (in-behind x us r s vs j) [
    | inl k ↦ (x, (subst (λ z. In x z) (sym e.is.split) (in-beside x us r vs k), (refl, refl)))
    | inr k ↦ (r, ((in-r bs root w o us r vs xs c ys e), (ap (λ (z : OwnedQuant). z.id) k, ap (λ (z : OwnedQuant). z.over) k)))
  ]

  pub puts : PutsBox bs root o turn
  puts = record {
    within = e.within;
    id = λ y. refl;
    select = e.is.select;
    ids = λ q. times-behind (λ (x : OwnedQuant). x.id) q us r s vs refl ∙ sym (ap (λ rs. times q (map (λ (x : OwnedQuant). x.id) rs)) e.is.split);
    overs = λ b. times-behind (λ (x : OwnedQuant). x.over) b us r s vs refl ∙ sym (ap (λ rs. times b (map (λ (x : OwnedQuant). x.over) rs)) e.is.split);
    was = was-n;
    looks = looks-same;
    wide = refl;
    stay = refl;
    magic = refl;
    types = types-n;
    columns = columns-n;
    shape = shape-n;
    scalars = λ z x j t k v. elim (in-behind x us r s vs j) [
      | inl a ↦ scalar-column bs root ty sh o z x e.within (subst (λ rs. In x rs) (sym e.is.split) (in-beside x us r vs a)) t k v
      | inr a ↦ absurd (clash (is_S x.kind) t (ap (λ (z : OwnedQuant). is_S z.kind) (sym a)))
    ];
    unseen = λ z x j t k v. elim (in-behind x us r s vs j) [
      | inl a ↦ counted-seen bs root ty sh o z x e.within (subst (λ rs. In x rs) (sym e.is.split) (in-beside x us r vs a)) t k v
      | inr a ↦ e.seen z k (v ∙ ap (λ (z : OwnedQuant). z.over) (sym a))
    ];
    permit = λ t. sh.unseen o e.within (may t);
  }
