-- The check finds nothing more where a conjunct goes from one select to another.
use Rattle.std.proofs.Common.{ℕ, ◌==◌, ◌≡◌, ◌&&◌, ◌||◌, not, Bool, true, false, List, [], ◌∷◌, ◌++◌, refl, sym, ap, ap₂, subst, ◌∙◌, eqb-true, inl, inr}
use Rattle.std.specs.List.{flat_map, list_all, list_any}
use Rattle.std.proofs.lemmas.Bool.{and_from, and_parts, cases_Bool, not-true, or_cases, or_from, or_left, or_parts, or_right}
use Rattle.qgm_core.specs.Kinds.{is_F, is_fed, is_preserve}
use Rattle.list_laws.specs.Lists.{In}
use Rattle.qgm_core.specs.declared.kinds.BoxKind.TheVariants.{Select}
use Rattle.qgm_core.specs.declared.kinds.Role.{Role}
use Rattle.qgm_core.specs.declared.kinds.Role.TheVariants.{Fed, Magic, Plain}
use Rattle.qgm_core.specs.declared.node.Node.{Node}
use Rattle.qgm_core.specs.declared.owned.OwnedQuant.{OwnedQuant}
use Rattle.qgm_terms.specs.Named.{nodes_in, nodes_in_cond}
use Rattle.qgm_terms.specs.Terms.{Cond}
use Rattle.qgm_terms.specs.Wanted.{any_in_cond, has_aggregate, has_aggregate_cond, reads, reads_cond, wanted}
use Rattle.qgm_terms.specs.declared.named.Column.{Column}
use Rattle.qgm_terms.specs.declared.named.QuantNode.{QuantNode}
use Rattle.qgm_terms.specs.declared.named.QuantNode.TheVariants as node
use Rattle.qgm_terms.specs.declared.sought.Sought.TheVariants as sought
use Rattle.qgm_wellformed.specs.Columns.{box_under, columns_fit, columns_of, fits, places_fit}
use Rattle.qgm_wellformed.specs.Shapes.{fed_by, is_none, is_unfolded, kind_fits, looks_up, node_fits, nodes_of, role_fits}
use Rattle.qgm_wellformed.specs.Types.{arms_agree, cond_fits, is_known, lookup_of, term_type, types_of}
use Rattle.qgm_meaning.specs.Searches.{names_cond}
use Rattle.qgm_edit_laws.specs.Graph.{Sound}
use Rattle.qgm_edit_laws.specs.Shaped.{Shaped, Typed}
use Rattle.qgm_edit_laws.proofs.AnyPut.{conds-more}
use Rattle.qgm_edit_laws.proofs.Edits.{any-append}
use Rattle.qgm_edit_laws.proofs.PartForms.{PartForm}
use Rattle.qgm_edit_laws.proofs.PlacedLists.{any-more, more-in}
use Rattle.qgm_edit_laws.proofs.Read.{any-both, at_all, at_cond, columns-found, is_at, is_of}
use Rattle.qgm_edit_laws.proofs.ShapeParts.{ShapeParts, shape-from, shape-parts}
use Rattle.qgm_edit_laws.proofs.CondTypes.{all-one, all-without}
use Rattle.list_laws.proofs.Membership.{all-from, all-in, any-from, any-in, eq-itself, in-append, in-flat, in-left, in-right}
use Rattle.list_laws.proofs.Booleans.{clash, or-false}

-- ---- lists

pub each-in : {X Y : Type 0} (f : X → List Y) (y : Y) (x : X) (xs : List X) → In x xs → In y (f x) → In y (flat_map f xs)
each-in f y x [] i j = elim i [ ]
each-in f y x (z ∷ xs) i j = elim i [ inl e ↦ in-left y (f z) (flat_map f xs) (subst (λ z. In y (f z)) (sym e) j) | inr k ↦ in-right y (f z) (flat_map f xs) (each-in f y x xs k j) ]

-- the quantifier of a node
pub node-of : (x : QuantNode) → (q : ℕ) × (is_of q x ≡ true)
node-of (node.Scalar r) = (r, eq-itself r)
node-of (node.Some r) = (r, eq-itself r)
node-of (node.Every r) = (r, eq-itself r)

-- a condition without scalars, somes and everys names none by them
pub names-none : (p : Cond) → any_in_cond (wanted sought.Node) p ≡ false → (x : ℕ) → names_cond x p ≡ false
names-none p free x = elim (cases_Bool (names_cond x p)) [
  | inr f ↦ f
  | inl t ↦ absurd (clash (list_any (any_in_cond (wanted sought.Node)) (p ∷ []))
      (conds-more (λ r k. false) (λ r k. false) (λ r. r == x) (λ r. true) (λ r. r == x) (λ r. true) (λ r. true) (λ r. true) (λ r k h. h) (λ r h. refl) (λ r h. refl) (λ r h. h) (p ∷ []) (or_left (names_cond x p) false t)) (ap (λ t. t || false) free))
]

-- box n with other conditions
abbrev pub put_items : List Cond → ℕ → Node → Node
put_items items k n = record n { parts = record n.parts { conds = record { items = items; spare = k } } }

module _ (bs : List Node) (root : ℕ) (w : Sound bs root) (t : Typed bs) (s : Shaped bs root) where
  -- a column that a box names is one of the box under its quantifier
  pub old-fits : (x k : ℕ) (y : Node) → In y bs → list_any (is_at x k) (columns_of y) ≡ true → fits k (box_under bs x) ≡ true
  old-fits x k y i h =
      let d = any-in (is_at x k) (columns_of y) h in
      let e = and_parts (d.0.quant == x) (d.0.place == k) d.1.1 in
      let f = and_parts (places_fit y.parts.kind) (list_all (λ (d : Column). fits d.place (box_under bs d.quant)) (columns_of y)) (s.columns y i) in
      ap₂ (λ k x. fits k (box_under bs x)) (sym (eqb-true d.0.place k e.1)) (sym (eqb-true d.0.quant x e.0)) ∙ all-in (λ (d : Column). fits d.place (box_under bs d.quant)) d.0 (columns_of y) f.1 d.1.0

  pub fits-by : (y n : Node) → In y bs → n.parts.kind ≡ y.parts.kind → ((x k : ℕ) → list_any (is_at x k) (columns_of n) ≡ true → fits k (box_under bs x) ≡ true) → columns_fit bs n ≡ true
  fits-by y n i e h = and_from (places_fit n.parts.kind) (list_all (λ (d : Column). fits d.place (box_under bs d.quant)) (columns_of n))
      (ap places_fit e ∙ (and_parts (places_fit y.parts.kind) (list_all (λ (d : Column). fits d.place (box_under bs d.quant)) (columns_of y)) (s.columns y i)).0)
      (all-from (λ (d : Column). fits d.place (box_under bs d.quant)) (columns_of n) (λ d j. h d.quant d.place (any-from (is_at d.quant d.place) d (columns_of n) j (and_from (d.quant == d.quant) (d.place == d.place) (eq-itself d.quant) (eq-itself d.place)))))

  pub old-conds : (y : Node) → In y bs → list_all (cond_fits (lookup_of bs)) y.parts.conds.items ≡ true
  old-conds y i =
      let a = and_parts (list_all (λ x. is_known (term_type (lookup_of bs) x)) y.parts.head) (list_all (cond_fits (lookup_of bs)) y.parts.conds.items && arms_agree (types_of bs) y.parts.kind y.quants) (t y i) in
      (and_parts (list_all (cond_fits (lookup_of bs)) y.parts.conds.items) (arms_agree (types_of bs) y.parts.kind y.quants) a.1).0

  pub old-cells : (y : Node) → In y bs → list_all (λ x. is_known (term_type (lookup_of bs) x)) y.parts.head ≡ true
  old-cells y i = (and_parts (list_all (λ x. is_known (term_type (lookup_of bs) x)) y.parts.head) (list_all (cond_fits (lookup_of bs)) y.parts.conds.items && arms_agree (types_of bs) y.parts.kind y.quants) (t y i)).0

  -- a select whose head stays, with other conditions
  module _ (y : Node) (i : In y bs) (select : y.parts.kind ≡ Select) (items : List Cond) (k : ℕ) where
    abbrev n : Node
    n = put_items items k y

    was : ShapeParts root bs y
    was = shape-parts root bs y (s.shapes y i)

    roles : (is_unfolded y ≡ true) × (role_fits root bs y y.parts.role ≡ true)
    roles = and_parts (is_unfolded y) (role_fits root bs y y.parts.role) (subst (λ k. kind_fits root bs y k ≡ true) select was.kind)

    pub unfolded-was : (list_any has_aggregate y.parts.head ≡ false) × (list_any has_aggregate_cond y.parts.conds.items ≡ false)
    unfolded-was = let a = and_parts (not (list_any has_aggregate y.parts.head)) (not (list_any has_aggregate_cond y.parts.conds.items)) roles.0 in (not-true (list_any has_aggregate y.parts.head) a.0, not-true (list_any has_aggregate_cond y.parts.conds.items) a.1)

    pub part-form : list_all (cond_fits (lookup_of bs)) items ≡ true → ((x k : ℕ) → list_any (at_cond x k) items ≡ true → fits k (box_under bs x) ≡ true)
        → list_any has_aggregate_cond items ≡ false → ((x : QuantNode) → In x (flat_map nodes_in_cond items) → node_fits y.quants x ≡ true)
        → ((r : OwnedQuant) → In r y.quants → is_F r.kind ≡ false → list_any (reads_cond r.id) items ≡ false)
        → (role_fits root bs y y.parts.role ≡ true → role_fits root bs n y.parts.role ≡ true) → PartForm bs root y n
    part-form conds columns unfolded nodes unread role = record {
      stay = refl;
      magic = refl;
      cells = old-cells y i;
      conds = conds;
      columns = fits-by y n i refl (λ x k h. elim (or_cases (list_any (at_all x k) y.parts.head) (list_any (at_cond x k) items) (sym (columns-found x k n) ∙ h)) [
        | inl a ↦ old-fits x k y i (columns-found x k y ∙ or_left (list_any (at_all x k) y.parts.head) (list_any (at_cond x k) y.parts.conds.items) a)
        | inr a ↦ columns x k a
      ]);
      shape = shape-from root bs n (record {
        kind = subst (λ k. kind_fits root bs n k ≡ true) (sym select) (and_from (is_unfolded n) (role_fits root bs n y.parts.role) (ap₂ (λ a b. not a && not b) unfolded-was.0 unfolded) (role roles.1));
        nodes = all-from (node_fits y.quants) (nodes_of n) (λ x j. elim (in-append x (flat_map nodes_in y.parts.head) (flat_map nodes_in_cond items) j) [
          | inl a ↦ all-in (node_fits y.quants) x (nodes_of y) was.nodes (in-left x (flat_map nodes_in y.parts.head) (flat_map nodes_in_cond y.parts.conds.items) a)
          | inr a ↦ nodes x a
        ]);
        placed = all-from (λ r. is_F r.kind || not (looks_up r.id n)) y.quants (λ r j. (
            let old = all-in (λ r. is_F r.kind || not (looks_up r.id y)) r y.quants was.placed j in
            elim (cases_Bool (is_F r.kind)) [
              | inl a ↦ or_left (is_F r.kind) (not (looks_up r.id n)) a
              | inr a ↦ or_right (is_F r.kind) (not (looks_up r.id n)) (elim (or_cases (is_F r.kind) (not (looks_up r.id y)) old) [
                | inl b ↦ absurd (clash (is_F r.kind) b a)
                | inr b ↦ ap not (or_from (list_any (reads r.id) y.parts.head) (list_any (reads_cond r.id) items) (or_parts (list_any (reads r.id) y.parts.head) (list_any (reads_cond r.id) y.parts.conds.items) (not-true (looks_up r.id y) b)).0 (unread r j a))
              ])
            ]));
        scalar = was.scalar;
      });
      permit = s.unseen y i;
    }

  -- a non-F quantifier of a box isn't read in its conditions
  pub unread-conds : (y : Node) → In y bs → (r : OwnedQuant) → In r y.quants → is_F r.kind ≡ false → looks_up r.id y ≡ false
  unread-conds y i r j a = elim (or_cases (is_F r.kind) (not (looks_up r.id y)) (all-in (λ r. is_F r.kind || not (looks_up r.id y)) r y.quants (shape-parts root bs y (s.shapes y i)).placed j)) [
    | inl b ↦ absurd (clash (is_F r.kind) b a)
    | inr b ↦ not-true (looks_up r.id y) b
  ]

  pub old-nodes : (y : Node) → In y bs → (x : QuantNode) → In x (flat_map nodes_in_cond y.parts.conds.items) → node_fits y.quants x ≡ true
  old-nodes y i x j = all-in (node_fits y.quants) x (nodes_of y) (shape-parts root bs y (s.shapes y i)).nodes (in-right x (flat_map nodes_in y.parts.head) (flat_map nodes_in_cond y.parts.conds.items) j)

  -- ---- a select without one of its conjuncts
  module _ (b : Node) (i : In b bs) (select : b.parts.kind ≡ Select) (ps : List Cond) (p : Cond) (qs : List Cond) (conds : b.parts.conds.items ≡ ps ++ p ∷ qs) (k : ℕ) where
    less-any : (P : Cond → Bool) → list_any P b.parts.conds.items ≡ false → list_any P (ps ++ qs) ≡ false
    less-any P h = (or_parts (P p) (list_any P (ps ++ qs)) (sym (any-more P ps p qs) ∙ ap (list_any P) (sym conds) ∙ h)).1

    more-any : (P : Cond → Bool) → list_any P (ps ++ qs) ≡ true → list_any P b.parts.conds.items ≡ true
    more-any P h = ap (list_any P) conds ∙ any-more P ps p qs ∙ or_right (P p) (list_any P (ps ++ qs)) h

    no-conds : is_none b.parts.conds.items ≡ true → ⊥
    no-conds h = by ps (ap is_none (sym conds) ∙ h)
      where
        by : (ps : List Cond) → is_none (ps ++ p ∷ qs) ≡ true → ⊥
        by [] e = let z : ⊥ = cc in z
        by (x ∷ ps) e = let z : ⊥ = cc in z

    role-less : (r : Role) → role_fits root bs b r ≡ true → role_fits root bs (put_items (ps ++ qs) k b) r ≡ true
    role-less Plain h = refl
    role-less Magic h = h
    role-less Fed h = absurd (no-conds (fed-none h))
      where
        fed-none : role_fits root bs b Fed ≡ true → is_none b.parts.conds.items ≡ true
        fed-none h = let a = and_parts (not (b.id == root) && is_preserve b.parts.distinct && is_none b.parts.conds.items) (fed_by bs b.parts.head b.quants) h in (and_parts (not (b.id == root) && is_preserve b.parts.distinct) (is_none b.parts.conds.items) a.0).1

    pub less-form : PartForm bs root b (put_items (ps ++ qs) k b)
    less-form = part-form b i select (ps ++ qs) k (all-without (cond_fits (lookup_of bs)) ps p qs (ap (list_all (cond_fits (lookup_of bs))) (sym conds) ∙ old-conds b i))
        (λ x j h. old-fits x j b i (columns-found x j b ∙ or_right (list_any (at_all x j) b.parts.head) (list_any (at_cond x j) b.parts.conds.items) (more-any (at_cond x j) h)))
        (less-any has_aggregate_cond (unfolded-was b i select b.parts.conds.items k).1)
        (λ x j. (let z = in-flat nodes_in_cond x (ps ++ qs) j in old-nodes b i x (each-in nodes_in_cond x z.0 b.parts.conds.items (subst (λ cs. In z.0 cs) (sym conds) (more-in ps p qs z.0 z.1.0)) z.1.1)))
        (λ r j a. less-any (reads_cond r.id) (or_parts (list_any (reads r.id) b.parts.head) (list_any (reads_cond r.id) b.parts.conds.items) (unread-conds b i r j a)).1)
        (role-less b.parts.role)

  -- ---- a select that isn't fed, with one more
  module _ (c : Node) (i : In c bs) (select : c.parts.kind ≡ Select) (not_fed : is_fed c.parts.role ≡ false) (p : Cond) (k : ℕ)
      (typed : cond_fits (lookup_of bs) p ≡ true) (columns : (x k : ℕ) → at_cond x k p ≡ true → fits k (box_under bs x) ≡ true) (unfolded : has_aggregate_cond p ≡ false)
      (nodes : (x : QuantNode) → In x (nodes_in_cond p) → node_fits c.quants x ≡ true) (unread : (r : OwnedQuant) → In r c.quants → is_F r.kind ≡ false → reads_cond r.id p ≡ false) where
    abbrev cs : List Cond
    cs = c.parts.conds.items

    one-false : (P : Cond → Bool) → list_any P cs ≡ false → P p ≡ false → list_any P (cs ++ p ∷ []) ≡ false
    one-false P h e = any-both P cs (p ∷ []) ∙ or_from (list_any P cs) (P p || false) h (or-false (P p) ∙ e)

    role-more : (r : Role) → is_fed r ≡ false → role_fits root bs c r ≡ true → role_fits root bs (put_items (cs ++ p ∷ []) k c) r ≡ true
    role-more Plain n h = refl
    role-more Magic n h = h
    role-more Fed n h = absurd (let z : ⊥ = cc in z)

    pub more-form : PartForm bs root c (put_items (cs ++ p ∷ []) k c)
    more-form = part-form c i select (cs ++ p ∷ []) k (all-one (cond_fits (lookup_of bs)) cs p (old-conds c i) typed)
        (λ x j h. elim (any-append (at_cond x j) cs (p ∷ []) h) [
          | inl a ↦ old-fits x j c i (columns-found x j c ∙ or_right (list_any (at_all x j) c.parts.head) (list_any (at_cond x j) cs) a)
          | inr a ↦ columns x j (sym (or-false (at_cond x j p)) ∙ a)
        ])
        (one-false has_aggregate_cond (unfolded-was c i select cs k).1 unfolded)
        (λ x j. (
        let z = in-flat nodes_in_cond x (cs ++ p ∷ []) j in
        elim (in-append z.0 cs (p ∷ []) z.1.0) [
          | inl a ↦ old-nodes c i x (each-in nodes_in_cond x z.0 cs a z.1.1)
          | inr a ↦ elim a [ inl e ↦ nodes x (subst (λ d. In x (nodes_in_cond d)) (sym e) z.1.1) | inr e ↦ elim e [ ] ]
        ]))
        (λ r j a. one-false (reads_cond r.id) (or_parts (list_any (reads r.id) c.parts.head) (list_any (reads_cond r.id) cs) (unread-conds c i r j a)).1 (unread r j a))
        (role-more c.parts.role not_fed)
