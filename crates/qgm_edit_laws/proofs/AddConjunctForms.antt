-- The check finds nothing more where a conjunct is added.
use Rattle.std.proofs.Common.{ℕ, ◌==◌, ◌≡◌, ◌&&◌, not, cond, Bool, true, false, List, ◌∷◌, ◌++◌, map, None, refl, sym, ap, subst, ◌∙◌, eqb-true, ◌⊎◌, inl, inr, [], ◌||◌}
use Rattle.std.specs.List.{flat_map, list_all, list_any}
use Rattle.std.proofs.lemmas.Bool.{and_from, and_parts, cases_Bool, not-true, or_cases, or_from, or_left, or_right}
use Rattle.qgm_core.specs.Boxes.{QueryGraph, numbers, width}
use Rattle.qgm_core.specs.Edits.{on_boxes}
use Rattle.qgm_core.specs.Kinds.{is_F, is_fed, is_plain}
use Rattle.qgm_wellformed.specs.WellFormed.{fault}
use Rattle.list_laws.specs.Lists.{EachOnce, In}
use Rattle.qgm_core.specs.declared.kinds.BoxKind.{BoxKind}
use Rattle.qgm_core.specs.declared.kinds.BoxKind.TheVariants.{Base, Group, OuterJoin, Select, SetOp}
use Rattle.qgm_core.specs.declared.node.Node.{Node}
use Rattle.qgm_core.specs.declared.owned.OwnedQuant.{OwnedQuant}
use Rattle.qgm_wellformed.specs.Columns.{box_under, fits}
use Rattle.qgm_wellformed.specs.Shapes.{head_is_own, is_column, is_outer_join, is_unfolded, kind_fits, looks_up, node_fits, nodes_of, are_F}
use Rattle.qgm_wellformed.specs.Types.{cond_fits, lookup_of}
use Rattle.qgm_meaning.specs.Scope.{read_by}
use Rattle.qgm_meaning.specs.Searches.{names, names_cond}
use Rattle.qgm_terms.specs.Named.{nodes_in_cond}
use Rattle.qgm_terms.specs.Named as named
use Rattle.qgm_terms.specs.Terms.{Cond}
use Rattle.qgm_terms.specs.Wanted.{has_aggregate, has_aggregate_cond, reads, reads_at, reads_at_cond, reads_cond}
use Rattle.qgm_terms.specs.declared.named.QuantNode.{QuantNode}
use Rattle.qgm_edit_laws.specs.Changes.{Reparts}
use Rattle.qgm_edit_laws.specs.Graph.{BareBy, Sound, nodes_in, reads_in}
use Rattle.qgm_edit_laws.specs.Shaped.{Shaped, Typed}
use Rattle.qgm_edit_laws.proofs.ConjunctForms.{more-form, old-conds, old-fits, unread-conds, each-in, fits-by, old-cells, old-nodes}
use Rattle.qgm_edit_laws.proofs.Edits.{any-append}
use Rattle.qgm_edit_laws.proofs.Formed.{sound-checked}
use Rattle.qgm_edit_laws.proofs.OneBox.{at}
use Rattle.qgm_edit_laws.proofs.PartForms.{PartForm, at-all, parts-open}
use Rattle.qgm_edit_laws.proofs.Ranks.{same-box}
use Rattle.qgm_edit_laws.proofs.Read.{any-both, at_all, at_cond, columns-found}
use Rattle.qgm_edit_laws.proofs.Scoped.{scoped-of}
use Rattle.qgm_edit_laws.proofs.ShapeParts.{ShapeParts, shape-from, shape-parts}
use Rattle.qgm_edit_laws.proofs.CondTypes.{all-one}
use Rattle.qgm_edit_laws.specs.ConjunctEdits.{MayAddConjunct, more}
use Rattle.qgm_edit_laws.proofs.FedOpenKept.{open-kept}
use Rattle.list_laws.proofs.Booleans.{clash, or-false}
use Rattle.list_laws.proofs.Membership.{all-from, all-in, eq-itself, in-append, in-flat, in-left}

module _ (g : QueryGraph) (u : EachOnce (numbers g.boxes)) (f : fault g ≡ None) (n : Node) (p : Cond) (m : MayAddConjunct g n p) where
  abbrev bs : List Node
  bs = g.boxes

  ok : Sound bs g.root × Typed bs × Shaped bs g.root
  ok = (sound-checked g u).0 f

  w : Sound bs g.root
  w = ok.0

  abbrev h : Node → Node
  h = at n.id (more p)

  abbrev n' : Node
  n' = more p n

  cases : (y : Node) → In y bs → ((y ≡ n) × (h y ≡ n')) ⊎ (((y.id == n.id) ≡ false) × (h y ≡ y))
  cases y i = elim (cases_Bool (y.id == n.id)) [
    | inl t ↦ (let e : y ≡ n = same-box bs y n w.ordered i m.within (eqb-true y.id n.id t) in inl (e, ap h e ∙ ap (λ (z : Bool). cond z n' n) (eq-itself n.id)))
    | inr t ↦ inr (t, ap (λ (z : Bool). cond z (more p y) y) t)
  ]

  -- what is said of a box that changes, and of the others
  by : (P : Node → Node → Type 0) → ((y : Node) → In y bs → P y y) → P n n' → (y : Node) → In y bs → P y (h y)
  by P old new y i = elim (cases y i) [ inl e ↦ subst (λ z. P z (h y)) (sym e.0) (subst (λ z. P n z) (sym e.1) new) | inr e ↦ subst (λ z. P y z) (sym e.1) (old y i) ]

  -- a search of the box finds what it found, or finds in p what it found
  found : (a : Bool) (d : Cond → Bool) → (d p ≡ true → (a || list_any d n.parts.conds.items) ≡ true) → (a || list_any d (n.parts.conds.items ++ p ∷ [])) ≡ true → (a || list_any d n.parts.conds.items) ≡ true
  found a d new t = elim (or_cases a (list_any d (n.parts.conds.items ++ p ∷ [])) t) [
    | inl x ↦ or_left a (list_any d n.parts.conds.items) x
    | inr x ↦ elim (any-append d n.parts.conds.items (p ∷ []) x) [ inl z ↦ or_right a (list_any d n.parts.conds.items) z | inr z ↦ new (sym (or-false (d p)) ∙ z) ]
  ]

  kept : (a : Bool) (d : Cond → Bool) → (a || list_any d n.parts.conds.items) ≡ true → (a || list_any d (n.parts.conds.items ++ p ∷ [])) ≡ true
  kept a d t = elim (or_cases a (list_any d n.parts.conds.items) t) [
    | inl x ↦ or_left a (list_any d (n.parts.conds.items ++ p ∷ [])) x
    | inr x ↦ or_right a (list_any d (n.parts.conds.items ++ p ∷ [])) (any-both d n.parts.conds.items (p ∷ []) ∙ or_left (list_any d n.parts.conds.items) (d p || false) x)
  ]

  read-was : (q : ℕ) → read_by n' q ≡ true → read_by n q ≡ true
  read-was q t = found (list_any (reads q) n.parts.head) (reads_cond q) (m.reads q) t

  node-was : (q : ℕ) → nodes_in q n' ≡ true → nodes_in q n ≡ true
  node-was q t = found (list_any (names q) n.parts.head) (names_cond q) (m.names q) t

  bare-more : (k : BoxKind) → (k ≡ Select) ⊎ (k ≡ OuterJoin) → BareBy k n'
  bare-more (Base t) e = elim e [ inl x ↦ absurd (let z : ⊥ = cc in z) | inr x ↦ absurd (let z : ⊥ = cc in z) ]
  bare-more Select e = tt
  bare-more (Group k) e = tt
  bare-more (SetOp form types) e = elim e [ inl x ↦ absurd (let z : ⊥ = cc in z) | inr x ↦ absurd (let z : ⊥ = cc in z) ]
  bare-more OuterJoin e = tt

  pub reparts : Reparts bs h
  reparts = record {
    id = λ y. at-all n.id (more p) (λ z. z.id) (λ z. refl) y;
    kind = λ y i. at-all n.id (more p) (λ z. z.parts.kind) (λ z. refl) y;
    quants = λ y i. at-all n.id (more p) (λ z. z.quants) (λ z. refl) y;
    wide = λ y i. at-all n.id (more p) width (λ z. refl) y;
    reads = λ y i q t. (scoped-of bs g.root w y i).own q (by (λ y z. read_by z q ≡ true → read_by y q ≡ true) (λ y i t. t) (read-was q) y i t);
    fits = λ y i q k t. w.fits y i q k (by (λ y z. reads_in q k z ≡ true → reads_in q k y ≡ true) (λ y i t. t) (λ t. found (list_any (reads_at q k) n.parts.head) (reads_at_cond q k) (m.reads_at q k) t) y i t);
    own_nodes = λ y i q t. w.own_nodes y i q (by (λ y z. nodes_in q z ≡ true → nodes_in q y ≡ true) (λ y i t. t) (node-was q) y i t);
    bare = λ y i. by (λ y z. BareBy y.parts.kind z) (λ y i. w.bare y i) (bare-more n.parts.kind m.kind) y i;
  }

  columns-old : (x k : ℕ) → at_cond x k p ≡ true → fits k (box_under bs x) ≡ true
  columns-old x k t = old-fits bs g.root w ok.1 ok.2 x k n m.within (columns-found x k n ∙ m.columns x k t)

  unread : (r : OwnedQuant) → In r n.quants → is_F r.kind ≡ false → reads_cond r.id p ≡ false
  unread r j a = elim (cases_Bool (reads_cond r.id p)) [ inr x ↦ x | inl t ↦ absurd (clash (looks_up r.id n) (m.reads r.id t) (unread-conds bs g.root w ok.1 ok.2 n m.within r j a)) ]

  node-in : (x : QuantNode) → In x (nodes_in_cond p) → node_fits n.quants x ≡ true
  node-in x j = all-in (node_fits n.quants) x (nodes_in_cond p) m.nodes j

  was : ShapeParts g.root bs n
  was = shape-parts g.root bs n (ok.2.shapes n m.within)

  -- an outer join
  outer-form : n.parts.kind ≡ OuterJoin → PartForm bs g.root n n'
  outer-form outer = record {
    stay = refl;
    magic = refl;
    cells = old-cells bs g.root w ok.1 ok.2 n m.within;
    conds = all-one (cond_fits (lookup_of bs)) n.parts.conds.items p (old-conds bs g.root w ok.1 ok.2 n m.within) m.typed;
    columns = fits-by bs g.root w ok.1 ok.2 n n' m.within refl (λ x k t. elim (or_cases (list_any (at_all x k) n.parts.head) (list_any (at_cond x k) (n.parts.conds.items ++ p ∷ [])) (sym (columns-found x k n') ∙ t)) [
      | inl a ↦ old-fits bs g.root w ok.1 ok.2 x k n m.within (columns-found x k n ∙ or_left (list_any (at_all x k) n.parts.head) (list_any (at_cond x k) n.parts.conds.items) a)
      | inr a ↦ elim (any-append (at_cond x k) n.parts.conds.items (p ∷ []) a) [
        | inl c ↦ old-fits bs g.root w ok.1 ok.2 x k n m.within (columns-found x k n ∙ or_right (list_any (at_all x k) n.parts.head) (list_any (at_cond x k) n.parts.conds.items) c)
        | inr c ↦ columns-old x k (sym (or-false (at_cond x k p)) ∙ c)
      ]
    ]);
    shape = shape-from g.root bs n' (record {
      kind = subst (λ k. kind_fits g.root bs n' k ≡ true) (sym outer) kind-more;
      nodes = all-from (node_fits n.quants) (nodes_of n') (λ x j. elim (in-append x (flat_map named.nodes_in n.parts.head) (flat_map nodes_in_cond (n.parts.conds.items ++ p ∷ [])) j) [
        | inl a ↦ all-in (node_fits n.quants) x (nodes_of n) was.nodes (in-left x (flat_map named.nodes_in n.parts.head) (flat_map nodes_in_cond n.parts.conds.items) a)
        | inr a ↦ (
            let z = in-flat nodes_in_cond x (n.parts.conds.items ++ p ∷ []) a in
            elim (in-append z.0 n.parts.conds.items (p ∷ []) z.1.0) [
              | inl c ↦ old-nodes bs g.root w ok.1 ok.2 n m.within x (each-in nodes_in_cond x z.0 n.parts.conds.items c z.1.1)
              | inr c ↦ elim c [ inl e ↦ node-in x (subst (λ d. In x (nodes_in_cond d)) (sym e) z.1.1) | inr e ↦ elim e [ ] ]
            ])
      ]);
      placed = all-from (λ r. is_F r.kind || not (looks_up r.id n')) n.quants (λ r j. elim (cases_Bool (is_F r.kind)) [
        | inl a ↦ or_left (is_F r.kind) (not (looks_up r.id n')) a
        | inr a ↦ or_right (is_F r.kind) (not (looks_up r.id n')) (let z : looks_up r.id n' ≡ false = elim (cases_Bool (looks_up r.id n')) [ inl t ↦ absurd (clash (looks_up r.id n) (read-was r.id t) (unread-conds bs g.root w ok.1 ok.2 n m.within r j a)) | inr x ↦ x ] in ap not z)
      ]);
      scalar = was.scalar;
    });
    permit = ok.2.unseen n m.within;
  }
    where
      kind-more : kind_fits g.root bs n' OuterJoin ≡ true
      kind-more =
          let old : is_outer_join n ≡ true = subst (λ k. kind_fits g.root bs n k ≡ true) outer was.kind in
          let a = and_parts (are_F 2 n.quants && list_all is_column n.parts.head && head_is_own n && is_unfolded n) (is_plain n.parts.role) old in
          let d = and_parts (are_F 2 n.quants && list_all is_column n.parts.head && head_is_own n) (is_unfolded n) a.0 in
          let e = and_parts (not (list_any has_aggregate n.parts.head)) (not (list_any has_aggregate_cond n.parts.conds.items)) d.1 in
          and_from (are_F 2 n.quants && list_all is_column n.parts.head && head_is_own n && is_unfolded n') (is_plain n.parts.role)
          (and_from (are_F 2 n.quants && list_all is_column n.parts.head && head_is_own n) (is_unfolded n') d.0
          (and_from (not (list_any has_aggregate n.parts.head)) (not (list_any has_aggregate_cond (n.parts.conds.items ++ p ∷ []))) e.0
          (ap not (any-both has_aggregate_cond n.parts.conds.items (p ∷ []) ∙ or_from (list_any has_aggregate_cond n.parts.conds.items) (has_aggregate_cond p || false) (not-true (list_any has_aggregate_cond n.parts.conds.items) e.1) (or-false (has_aggregate_cond p) ∙ m.unfolded))))) a.1

  form : PartForm bs g.root n n'
  form = elim m.kind [
    | inl s ↦ more-form bs g.root w ok.1 ok.2 n m.within s m.not_fed p n.parts.conds.spare m.typed columns-old m.unfolded node-in unread
    | inr o ↦ outer-form o
  ]

  pub added-formed : fault (on_boxes (map (at n.id (more p))) g) ≡ None
  added-formed = parts-open g u f h reparts (λ y i. elim (cases y i) [ inl e ↦ inr (subst (λ z. PartForm bs g.root z (h y)) (sym e.0) (subst (λ z. PartForm bs g.root n z) (sym e.1) form)) | inr e ↦ inl e.1 ])
      (open-kept g u f h reparts (λ y i. at-all n.id (more p) (λ z. is_fed z.parts.role) (λ z. refl) y)
      (λ y i q o t. by (λ y z. read_by y q ≡ true → read_by z q ≡ true) (λ y i t. t) (kept (list_any (reads q) n.parts.head) (reads_cond q)) y i t))
