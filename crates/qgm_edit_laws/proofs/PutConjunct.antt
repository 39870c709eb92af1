-- A conjunct put through the head of a select may be added to it.
use Rattle.std.proofs.Common.{ℕ, zero, suc, ◌==◌, ◌≡◌, ◌&&◌, ◌≤◌, cond, get_or, Bool, true, false, List, ◌∷◌, None, Some, refl, sym, ap, subst, ◌∙◌, eqb-true, ◌⊎◌, inl, inr, arith, slice_get, []}
use Rattle.std.specs.List.{flat_map, list_all, list_any}
use Rattle.std.specs.Prelude.{⊤}
use Rattle.std.specs.Prelude as prelude
use Rattle.std.proofs.lemmas.Bool.{and_parts, cases_Bool, eq-eqb, or_cases, or_left}
use Rattle.qgm_core.specs.Boxes.{QueryGraph, numbers}
use Rattle.qgm_core.specs.Kinds.{is_fed}
use Rattle.list_laws.specs.Lists.{EachOnce, In, first}
use Rattle.qgm_core.specs.declared.kinds.BoxKind.TheVariants.{Select}
use Rattle.qgm_core.specs.declared.node.Node.{Node}
use Rattle.qgm_core.specs.declared.owned.OwnedQuant.{OwnedQuant}
use Rattle.qgm_wellformed.specs.Columns.{box_under}
use Rattle.qgm_wellformed.specs.Shapes.{node_fits, nodes_of}
use Rattle.qgm_wellformed.specs.Types.{Lookup, cond_fits, is_typed, joined_column, lookup_of, term_type, type_found, types_by, types_of}
use Rattle.qgm_wellformed.specs.WellFormed.{fault}
use Rattle.qgm_meaning.specs.Searches.{names, names_cond}
use Rattle.qgm_terms.specs.Named as named
use Rattle.qgm_terms.specs.Named.{nodes_in_cond}
use Rattle.qgm_terms.specs.Substitution.{cell_at, column_substituted, substituted_cond}
use Rattle.qgm_terms.specs.Terms as t
use Rattle.qgm_terms.specs.Terms.{Cond, Term, null_int}
use Rattle.qgm_terms.specs.Wanted.{any_in, any_in_cond, has_aggregate, has_aggregate_cond, reads, reads_at, reads_at_cond, reads_cond, wanted}
use Rattle.qgm_terms.specs.declared.sought.Sought.TheVariants as sought
use Rattle.qgm_edit_laws.specs.Graph.{Sound, nodes_in}
use Rattle.qgm_edit_laws.specs.Shaped.{Shaped, Typed}
use Rattle.qgm_edit_laws.proofs.HeadTypes.{type-of}
use Rattle.qgm_edit_laws.proofs.AnyPut as put
use Rattle.qgm_edit_laws.proofs.AnyPut.{cell-any, conds-more}
use Rattle.qgm_edit_laws.proofs.ConjunctForms.{each-in, names-none, node-of, unfolded-was}
use Rattle.qgm_edit_laws.proofs.Follow.{settled-types, types_at}
use Rattle.qgm_edit_laws.proofs.Formed.{sound-checked}
use Rattle.qgm_edit_laws.proofs.Naming.{says_cond}
use Rattle.qgm_edit_laws.proofs.Read.{at_all, at_cond, cond-nodes, cond-split, is_of}
use Rattle.qgm_edit_laws.proofs.ShapeParts.{shape-parts}
use Rattle.qgm_edit_laws.proofs.ShapedPut.{cond-fits, cond-same}
use Rattle.qgm_edit_laws.proofs.TypedKept.{found-under}
use Rattle.qgm_edit_laws.proofs.CondTypes as typed
use Rattle.qgm_edit_laws.specs.ConjunctEdits.{MayAddConjunct}
use Rattle.qgm_edit_laws.proofs.PushedRows.{reads-of}
use Rattle.list_laws.proofs.Booleans.{clash, or-false}
use Rattle.list_laws.proofs.Membership.{all-from, all-in, any-from, eq-itself, in-left}

-- a cell of a head is one of its cells, or null
pub cell-in : (cells : List Term) (k : ℕ) → In (cell_at k cells) cells ⊎ (cell_at k cells ≡ null_int)
cell-in cells k = elim (get-in (null_int ∷ cells) k) [ inl i ↦ elim i [ inl e ↦ inr (sym e) | inr j ↦ inl j ] | inr e ↦ inr e ]
  where
    get-in : (xs : List Term) (k : ℕ) → In (get_or xs k null_int) xs ⊎ (get_or xs k null_int ≡ null_int)
    get-in [] k = inr refl
    get-in (x ∷ xs) zero = inl (inl refl)
    get-in (x ∷ xs) (suc k) = elim (get-in xs k) [ inl i ↦ inl (inr i) | inr e ↦ inr e ]

-- a column that stands in a condition without scalars, somes and everys is read there
pub at-reads : (x k : ℕ) (p : Cond) → any_in_cond (wanted sought.Node) p ≡ false → at_cond x k p ≡ true → reads_cond x p ≡ true
at-reads x k p free t = elim (or_cases (reads_cond x p) (names_cond x p) (cond-split x p (
    sym (or-false (says_cond x p)) ∙ conds-more (λ r j. (r == x) && (j == k)) (λ r j. r == x) (λ r. false) (λ r. r == x) (λ r. false) (λ r. r == x) (λ r. true) (λ r. true) (λ r j h. (and_parts (r == x) (j == k) h).0) (λ r h. absurd (let z : ⊥ = cc in z)) (λ r h. absurd (let z : ⊥ = cc in z)) (λ r h. h) (p ∷ []) (or_left (at_cond x k p) false t)))) [
      | inl a ↦ a
      | inr a ↦ absurd (clash (names_cond x p) a (names-none p free x))
    ]

module _ (g : QueryGraph) (u : EachOnce (numbers g.boxes)) (f : fault g ≡ None) where
  abbrev bs : List Node
  bs = g.boxes

  ok : Sound bs g.root × Typed bs × Shaped bs g.root
  ok = (sound-checked g u).0 f

  w : Sound bs g.root
  w = ok.0

  abbrev at : Lookup
  at = lookup_of bs

  -- the cell of a column has its type
  pub head-type : (o : Node) (r : OwnedQuant) (c : Node) → In o bs → In r o.quants → In c bs → c.id ≡ r.over → types_by at c.parts.kind c.parts.head ≡ prelude.map (term_type at) c.parts.head → (k : ℕ) → 1 ≤ k → k ≤ prelude.length c.parts.head → term_type at (cell_at k c.parts.head) ≡ at r.id k
  head-type o r c i j l e types zero low high = absurd (let z : ⊥ = omega arith in z)
  head-type o r c i j l e types (suc k) low high =
      let under : box_under bs r.id ≡ Some c = found-under bs g.root w r.id (record { owner = o; quant = r; box = c; owner_in = i; quant_in = j; is_q = refl; box_in = l; is_over = e }) in
      let all : types_at bs c.id ≡ prelude.map (term_type at) c.parts.head = settled-types bs g.root w c l ∙ types in
      typed.cell-type at r.id c.parts.head c.parts.head k (omega arith) ∙ ap (λ z. joined_column (slice_get z k)) (sym all) ∙ sym (ap (type_found (types_of bs) (suc k)) under ∙ type-of k (first (is_typed c.id) (types_of bs)))

  module _ (n : Node) (i : In n g.boxes) (select : n.parts.kind ≡ Select) (not_fed : is_fed n.parts.role ≡ false) (q : ℕ) (p : Cond) (free : any_in_cond (wanted sought.Node) p ≡ false) (own : (x : ℕ) → reads_cond x p ≡ true → x ≡ q)
      (fit : cond_fits (lookup_of g.boxes) p ≡ true) (folded : has_aggregate_cond p ≡ false)
      (good : (k : ℕ) → reads_at_cond q k p ≡ true → term_type (lookup_of g.boxes) (cell_at k n.parts.head) ≡ lookup_of g.boxes q k) where
    abbrev p' : Cond
    p' = substituted_cond q n.parts.head p

    abbrev head : List Term
    head = n.parts.head

    no-node : (x : ℕ) → names_cond x p ≡ false
    no-node = names-none p free

    read-new : (x : ℕ) → reads_cond x p' ≡ true → list_any (reads x) head ≡ true
    read-new x h = elim (put.cond-put q head (λ r k. r == x) (λ r. false) (λ r. false) (λ r. prelude.not (r == x)) ((x == q) ≡ false) (λ r k m h. subst (λ z. (z == q) ≡ false) (eqb-true r x h) m) (λ r m h. absurd (let z : ⊥ = cc in z)) (λ r m h. absurd (let z : ⊥ = cc in z)) p (no-node q) h) [
      | inl a ↦ absurd (clash (x == q) (eq-eqb x q (own x a.0)) a.1)
      | inr a ↦ cell-any (reads x) head a.0 refl a.1.1
    ]

    at-new : (x k : ℕ) → reads_at_cond x k p' ≡ true → list_any (reads_at x k) head ≡ true
    at-new x k h = elim (put.cond-put q head (λ r j. (r == x) && (j == k)) (λ r. false) (λ r. false) (λ r. prelude.not (r == x)) ((x == q) ≡ false) (λ r j m h. subst (λ z. (z == q) ≡ false) (eqb-true r x (and_parts (r == x) (j == k) h).0) m) (λ r m h. absurd (let z : ⊥ = cc in z)) (λ r m h. absurd (let z : ⊥ = cc in z)) p (no-node q) h) [
      | inl a ↦ absurd (clash (x == q) (eq-eqb x q (own x (reads-of x k p a.0))) a.1)
      | inr a ↦ cell-any (reads_at x k) head a.0 refl a.1.1
    ]

    node-new : (x : ℕ) → names_cond x p' ≡ true → list_any (names x) head ≡ true
    node-new x h = elim (put.cond-put q head (λ r j. false) (λ r. r == x) (λ r. r == x) (λ r. true) ⊤ (λ r j m h. tt) (λ r m h. tt) (λ r m h. tt) p (no-node q) h) [
      | inl a ↦ absurd (clash (names_cond x p) a.0 (no-node x))
      | inr a ↦ cell-any (names x) head a.0 refl a.1.1
    ]

    column-new : (x k : ℕ) → at_cond x k p' ≡ true → list_any (at_all x k) head ≡ true
    column-new x k h = elim (put.cond-put q head (λ r j. (r == x) && (j == k)) (λ r. false) (λ r. false) (λ r. true) ((x == q) ≡ false) (λ r j m h. subst (λ z. (z == q) ≡ false) (eqb-true r x (and_parts (r == x) (j == k) h).0) m) (λ r m h. absurd (let z : ⊥ = cc in z)) (λ r m h. absurd (let z : ⊥ = cc in z)) p (no-node q) h) [
      | inl a ↦ absurd (clash (x == q) (eq-eqb x q (own x (at-reads x k p free a.0))) a.1)
      | inr a ↦ cell-any (at_all x k) head a.0 refl a.1.1
    ]

    unfolded-head : (j : ℕ) → any_in (wanted sought.Aggregate) (cell_at j head) ≡ false
    unfolded-head j = elim (cases_Bool (any_in (wanted sought.Aggregate) (cell_at j head))) [
      | inr m ↦ m
      | inl h ↦ absurd (clash (list_any has_aggregate head) (cell-any has_aggregate head j refl h) (unfolded-was bs g.root w ok.1 ok.2 n i select n.parts.conds.items 0).0)
    ]

    nodes : list_all (node_fits n.quants) (nodes_in_cond p') ≡ true
    nodes = cond-fits q head (node_fits n.quants) p (λ j h. passes j (cell-in head j)) (no-node q) (all-from (node_fits n.quants) (nodes_in_cond p) (λ x j. absurd (let y = node-of x in clash (list_any (is_of y.0) (nodes_in_cond p)) (any-from (is_of y.0) x (nodes_in_cond p) j y.1) (cond-nodes y.0 p ∙ no-node y.0))))
      where
        passes : (j : ℕ) → In (cell_at j n.parts.head) n.parts.head ⊎ (cell_at j n.parts.head ≡ null_int) → list_all (node_fits n.quants) (named.nodes_in (cell_at j n.parts.head)) ≡ true
        passes j (inr e) = ap (λ x. list_all (node_fits n.quants) (named.nodes_in x)) e
        passes j (inl a) = all-from (node_fits n.quants) (named.nodes_in (cell_at j n.parts.head)) (λ x l. all-in (node_fits n.quants) x (nodes_of n) (shape-parts g.root bs n (ok.2.shapes n i)).nodes
            (in-left x (flat_map named.nodes_in n.parts.head) (flat_map nodes_in_cond n.parts.conds.items) (each-in named.nodes_in x (cell_at j n.parts.head) n.parts.head a l)))

    pub put-may : MayAddConjunct g n (substituted_cond q n.parts.head p)
    put-may = record {
      within = i;
      kind = inl select;
      not_fed = not_fed;
      typed = typed.cond-put at q head p free (λ x k h. (let e = own x (reads-of x k p h) in subst (λ z. term_type at (column_substituted q head z k) ≡ at z k) (sym e) (ap (λ (z : Bool). term_type at (cond z (cell_at k head) (t.col q k))) (eq-itself q) ∙ good k (subst (λ z. reads_at_cond z k p ≡ true) e h)))) ∙ fit;
      unfolded = cond-same q head (wanted sought.Aggregate) unfolded-head p ∙ folded;
      nodes = nodes;
      names = λ x h. or_left (list_any (names x) head) (list_any (names_cond x) n.parts.conds.items) (node-new x h);
      columns = λ x k h. or_left (list_any (at_all x k) head) (list_any (at_cond x k) n.parts.conds.items) (column-new x k h);
      reads = λ x h. or_left (list_any (reads x) head) (list_any (reads_cond x) n.parts.conds.items) (read-new x h);
      reads_at = λ x k h. or_left (list_any (reads_at x k) head) (list_any (reads_at_cond x k) n.parts.conds.items) (at-new x k h);
    }
