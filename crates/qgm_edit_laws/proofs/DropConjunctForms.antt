-- The check finds nothing more where a conjunct goes.
use Rattle.std.proofs.Common.{ℕ, ◌==◌, ◌≡◌, cond, Bool, true, false, List, ◌++◌, map, None, refl, sym, ap, subst, ◌∙◌, eqb-true, ◌⊎◌, inl, inr, ◌||◌}
use Rattle.std.specs.List.{list_any}
use Rattle.std.proofs.lemmas.Bool.{cases_Bool, or_cases, or_left, or_right}
use Rattle.qgm_core.specs.Boxes.{QueryGraph, numbers, owns, width}
use Rattle.qgm_core.specs.Edits.{on_boxes}
use Rattle.qgm_core.specs.Kinds.{is_fed}
use Rattle.qgm_wellformed.specs.WellFormed.{fault}
use Rattle.list_laws.specs.Lists.{EachOnce, In}
use Rattle.qgm_core.specs.declared.node.Node.{Node}
use Rattle.qgm_wellformed.specs.Columns.{fits}
use Rattle.qgm_meaning.specs.Scope.{read_by}
use Rattle.qgm_meaning.specs.Searches.{names, names_cond}
use Rattle.qgm_terms.specs.Terms.{Cond}
use Rattle.qgm_terms.specs.Wanted.{reads, reads_at, reads_at_cond, reads_cond}
use Rattle.qgm_edit_laws.specs.Changes.{Reparts}
use Rattle.qgm_edit_laws.specs.Graph.{BareBy, Sound, nodes_in, reads_in}
use Rattle.qgm_edit_laws.specs.Conditioned.{conditioned}
use Rattle.qgm_edit_laws.specs.Shaped.{Shaped, Typed}
use Rattle.qgm_edit_laws.proofs.ConjunctForms.{less-form}
use Rattle.qgm_edit_laws.proofs.Formed.{sound-checked}
use Rattle.qgm_edit_laws.proofs.OneBox.{at}
use Rattle.qgm_edit_laws.proofs.PartForms.{PartForm, at-all, parts-open}
use Rattle.qgm_edit_laws.proofs.PlacedLists.{any-more}
use Rattle.qgm_edit_laws.proofs.Ranks.{same-box}
use Rattle.qgm_edit_laws.proofs.Scoped.{scoped-of}
use Rattle.qgm_edit_laws.specs.ConjunctEdits.{MayDropConjunct}
use Rattle.qgm_edit_laws.proofs.FedOpenKept.{open-kept}
use Rattle.list_laws.proofs.Membership.{eq-itself}
use Rattle.list_laws.proofs.Booleans.{clash}

module _ (g : QueryGraph) (u : EachOnce (numbers g.boxes)) (f : fault g ≡ None) (n : Node) (ps : List Cond) (p : Cond) (qs : List Cond) (m : MayDropConjunct g n ps p qs) where
  abbrev bs : List Node
  bs = g.boxes

  ok : Sound bs g.root × Typed bs × Shaped bs g.root
  ok = (sound-checked g u).0 f

  w : Sound bs g.root
  w = ok.0

  abbrev l : Node → Node
  l = conditioned (ps ++ qs)

  abbrev h : Node → Node
  h = at n.id (conditioned (ps ++ qs))

  cases : (y : Node) → In y bs → ((y ≡ n) × (h y ≡ l n)) ⊎ (((y.id == n.id) ≡ false) × (h y ≡ y))
  cases y i = elim (cases_Bool (y.id == n.id)) [
    | inl t ↦ (let e : y ≡ n = same-box bs y n w.ordered i m.within (eqb-true y.id n.id t) in inl (e, ap h e ∙ ap (λ (z : Bool). cond z (l n) n) (eq-itself n.id)))
    | inr t ↦ inr (t, ap (λ (z : Bool). cond z (l y) y) t)
  ]

  by : (P : Node → Node → Type 0) → ((y : Node) → In y bs → P y y) → P n (l n) → (y : Node) → In y bs → P y (h y)
  by P old new y i = elim (cases y i) [ inl e ↦ subst (λ z. P z (h y)) (sym e.0) (subst (λ z. P n z) (sym e.1) new) | inr e ↦ subst (λ z. P y z) (sym e.1) (old y i) ]

  -- what is found was found
  found : (a : Bool) (d : Cond → Bool) → (a || list_any d (ps ++ qs)) ≡ true → (a || list_any d n.parts.conds.items) ≡ true
  found a d t = elim (or_cases a (list_any d (ps ++ qs)) t) [
    | inl x ↦ or_left a (list_any d n.parts.conds.items) x
    | inr x ↦ or_right a (list_any d n.parts.conds.items) (ap (list_any d) m.conds ∙ any-more d ps p qs ∙ or_right (d p) (list_any d (ps ++ qs)) x)
  ]

  pub less-reparts : Reparts bs h
  less-reparts = record {
    id = λ y. at-all n.id l (λ z. z.id) (λ z. refl) y;
    kind = λ y i. at-all n.id l (λ z. z.parts.kind) (λ z. refl) y;
    quants = λ y i. at-all n.id l (λ z. z.quants) (λ z. refl) y;
    wide = λ y i. at-all n.id l width (λ z. refl) y;
    reads = λ y i q t. (scoped-of bs g.root w y i).own q (by (λ y z. read_by z q ≡ true → read_by y q ≡ true) (λ y i t. t) (found (list_any (reads q) n.parts.head) (reads_cond q)) y i t);
    fits = λ y i q k t. w.fits y i q k (by (λ y z. reads_in q k z ≡ true → reads_in q k y ≡ true) (λ y i t. t) (found (list_any (reads_at q k) n.parts.head) (reads_at_cond q k)) y i t);
    own_nodes = λ y i q t. w.own_nodes y i q (by (λ y z. nodes_in q z ≡ true → nodes_in q y ≡ true) (λ y i t. t) (found (list_any (names q) n.parts.head) (names_cond q)) y i t);
    bare = λ y i. by (λ y z. BareBy y.parts.kind z) (λ y i. w.bare y i) (subst (λ k. BareBy k (l n)) (sym m.select) tt) y i;
  }

  -- what isn't its own is read as before
  read-kept : (q : ℕ) → owns q n ≡ false → read_by n q ≡ true → read_by (l n) q ≡ true
  read-kept q o t = elim (or_cases (list_any (reads q) n.parts.head) (list_any (reads_cond q) n.parts.conds.items) t) [
    | inl a ↦ or_left (list_any (reads q) n.parts.head) (list_any (reads_cond q) (ps ++ qs)) a
    | inr a ↦ elim (or_cases (reads_cond q p) (list_any (reads_cond q) (ps ++ qs)) (sym (any-more (reads_cond q) ps p qs) ∙ ap (list_any (reads_cond q)) (sym m.conds) ∙ a)) [
      | inl c ↦ absurd (clash (owns q n) (m.own q c) o)
      | inr c ↦ or_right (list_any (reads q) n.parts.head) (list_any (reads_cond q) (ps ++ qs)) c
    ]
  ]

  pub dropped-formed : fault (on_boxes (map (at n.id (conditioned (ps ++ qs)))) g) ≡ None
  dropped-formed = parts-open g u f h less-reparts (λ y i. elim (cases y i) [ inl e ↦ inr (subst (λ z. PartForm bs g.root z (h y)) (sym e.0) (subst (λ z. PartForm bs g.root n z) (sym e.1) (less-form bs g.root w ok.1 ok.2 n m.within m.select ps p qs m.conds n.parts.conds.spare))) | inr e ↦ inl e.1 ])
      (open-kept g u f h less-reparts (λ y i. at-all n.id l (λ z. is_fed z.parts.role) (λ z. refl) y)
      (λ y i q o t. by (λ y z. owns q y ≡ false → read_by y q ≡ true → read_by z q ≡ true) (λ y i o t. t) (read-kept q) y i o t))
