-- The check finds nothing more where a box becomes ENFORCE, PRESERVE or PERMIT, or has room for more conditions.
use Rattle.std.proofs.Common.{ℕ, ◌==◌, ◌≡◌, ◌&&◌, max, not, true, false, List, map, None, refl, sym, ap, subst, ◌∙◌, inl, inr}
use Rattle.std.specs.List.{list_all}
use Rattle.std.proofs.lemmas.Bool.{and_from, and_parts}
use Rattle.qgm_core.specs.Boxes.{QueryGraph, numbers, width}
use Rattle.qgm_core.specs.Edits.{on_boxes, reserve, set_distinct, with_distinct, with_room}
use Rattle.qgm_core.specs.Kinds.{is_F_or_S, is_enforce, is_fed, is_magic, is_permit, is_preserve}
use Rattle.list_laws.specs.Lists.{EachOnce, In, change}
use Rattle.qgm_core.specs.declared.kinds.BoxKind.{BoxKind}
use Rattle.qgm_core.specs.declared.kinds.BoxKind.TheVariants.{Base, Group, OuterJoin, Select, SetOp}
use Rattle.qgm_core.specs.declared.kinds.Distinct.{Distinct}
use Rattle.qgm_core.specs.declared.kinds.Role.{Role}
use Rattle.qgm_core.specs.declared.kinds.Role.TheVariants.{Fed, Magic, Plain}
use Rattle.qgm_core.specs.declared.node.Node.{Node}
use Rattle.qgm_core.specs.declared.owned.OwnedQuant.{OwnedQuant}
use Rattle.qgm_wellformed.specs.Shapes.{all_F, fed_by, is_none, is_unfolded, kind_fits, role_fits, shape_fits}
use Rattle.qgm_wellformed.specs.Types.{arms_agree, cond_fits, is_known, lookup_of, term_type, types_of}
use Rattle.qgm_wellformed.specs.WellFormed.{fault}
use Rattle.qgm_meaning.specs.Scope.{read_by}
use Rattle.qgm_edit_laws.specs.Changes.{Reparts}
use Rattle.qgm_edit_laws.specs.FormedEdits.{MayBe}
use Rattle.qgm_edit_laws.specs.Graph.{Sound, nodes_in, reads_in}
use Rattle.qgm_edit_laws.specs.Shaped.{Shaped, Typed}
use Rattle.qgm_edit_laws.proofs.Edits.{once-each}
use Rattle.qgm_edit_laws.proofs.Formed.{sound-checked}
use Rattle.qgm_edit_laws.proofs.OneBox.{at, change-at}
use Rattle.qgm_edit_laws.proofs.PartForms.{PartForm, at-all, bare-same, parts-read}
use Rattle.qgm_edit_laws.proofs.PlacedOne.{g-cases}
use Rattle.qgm_edit_laws.proofs.Scoped.{scoped-of}
use Rattle.qgm_edit_laws.proofs.ShapeParts.{shape-from, shape-parts}

-- a box of another distinctness, or with more room
module _ (g : QueryGraph) (u : EachOnce (numbers g.boxes)) (f : fault g ≡ None) (n : Node) (i : In n g.boxes) (d : Node → Distinct) (k : Node → ℕ) where
  abbrev h : Node → Node
  h y = record y { parts = record y.parts { distinct = d y; conds = record y.parts.conds { spare = k y } } }

  abbrev bs : List Node
  bs = g.boxes

  abbrev gh : Node → Node
  gh = at n.id h

  p : Sound bs g.root × Typed bs × Shaped bs g.root
  p = (sound-checked g u).0 f

  all : {X : Type 0} (P : Node → X) → ((y : Node) (d : Distinct) (k : ℕ) → P (record y { parts = record y.parts { distinct = d; conds = record y.parts.conds { spare = k } } }) ≡ P y) → (y : Node) → P (gh y) ≡ P y
  all P e = at-all n.id h P (λ y. e y (d y) (k y))

  reparts : Reparts bs gh
  reparts = record {
    id = all (λ z. z.id) (λ y d k. refl);
    kind = λ y j. all (λ z. z.parts.kind) (λ y d k. refl) y;
    quants = λ y j. all (λ z. z.quants) (λ y d k. refl) y;
    wide = λ y j. all width (λ y d k. refl) y;
    reads = λ y j q t. (scoped-of bs g.root p.0 y j).own q (sym (all (λ z. read_by z q) (λ y d k. refl) y) ∙ t);
    fits = λ y j q k t. p.0.fits y j q k (sym (all (λ z. reads_in q k z) (λ y d k. refl) y) ∙ t);
    own_nodes = λ y j q t. p.0.own_nodes y j q (sym (all (λ z. nodes_in q z) (λ y d k. refl) y) ∙ t);
    bare = λ y j. bare-same y.parts.kind y (gh y) (all (λ z. z.quants) (λ y d k. refl) y) (all (λ z. z.parts.head) (λ y d k. refl) y) (all (λ z. z.parts.conds.items) (λ y d k. refl) y) (p.0.bare y j);
  }

  form : shape_fits g.root bs (h n) ≡ true → (is_permit (h n).parts.distinct ≡ true → (n.id ≡ g.root → ⊥) × ((y : Node) (r : OwnedQuant) → In y bs → In r y.quants → r.over ≡ n.id → is_F_or_S r.kind ≡ false)) → PartForm bs g.root n (h n)
  form shape permit = record {
    stay = refl;
    cells = (
        let a = and_parts (list_all (λ x. is_known (term_type (lookup_of bs) x)) n.parts.head) (list_all (cond_fits (lookup_of bs)) n.parts.conds.items && arms_agree (types_of bs) n.parts.kind n.quants) (p.1 n i) in
        a.0);
    magic = refl;
    conds = (
        let a = and_parts (list_all (λ x. is_known (term_type (lookup_of bs) x)) n.parts.head) (list_all (cond_fits (lookup_of bs)) n.parts.conds.items && arms_agree (types_of bs) n.parts.kind n.quants) (p.1 n i) in
        (and_parts (list_all (cond_fits (lookup_of bs)) n.parts.conds.items) (arms_agree (types_of bs) n.parts.kind n.quants) a.1).0);
    columns = p.2.columns n i;
    shape = shape;
    permit = permit;
  }

  pub still-formed : shape_fits g.root bs (h n) ≡ true → (is_permit (h n).parts.distinct ≡ true → (n.id ≡ g.root → ⊥) × ((y : Node) (r : OwnedQuant) → In y bs → In r y.quants → r.over ≡ n.id → is_F_or_S r.kind ≡ false)) → fault (on_boxes (map gh) g) ≡ None
  still-formed shape permit = parts-read g u f gh reparts
      (λ y j. elim (g-cases bs p.0.ordered n i h (λ y. refl) y j) [
        | inl e ↦ inr (subst (λ z. PartForm bs g.root z (gh y)) (sym e.0) (subst (λ z. PartForm bs g.root n z) (sym e.1) (form shape permit)))
        | inr e ↦ inl e.1
      ])
      (λ y j q t. all (λ z. read_by z q) (λ y d k. refl) y ∙ t)

module _ (root : ℕ) (bs : List Node) (n : Node) (d : Distinct) (magic : is_magic n.parts.role ≡ true → is_enforce d ≡ true) (fed : is_fed n.parts.role ≡ true → is_preserve d ≡ true) where
  role-now : (k : Role) → n.parts.role ≡ k → role_fits root bs n k ≡ true → role_fits root bs (with_distinct d n) k ≡ true
  role-now Plain e h = refl
  role-now Magic e h = let a = and_parts (is_enforce n.parts.distinct) (all_F n.quants) h in and_from (is_enforce d) (all_F n.quants) (magic (ap is_magic e)) a.1
  role-now Fed e h =
      let a = and_parts (not (n.id == root) && is_preserve n.parts.distinct && is_none n.parts.conds.items) (fed_by bs n.parts.head n.quants) h in
      let b = and_parts (not (n.id == root) && is_preserve n.parts.distinct) (is_none n.parts.conds.items) a.0 in
      let c = and_parts (not (n.id == root)) (is_preserve n.parts.distinct) b.0 in
      and_from (not (n.id == root) && is_preserve d && is_none n.parts.conds.items) (fed_by bs n.parts.head n.quants) (and_from (not (n.id == root) && is_preserve d) (is_none n.parts.conds.items) (and_from (not (n.id == root)) (is_preserve d) c.0 (fed (ap is_fed e))) b.1) a.1

  kind-now : (k : BoxKind) → kind_fits root bs n k ≡ true → kind_fits root bs (with_distinct d n) k ≡ true
  kind-now (Base t) h = h
  kind-now Select h = let a = and_parts (is_unfolded n) (role_fits root bs n n.parts.role) h in and_from (is_unfolded n) (role_fits root bs (with_distinct d n) n.parts.role) a.0 (role-now n.parts.role refl a.1)
  kind-now (Group k) h = h
  kind-now (SetOp form types) h = h
  kind-now OuterJoin h = h

  shape-now : shape_fits root bs n ≡ true → shape_fits root bs (with_distinct d n) ≡ true
  shape-now h = let p = shape-parts root bs n h in shape-from root bs (with_distinct d n) (record { kind = kind-now n.parts.kind p.kind; nodes = p.nodes; placed = p.placed; scalar = p.scalar })

module _ (g : QueryGraph) (u : EachOnce (numbers g.boxes)) (f : fault g ≡ None) where
  w : Sound g.boxes g.root × Typed g.boxes × Shaped g.boxes g.root
  w = (sound-checked g u).0 f

  at-box : (n : Node) (h : Node → Node) → fault (on_boxes (map (at n.id h)) g) ≡ None → fault (on_boxes (change (λ y. y.id == n.id) h) g) ≡ None
  at-box n h d = subst (λ z. fault (record g { boxes = z }) ≡ None) (sym (change-at n.id h g.boxes (once-each g.boxes w.0.ordered))) d

  pub set-distinct-formed : (n : Node) (d : Distinct) → MayBe g n d → fault (set_distinct n.id d g) ≡ None
  set-distinct-formed n d m = at-box n (with_distinct d) (still-formed g u f n m.within (λ y. d) (λ y. y.parts.conds.spare)
      (shape-now g.root g.boxes n d m.magic m.fed (w.2.shapes n m.within)) (λ t. (m.not_root t, m.unseen t)))

  pub reserve-formed : (n : Node) (k : ℕ) → In n g.boxes → fault (reserve n.id k g) ≡ None
  reserve-formed n k i = at-box n (with_room k) (still-formed g u f n i (λ y. y.parts.distinct) (λ y. max y.parts.conds.spare k) (w.2.shapes n i) (λ t. w.2.unseen n i t))
