-- Where parts change, no fed box is left over a closed box.
use Rattle.std.proofs.Common.{ℕ, ◌≡◌, true, false, List, ◌∷◌, map, None, refl, sym, ap, subst, ◌∙◌, ◌⊎◌, inl, inr, []}
use Rattle.qgm_core.specs.Boxes.{QueryGraph, has_box, numbers, owns}
use Rattle.qgm_core.specs.Kinds.{is_fed}
use Rattle.qgm_core.specs.Free.{free_in}
use Rattle.qgm_wellformed.specs.WellFormed.{is_empty, fault}
use Rattle.list_laws.specs.Lists.{EachOnce, In, holds}
use Rattle.qgm_core.specs.declared.node.Node.{Node}
use Rattle.qgm_core.specs.declared.owned.OwnedQuant.{OwnedQuant}
use Rattle.qgm_wellformed.specs.Shapes.{fed_by, only}
use Rattle.qgm_meaning.specs.Scope.{loose, read_by}
use Rattle.qgm_edit_laws.specs.Changes.{Reparts}
use Rattle.qgm_edit_laws.specs.Graph.{Sound}
use Rattle.qgm_edit_laws.specs.FedOpen.{FedOpen}
use Rattle.qgm_edit_laws.specs.Scoped.{Scoped}
use Rattle.qgm_edit_laws.specs.Shaped.{Shaped, Typed}
use Rattle.qgm_edit_laws.proofs.BoxForms.{looks-over}
use Rattle.qgm_edit_laws.proofs.Changes.{parts-scoped, parts-sound}
use Rattle.qgm_edit_laws.proofs.Formed.{sound-checked}
use Rattle.qgm_wellformed.proofs.Below.{free-free}
use Rattle.qgm_edit_laws.proofs.FreeLoose.{alone-from, alone-to, looks-free}
use Rattle.qgm_edit_laws.proofs.Scoped.{bounded}
use Rattle.qgm_edit_laws.proofs.ShapeParts.{fed-parts, shape-parts, two-parts}
use Rattle.qgm_core.proofs.Reaching.{overs-held}
use Rattle.list_laws.proofs.Membership.{in-map}

module _ (g : QueryGraph) (u : EachOnce (numbers g.boxes)) (f : fault g ≡ None) (h : Node → Node) (m : Reparts g.boxes h) (role : (y : Node) → In y g.boxes → is_fed (h y).parts.role ≡ is_fed y.parts.role)
    (same : (y : Node) → In y g.boxes → (q : ℕ) → owns q y ≡ false → read_by y q ≡ true → read_by (h y) q ≡ true) where
  abbrev bs : List Node
  bs = g.boxes

  abbrev hs : List Node
  hs = map h bs

  p : Sound bs g.root × Typed bs × Shaped bs g.root
  p = (sound-checked g u).0 f

  v : Sound hs g.root
  v = parts-sound bs g.root p.0 h m

  less : (b q : ℕ) → loose hs b q ≡ true → loose bs b q ≡ true
  less = bounded (loose bs) hs v.once (λ n j. (let y = in-map h n bs j in subst (λ z. Scoped (loose bs) z) y.1.1 (parts-scoped bs g.root p.0 h m y.0 y.1.0)))

  abbrev Asked : Node → ℕ → Type 0
  Asked z q = (owns q z ≡ false) × ((read_by z q ≡ true) ⊎ ((r : OwnedQuant) × (In r z.quants × (loose bs r.over q ≡ true))))

  asked : (y : Node) → In y bs → (q : ℕ) → Asked y q → Asked (h y) q
  asked y i q a = (
    subst (λ rs. owns q (record y { quants = rs }) ≡ false) (sym (m.quants y i)) a.0,
    elim a.1 [ inl t ↦ inl (same y i q a.0 t) | inr t ↦ inr (t.0, (subst (λ rs. In t.0 rs) (sym (m.quants y i)) t.1.0, t.1.1)) ],
  )

  keeps : (b q : ℕ) → has_box hs b ≡ true → loose bs b q ≡ true → loose hs b q ≡ true
  keeps = looks-over bs hs g.root p.0 v (λ n j. (
      let y = in-map h n bs j in
      (y.0, (y.1.0, (sym (m.id y.0) ∙ ap (λ (z : Node). z.id) y.1.1, λ q l o a. subst (λ z. Asked z q) y.1.1 (asked y.0 y.1.0 q (o, a)))))))

  pub open-kept : FedOpen hs
  open-kept n i k a d e =
      let y = in-map h n bs i in
      let fed : is_fed y.0.parts.role ≡ true = sym (role y.0 y.1.0) ∙ ap (λ (z : Node). is_fed z.parts.role) y.1.1 ∙ k in
      let e' : y.0.quants ≡ a ∷ (d ∷ []) = sym (m.quants y.0 y.1.0) ∙ ap (λ (z : Node). z.quants) y.1.1 ∙ e in
      let o = two-parts bs y.0.parts.head a d (ap (fed_by bs y.0.parts.head) (sym e') ∙ (fed-parts g.root bs y.0 fed (shape-parts g.root bs y.0 (p.2.shapes y.0 y.1.0)).kind).fed) in
      let old = alone-to bs g.root p.0 d.over a.id o.alone in
      let held : has_box hs d.over ≡ true = overs-held hs n d v.ordered i (subst (λ z. In d z) (sym e) (inr (inl refl))) in
      not-empty a.id (free_in hs d.over) (alone-from hs g.root v d.over a.id (keeps d.over a.id held old.0) (λ q t. old.1 q (less d.over q t)))
    where
      not-empty : (q : ℕ) (xs : List ℕ) → only q xs ≡ true → is_empty xs ≡ false
      not-empty q [] t = absurd (let z : ⊥ = cc in z)
      not-empty q (x ∷ xs) t = refl

-- a box that looks something up isn't closed
pub looks-open : (bs : List Node) (root : ℕ) → Sound bs root → (b q : ℕ) → loose bs b q ≡ true → is_empty (free_in bs b) ≡ false
looks-open bs root w b q t = held (free_in bs b) ((free-free bs w.ordered b q).1 (looks-free bs root w b q t))
  where
    held : (xs : List ℕ) → holds q xs ≡ true → is_empty xs ≡ false
    held [] h = absurd (let z : ⊥ = cc in z)
    held (x ∷ xs) h = refl
