-- Boxes that change where they stand, each in its form, keep types and shapes.
use Rattle.std.proofs.Common.{ℕ, ◌==◌, ◌≡◌, ◌&&◌, nat_lt, true, false, List, [], ◌∷◌, map, None, refl, sym, ap, subst, ◌∙◌, ◌⊎◌, inl, inr}
use Rattle.std.proofs.lemmas.Bool.{and_from, cases_Bool, eq-eqb}
use Rattle.qgm_core.specs.Boxes.{QueryGraph, has_box, numbers, owns, width}
use Rattle.qgm_core.specs.Edits.{on_boxes}
use Rattle.qgm_core.specs.Free.{named_by}
use Rattle.qgm_core.specs.Kinds.{is_F_or_S, is_S, is_fed, is_magic, is_permit}
use Rattle.list_laws.specs.Lists.{EachOnce, In, holds}
use Rattle.qgm_core.specs.declared.node.Node.{Node}
use Rattle.qgm_core.specs.declared.owned.OwnedQuant.{OwnedQuant}
use Rattle.qgm_wellformed.specs.Columns.{columns_fit}
use Rattle.qgm_wellformed.specs.Shapes.{fed_by, is_scalar_in, shape_fits}
use Rattle.qgm_wellformed.specs.Types.{lookup_of, types_agree, types_by}
use Rattle.qgm_wellformed.specs.WellFormed.{fault}
use Rattle.qgm_meaning.specs.Scope.{loose, read_by}
use Rattle.qgm_edit_laws.specs.Graph.{Sound}
use Rattle.qgm_edit_laws.specs.Reforms.{BoxForm, BoxesFormed, FedAlone, Reforms, Stood}
use Rattle.qgm_edit_laws.specs.Shaped.{Shaped, Typed}
use Rattle.qgm_edit_laws.proofs.Facts.{looks-stay}
use Rattle.qgm_edit_laws.proofs.Formed.{sound-checked}
use Rattle.qgm_edit_laws.proofs.FreeLoose.{alone-to, looks-asked}
use Rattle.qgm_edit_laws.proofs.Reformed.{shaped-after, typed-after}
use Rattle.qgm_edit_laws.proofs.ShapeParts.{fed-parts, shape-parts, two-parts}
use Rattle.qgm_edit_laws.proofs.WellFormedKept.{numbers-once}
use Rattle.list_laws.proofs.Membership.{any-from, in-map}
use Rattle.list_laws.proofs.Booleans.{clash}

module _ (bs : List Node) (root : ℕ) (t : Typed bs) (s : Shaped bs root) where
  -- what an S quantifier ranges over has a column
  pub scalar-column : (y z : Node) (r : OwnedQuant) → In y bs → In r y.quants → is_S r.kind ≡ true → In z bs → z.id ≡ r.over → nat_lt 0 (width z) ≡ true
  scalar-column y z r i j k l e = (shape-parts root bs z (s.shapes z l)).scalar (any-from (λ (n : Node). is_scalar_in n.quants z.id) y bs i (any-from (λ (r : OwnedQuant). (r.over == z.id) && is_S r.kind) r y.quants j (and_from (r.over == z.id) (is_S r.kind) (eq-eqb r.over z.id (sym e)) k)))

  -- what an F or S quantifier ranges over isn't PERMIT
  pub counted-seen : (y z : Node) (r : OwnedQuant) → In y bs → In r y.quants → is_F_or_S r.kind ≡ true → In z bs → z.id ≡ r.over → is_permit z.parts.distinct ≡ false
  counted-seen y z r i j k l e = elim (cases_Bool (is_permit z.parts.distinct)) [ inr f ↦ f | inl p ↦ absurd (clash (is_F_or_S r.kind) k ((s.unseen z l p).1 y r i j (sym e))) ]

  -- a quantifier of one of these boxes
  pub stands : (y : Node) (r : OwnedQuant) → In y bs → In r y.quants → Stood bs r
  stands y r i j = (y, (i, (r, (j, (refl, refl)))))

  module _ (g : Node → Node) (id : (y : Node) → (g y).id ≡ y.id) (each : (y : Node) → In y bs → (g y ≡ y) ⊎ BoxForm bs root g y) where
    -- what is so of a box that changes, and of one that doesn't
    by-form : (P : Node → Node → Type 0) → (y : Node) → In y bs → P y y → (BoxForm bs root g y → P y (g y)) → P y (g y)
    by-form P y i old new = elim (each y i) [ inl e ↦ subst (λ z. P y z) (sym e) old | inr f ↦ new f ]

    not-permit : (y z : Node) (r : OwnedQuant) → In y bs → In r y.quants → is_F_or_S r.kind ≡ true → In z bs → z.id ≡ r.over → is_permit (g z).parts.distinct ≡ false
    not-permit y z r i j k l e = elim (cases_Bool (is_permit (g z).parts.distinct)) [
      | inr f ↦ f
      | inl p ↦ absurd (elim (each z l) [
        | inl q ↦ clash (is_F_or_S r.kind) k ((s.unseen z l (subst (λ (z : Node). is_permit z.parts.distinct ≡ true) q p)).1 y r i j (sym e))
        | inr f ↦ clash (is_F_or_S r.kind) k ((f.permit p).1 y r i j (sym e))
      ])
    ]

    pub reforms-by : FedAlone (map g bs) → Reforms bs (map g bs) root g
    reforms-by fed = record {
      from = λ n i. in-map g n bs i;
      id = id;
      stay = λ y i. by-form (λ y z. types_by (lookup_of bs) z.parts.kind z.parts.head ≡ types_by (lookup_of bs) y.parts.kind y.parts.head) y i refl (λ f. f.stay);
      magic = λ y i. elim (each y i) [ inl e ↦ ap (λ (z : Node). is_magic z.parts.role) e | inr f ↦ f.magic ];
      stood = λ y z r i j k h. elim (each y i) [
        | inl e ↦ stands y r i (subst (λ (z : Node). In r z.quants) e j)
        | inr f ↦ elim (f.stood r j) [ inl x ↦ x | inr n ↦ absurd (clash (holds r.id (named_by (g z))) h (n z k)) ]
      ];
      types = λ y i. by-form (λ y z. types_agree bs z ≡ true) y i (t y i) (λ f. f.types);
      columns = λ y i. by-form (λ y z. columns_fit bs z ≡ true) y i (s.columns y i) (λ f. f.columns);
      shapes = λ y i. by-form (λ y z. shape_fits root bs z ≡ true) y i (s.shapes y i) (λ f. f.shape);
      scalars = λ y z r i j k l e. elim (each y i) [
        | inl x ↦ scalar-column y z r i (subst (λ (z : Node). In r z.quants) x j) k l e
        | inr f ↦ f.scalars z r j k l e
      ];
      unseen = λ y z r i j k l e. elim (each y i) [
        | inl x ↦ not-permit y z r i (subst (λ (z : Node). In r z.quants) x j) k l e
        | inr f ↦ f.unseen z r j k l e
      ];
      root_seen = λ y i e. elim (cases_Bool (is_permit (g y).parts.distinct)) [
        | inr f ↦ f
        | inl p ↦ absurd (elim (each y i) [
          | inl x ↦ (s.unseen y i (subst (λ (z : Node). is_permit z.parts.distinct ≡ true) x p)).0 e
          | inr f ↦ (f.permit p).0 e
        ])
      ];
      fed = fed;
    }

pub boxes-formed : BoxesFormed
boxes-formed g u f h id each v fed =
    let p = (sound-checked g u).0 f in
    let m = reforms-by g.boxes g.root p.1 p.2 h id each fed in
    (sound-checked (on_boxes (map h) g) (numbers-once (map h g.boxes) v.ordered)).1 (v, typed-after g.boxes (map h g.boxes) g.root h p.0 v m, shaped-after g.boxes (map h g.boxes) g.root h p.0 v m)

-- ---- what is looked up, where boxes change

-- what is looked up in boxes is looked up in those that ask for it, each as one of the same number did
pub looks-over : (bs hs : List Node) (root : ℕ) → Sound bs root → Sound hs root
    → ((n : Node) → In n hs → (y : Node) × (In y bs × ((y.id ≡ n.id) × ((q : ℕ) → loose bs y.id q ≡ true → owns q y ≡ false → (read_by y q ≡ true) ⊎ ((r : OwnedQuant) × (In r y.quants × (loose bs r.over q ≡ true)))
    → (owns q n ≡ false) × ((read_by n q ≡ true) ⊎ ((r : OwnedQuant) × (In r n.quants × (loose bs r.over q ≡ true))))))))
    → (b q : ℕ) → has_box hs b ≡ true → loose bs b q ≡ true → loose hs b q ≡ true
looks-over bs hs root w v asks b q h t = looks-stay (loose bs) hs v.ordered v.bare (λ n i. (
    let y = asks n i in
    λ q t. (
    let l : loose bs y.0.id q ≡ true = subst (λ z. loose bs z q ≡ true) (sym y.1.1.0) t in
    let a = looks-asked bs root w y.0 y.1.0 q l in
    y.1.1.1 q l a.0 a.1))) b q h t

-- under the second quantifiers of fed boxes the first one alone is looked up: each has its shape over the boxes as they were, no more is looked up there, and something is
pub alone-by : (bs hs : List Node) (root : ℕ) → Sound bs root → ((n : Node) → In n hs → shape_fits root bs n ≡ true) → ((b q : ℕ) → loose hs b q ≡ true → loose bs b q ≡ true)
    → ((n : Node) (a d : OwnedQuant) → In n hs → is_fed n.parts.role ≡ true → n.quants ≡ a ∷ (d ∷ []) → loose bs d.over a.id ≡ true → (x : ℕ) × (loose hs d.over x ≡ true)) → FedAlone hs
alone-by bs hs root w shapes less some n i f a d e =
    let p = fed-parts root bs n f (shape-parts root bs n (shapes n i)).kind in
    let t = two-parts bs n.parts.head a d (ap (fed_by bs n.parts.head) (sym e) ∙ p.fed) in
    let old = alone-to bs root w d.over a.id t.alone in
    let x = some n a d i f e old.0 in
    (subst (λ q. loose hs d.over q ≡ true) (old.1 x.0 (less d.over x.0 x.1)) x.1, λ q t. old.1 q (less d.over q t))

-- the check finds nothing where boxes change, each in its form, no more is looked up, and something is under the second quantifiers of fed boxes
pub formed-by : (g : QueryGraph) → EachOnce (numbers g.boxes) → fault g ≡ None → (f : Node → Node) → ((y : Node) → (f y).id ≡ y.id) → ((y : Node) → In y g.boxes → (f y ≡ y) ⊎ BoxForm g.boxes g.root f y)
    → Sound (map f g.boxes) g.root → ((b q : ℕ) → loose (map f g.boxes) b q ≡ true → loose g.boxes b q ≡ true)
    → ((n : Node) (a d : OwnedQuant) → In n (map f g.boxes) → is_fed n.parts.role ≡ true → n.quants ≡ a ∷ (d ∷ []) → loose g.boxes d.over a.id ≡ true → (x : ℕ) × (loose (map f g.boxes) d.over x ≡ true))
    → fault (on_boxes (map f) g) ≡ None
formed-by g u f h id each v less some =
    let p = (sound-checked g u).0 f in
    boxes-formed g u f h id each v (alone-by g.boxes (map h g.boxes) g.root p.0 (λ n i. (
    let y = in-map h n g.boxes i in
    subst (λ z. shape_fits g.root g.boxes z ≡ true) y.1.1 (elim (each y.0 y.1.0) [ inl e ↦ ap (shape_fits g.root g.boxes) e ∙ p.2.shapes y.0 y.1.0 | inr k ↦ k.shape ]))) less some)
