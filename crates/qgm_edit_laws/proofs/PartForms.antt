-- The check finds nothing more where parts of boxes change, and kinds, the types of columns and quantifiers stay.
use Rattle.std.proofs.Common.{ℕ, ◌==◌, ◌≡◌, ◌&&◌, cond, true, false, List, [], ◌∷◌, map, None, refl, sym, ap, ap₂, subst, ◌∙◌, ◌⊎◌, inl, inr}
use Rattle.std.specs.List.{list_all}
use Rattle.std.proofs.lemmas.Bool.{and_from, and_parts, cases_Bool}
use Rattle.qgm_core.specs.Boxes.{QueryGraph, has_box, numbers, owns}
use Rattle.qgm_core.specs.Edits.{on_boxes}
use Rattle.qgm_core.specs.Kinds.{is_F_or_S, is_fed, is_magic, is_permit}
use Rattle.list_laws.specs.Lists.{EachOnce, In}
use Rattle.qgm_core.specs.declared.kinds.BoxKind.{BoxKind}
use Rattle.qgm_core.specs.declared.kinds.BoxKind.TheVariants.{Base, Group, OuterJoin, Select, SetOp}
use Rattle.qgm_core.specs.declared.node.Node.{Node}
use Rattle.qgm_core.specs.declared.owned.OwnedQuant.{OwnedQuant}
use Rattle.qgm_wellformed.specs.Columns.{columns_fit}
use Rattle.qgm_wellformed.specs.Shapes.{shape_fits}
use Rattle.qgm_wellformed.specs.Types.{arms_agree, cond_fits, is_known, lookup_of, term_type, types_agree, types_by, types_of}
use Rattle.qgm_wellformed.specs.WellFormed.{fault}
use Rattle.qgm_meaning.specs.Scope.{loose, read_by}
use Rattle.qgm_edit_laws.specs.Changes.{Reparts}
use Rattle.qgm_edit_laws.specs.Graph.{BareBy, Sound}
use Rattle.qgm_edit_laws.specs.FedOpen.{FedOpen}
use Rattle.qgm_edit_laws.specs.Reforms.{BoxForm}
use Rattle.qgm_edit_laws.specs.Scoped.{Scoped}
use Rattle.qgm_edit_laws.specs.Shaped.{Shaped, Typed}
use Rattle.qgm_edit_laws.proofs.BoxForms.{counted-seen, formed-by, looks-over, scalar-column, stands}
use Rattle.qgm_edit_laws.proofs.Changes.{parts-scoped, parts-sound}
use Rattle.qgm_edit_laws.proofs.Formed.{sound-checked}
use Rattle.qgm_edit_laws.proofs.FreeLoose.{open-looks}
use Rattle.qgm_edit_laws.proofs.OneBox.{at}
use Rattle.qgm_edit_laws.proofs.Scoped.{bounded}
use Rattle.qgm_core.proofs.Reaching.{overs-held}
use Rattle.list_laws.proofs.Membership.{in-map}
use Rattle.list_laws.proofs.Booleans.{clash}

-- what is so of a box whichever one changes
pub at-all : (b : ℕ) (f : Node → Node) {X : Type 0} (P : Node → X) → ((y : Node) → P (f y) ≡ P y) → (y : Node) → P (at b f y) ≡ P y
at-all b f P same y = elim (y.id == b) as (λ t. P (cond t (f y) y) ≡ P y) [ true ↦ same y | false ↦ refl ]

pub bare-same : (k : BoxKind) (n m : Node) → m.quants ≡ n.quants → m.parts.head ≡ n.parts.head → m.parts.conds.items ≡ n.parts.conds.items → BareBy k n → BareBy k m
bare-same (Base t) n m q h c b = (q ∙ b.0, h ∙ b.1, c ∙ b.2)
bare-same Select n m q h c b = tt
bare-same (Group k) n m q h c b = tt
bare-same (SetOp form types) n m q h c b = (h ∙ b.0, c ∙ b.1)
bare-same OuterJoin n m q h c b = tt

-- the form of a box y whose parts change, n after it
pub record PartForm (bs : List Node) (root : ℕ) (y n : Node) : Type 0 where
  pub stay : types_by (lookup_of bs) y.parts.kind n.parts.head ≡ types_by (lookup_of bs) y.parts.kind y.parts.head
  pub magic : is_magic n.parts.role ≡ is_magic y.parts.role
  pub cells : list_all (λ x. is_known (term_type (lookup_of bs) x)) n.parts.head ≡ true
  pub conds : list_all (cond_fits (lookup_of bs)) n.parts.conds.items ≡ true
  pub columns : columns_fit bs n ≡ true
  pub shape : shape_fits root bs n ≡ true
  pub permit : is_permit n.parts.distinct ≡ true → (y.id ≡ root → ⊥) × ((m : Node) (r : OwnedQuant) → In m bs → In r m.quants → r.over ≡ y.id → is_F_or_S r.kind ≡ false)

-- q isn't a quantifier of the box, and it reads it, or it is looked up under a quantifier of it
abbrev Asked : List Node → Node → ℕ → Type 0
Asked bs z q = (owns q z ≡ false) × ((read_by z q ≡ true) ⊎ ((r : OwnedQuant) × (In r z.quants × (loose bs r.over q ≡ true))))

module _ (g : QueryGraph) (u : EachOnce (numbers g.boxes)) (f : fault g ≡ None) (h : Node → Node) (m : Reparts g.boxes h) (each : (y : Node) → In y g.boxes → (h y ≡ y) ⊎ PartForm g.boxes g.root y (h y)) where
  abbrev bs : List Node
  bs = g.boxes

  abbrev hs : List Node
  hs = map h bs

  p : Sound bs g.root × Typed bs × Shaped bs g.root
  p = (sound-checked g u).0 f

  pub sound : Sound hs g.root
  sound = parts-sound bs g.root p.0 h m

  types-h : (y : Node) → In y bs → PartForm bs g.root y (h y) → types_agree bs (h y) ≡ true
  types-h y i k =
      let a = and_parts (list_all (λ x. is_known (term_type (lookup_of bs) x)) y.parts.head) (list_all (cond_fits (lookup_of bs)) y.parts.conds.items && arms_agree (types_of bs) y.parts.kind y.quants) (p.1 y i) in
      let d = and_parts (list_all (cond_fits (lookup_of bs)) y.parts.conds.items) (arms_agree (types_of bs) y.parts.kind y.quants) a.1 in
      and_from (list_all (λ x. is_known (term_type (lookup_of bs) x)) (h y).parts.head) (list_all (cond_fits (lookup_of bs)) (h y).parts.conds.items && arms_agree (types_of bs) (h y).parts.kind (h y).quants)
      k.cells
      (and_from (list_all (cond_fits (lookup_of bs)) (h y).parts.conds.items) (arms_agree (types_of bs) (h y).parts.kind (h y).quants) k.conds (ap₂ (arms_agree (types_of bs)) (m.kind y i) (m.quants y i) ∙ d.1))

  not-permit : (y z : Node) (r : OwnedQuant) → In y bs → In r y.quants → is_F_or_S r.kind ≡ true → In z bs → z.id ≡ r.over → is_permit (h z).parts.distinct ≡ false
  not-permit y z r i j t l e = elim (each z l) [
    | inl q ↦ ap (λ (z : Node). is_permit z.parts.distinct) q ∙ counted-seen bs g.root p.1 p.2 y z r i j t l e
    | inr k ↦ elim (cases_Bool (is_permit (h z).parts.distinct)) [ inr n ↦ n | inl q ↦ absurd (clash (is_F_or_S r.kind) t ((k.permit q).1 y r i j (sym e))) ]
  ]

  form : (y : Node) → In y bs → PartForm bs g.root y (h y) → BoxForm bs g.root h y
  form y i k = record {
    stay = ap (λ z. types_by (lookup_of bs) z (h y).parts.head) (m.kind y i) ∙ k.stay;
    magic = k.magic;
    stood = λ r j. inl (stands bs g.root p.1 p.2 y r i (was r j));
    types = types-h y i k;
    columns = k.columns;
    shape = k.shape;
    scalars = λ z r j t l e. scalar-column bs g.root p.1 p.2 y z r i (was r j) t l e;
    unseen = λ z r j t l e. not-permit y z r i (was r j) t l e;
    permit = k.permit;
  }
    where
      was : (r : OwnedQuant) → In r (h y).quants → In r y.quants
      was r j = subst (λ z. In r z) (m.quants y i) j

  pub less : (b q : ℕ) → loose hs b q ≡ true → loose bs b q ≡ true
  less = bounded (loose bs) hs sound.once (λ n j. (let y = in-map h n bs j in subst (λ z. Scoped (loose bs) z) y.1.1 (parts-scoped bs g.root p.0 h m y.0 y.1.0)))

  by-form : ((n : Node) (a d : OwnedQuant) → In n hs → is_fed n.parts.role ≡ true → n.quants ≡ a ∷ (d ∷ []) → loose bs d.over a.id ≡ true → (x : ℕ) × (loose hs d.over x ≡ true)) → fault (on_boxes (map h) g) ≡ None
  by-form some = formed-by g u f h m.id (λ y i. elim (each y i) [ inl e ↦ inl e | inr k ↦ inr (form y i k) ]) sound less some

  -- where no fed box is left over a closed box
  pub parts-open : FedOpen hs → fault (on_boxes (map h) g) ≡ None
  parts-open o = by-form (λ n a d i k e t. open-looks hs g.root sound d.over (o n i k a d e))

  -- where boxes read what they read
  pub parts-read : ((y : Node) → In y bs → (q : ℕ) → read_by y q ≡ true → read_by (h y) q ≡ true) → fault (on_boxes (map h) g) ≡ None
  parts-read same = by-form (λ n a d j k e t. (a.id, more d.over a.id (overs-held hs n d sound.ordered j (subst (λ z. In d z) (sym e) (inr (inl refl)))) t))
    where
      asked : (y : Node) → In y bs → (q : ℕ) → Asked bs y q → Asked bs (h y) q
      asked y i q a = (
        subst (λ rs. owns q (record y { quants = rs }) ≡ false) (sym (m.quants y i)) a.0,
        elim a.1 [ inl t ↦ inl (same y i q t) | inr t ↦ inr (t.0, (subst (λ rs. In t.0 rs) (sym (m.quants y i)) t.1.0, t.1.1)) ],
      )

      more : (b q : ℕ) → has_box hs b ≡ true → loose bs b q ≡ true → loose hs b q ≡ true
      more = looks-over bs hs g.root p.0 sound (λ n j. (
          let y = in-map h n bs j in
          (y.0, (y.1.0, (sym (m.id y.0) ∙ ap (λ (z : Node). z.id) y.1.1, λ q l o a. subst (λ z. Asked bs z q) y.1.1 (asked y.0 y.1.0 q (o, a)))))))
