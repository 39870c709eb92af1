-- The check finds nothing more where the quantifiers of one box change.
use Rattle.std.proofs.Common.{ℕ, ◌≡◌, ◌&&◌, nat_lt, true, false, List, map, None, refl, sym, ap, subst, ◌∙◌, ◌⊎◌, inl, inr}
use Rattle.std.specs.List.{list_all}
use Rattle.std.proofs.lemmas.Bool.{and_from, and_parts}
use Rattle.qgm_core.specs.Boxes.{QueryGraph, has_box, numbers, owns, width}
use Rattle.qgm_core.specs.Edits.{on_boxes}
use Rattle.qgm_core.specs.Free.{named_by}
use Rattle.qgm_core.specs.Kinds.{is_F_or_S, is_S, is_magic, is_permit}
use Rattle.list_laws.specs.Lists.{EachOnce, In, holds}
use Rattle.qgm_core.specs.declared.kinds.BoxKind.{BoxKind}
use Rattle.qgm_core.specs.declared.kinds.BoxKind.TheVariants.{Base, Group, OuterJoin, Select, SetOp}
use Rattle.qgm_core.specs.declared.node.Node.{Node}
use Rattle.qgm_core.specs.declared.owned.OwnedQuant.{OwnedQuant}
use Rattle.qgm_core.specs.declared.parts.BoxParts.{BoxParts}
use Rattle.qgm_wellformed.specs.Columns.{columns_fit}
use Rattle.qgm_wellformed.specs.Shapes.{shape_fits}
use Rattle.qgm_wellformed.specs.Types.{all_agree, arm_agrees, arms_agree, cond_fits, is_known, known, lookup_of, term_type, types_agree, types_by, types_of}
use Rattle.qgm_wellformed.specs.WellFormed.{fault}
use Rattle.qgm_meaning.specs.Scope.{loose, read_by}
use Rattle.qgm_edit_laws.specs.Graph.{Sound}
use Rattle.qgm_edit_laws.specs.Reforms.{BoxForm, Stood, types_at}
use Rattle.qgm_edit_laws.specs.Scoped.{Scoped}
use Rattle.qgm_edit_laws.specs.Shaped.{Shaped, Typed}
use Rattle.qgm_edit_laws.proofs.BoxForms.{formed-by, looks-over}
use Rattle.qgm_edit_laws.proofs.Formed.{sound-checked}
use Rattle.qgm_edit_laws.proofs.OneBox.{at}
use Rattle.qgm_edit_laws.proofs.PlacedOne.{g-b, g-cases, g-id}
use Rattle.qgm_edit_laws.proofs.Quants.{parts-at}
use Rattle.qgm_edit_laws.proofs.Scoped.{bounded, scoped-of}
use Rattle.qgm_core.proofs.Reaching.{overs-held}
use Rattle.list_laws.proofs.Membership.{all-from, all-in, in-map}

-- what the arms of a set operation have, where its quantifiers change
arms-now : (bs : List Node) (rs ss : List OwnedQuant) (k : BoxKind) → (k ≡ Select) ⊎ ((r : OwnedQuant) → In r ss → (s : OwnedQuant) × (In s rs × (types_at bs s.over ≡ types_at bs r.over))) → arms_agree (types_of bs) k rs ≡ true → arms_agree (types_of bs) k ss ≡ true
arms-now bs rs ss (Base t) h a = refl
arms-now bs rs ss Select h a = refl
arms-now bs rs ss (Group keys) h a = refl
arms-now bs rs ss (SetOp form types) (inl e) a = absurd (let z : ⊥ = cc in z)
arms-now bs rs ss (SetOp form types) (inr h) a = all-from (arm_agrees (types_of bs) types) ss (λ r j. (
    let s = h r j in
    ap (λ z. all_agree z (known types)) (sym s.1.1) ∙ all-in (arm_agrees (types_of bs) types) s.0 rs a s.1.0))
arms-now bs rs ss OuterJoin h a = refl

module _ (g : QueryGraph) (u : EachOnce (numbers g.boxes)) (f : fault g ≡ None) (o : Node) (i : In o g.boxes) (h : Node → Node) (same : (y : Node) → (h y).id ≡ y.id) (parts : (h o).parts ≡ o.parts) where
  abbrev bs : List Node
  bs = g.boxes

  abbrev gh : Node → Node
  gh = at o.id h

  abbrev hs : List Node
  hs = map gh bs

  p : Sound bs g.root × Typed bs × Shaped bs g.root
  p = (sound-checked g u).0 f

  w : Sound bs g.root
  w = p.0

  to-h : gh o ≡ h o
  to-h = g-b bs w.ordered o i h same

  parts-all : (y : Node) → In y bs → (gh y).parts ≡ y.parts
  parts-all y j = parts-at bs g.root w o i h same parts y j

  module _ (v : Sound hs g.root) (scoped : Scoped (loose bs) (h o)) (kept : (q : ℕ) → loose bs o.id q ≡ true → owns q (h o) ≡ false)
      (under : (q : ℕ) (r : OwnedQuant) → In r o.quants → loose bs r.over q ≡ true → (s : OwnedQuant) × (In s (h o).quants × (loose bs s.over q ≡ true)))
      (stood : (r : OwnedQuant) → In r (h o).quants → Stood bs r ⊎ ((z : Node) → In z bs → holds r.id (named_by z) ≡ false))
      (arms : (o.parts.kind ≡ Select) ⊎ ((r : OwnedQuant) → In r (h o).quants → (s : OwnedQuant) × (In s o.quants × (types_at bs s.over ≡ types_at bs r.over))))
      (shape : shape_fits g.root bs (h o) ≡ true)
      (scalars : (z : Node) (r : OwnedQuant) → In r (h o).quants → is_S r.kind ≡ true → In z bs → z.id ≡ r.over → nat_lt 0 (width z) ≡ true)
      (unseen : (z : Node) (r : OwnedQuant) → In r (h o).quants → is_F_or_S r.kind ≡ true → In z bs → z.id ≡ r.over → is_permit z.parts.distinct ≡ false) where
    types-h : types_agree bs (h o) ≡ true
    types-h =
        let a = and_parts (list_all (λ x. is_known (term_type (lookup_of bs) x)) o.parts.head) (list_all (cond_fits (lookup_of bs)) o.parts.conds.items && arms_agree (types_of bs) o.parts.kind o.quants) (p.1 o i) in
        let d = and_parts (list_all (cond_fits (lookup_of bs)) o.parts.conds.items) (arms_agree (types_of bs) o.parts.kind o.quants) a.1 in
        ap (λ (p : BoxParts). list_all (λ x. is_known (term_type (lookup_of bs) x)) p.head && (list_all (cond_fits (lookup_of bs)) p.conds.items && arms_agree (types_of bs) p.kind (h o).quants)) parts
        ∙ and_from (list_all (λ x. is_known (term_type (lookup_of bs) x)) o.parts.head) (list_all (cond_fits (lookup_of bs)) o.parts.conds.items && arms_agree (types_of bs) o.parts.kind (h o).quants) a.0
        (and_from (list_all (cond_fits (lookup_of bs)) o.parts.conds.items) (arms_agree (types_of bs) o.parts.kind (h o).quants) d.0 (arms-now bs o.quants (h o).quants o.parts.kind arms d.1))

    form : BoxForm bs g.root gh o
    form = record {
      stay = ap (λ (p : BoxParts). types_by (lookup_of bs) p.kind p.head) (parts-all o i);
      magic = ap (λ (p : BoxParts). is_magic p.role) (parts-all o i);
      stood = λ r j. elim (stood r (subst (λ (z : Node). In r z.quants) to-h j)) [ inl x ↦ inl x | inr n ↦ inr (λ z k. subst (λ (p : BoxParts). holds r.id (named_by (record z { parts = p })) ≡ false) (sym (parts-all z k)) (n z k)) ];
      types = ap (types_agree bs) to-h ∙ types-h;
      columns = ap (λ (p : BoxParts). columns_fit bs (record o { parts = p })) (parts-all o i) ∙ p.2.columns o i;
      shape = ap (shape_fits g.root bs) to-h ∙ shape;
      scalars = λ z r j. scalars z r (subst (λ (z : Node). In r z.quants) to-h j);
      unseen = λ z r j t k e. ap (λ (p : BoxParts). is_permit p.distinct) (parts-all z k) ∙ unseen z r (subst (λ (z : Node). In r z.quants) to-h j) t k e;
      permit = λ t. p.2.unseen o i (ap (λ (p : BoxParts). is_permit p.distinct) (sym (parts-all o i)) ∙ t);
    }

    each : (y : Node) → In y bs → (gh y ≡ y) ⊎ BoxForm bs g.root gh y
    each y j = elim (g-cases bs w.ordered o i h same y j) [ inl e ↦ inr (subst (λ z. BoxForm bs g.root gh z) (sym e.0) form) | inr e ↦ inl e.1 ]

    less : (b q : ℕ) → loose hs b q ≡ true → loose bs b q ≡ true
    less = bounded (loose bs) hs v.once (λ n j. (
        let y = in-map gh n bs j in
        subst (λ z. Scoped (loose bs) z) y.1.1 (elim (g-cases bs w.ordered o i h same y.0 y.1.0) [
          | inl e ↦ subst (λ z. Scoped (loose bs) z) (sym e.1) scoped
          | inr e ↦ subst (λ z. Scoped (loose bs) z) (sym e.1) (scoped-of bs g.root w y.0 y.1.0)
        ])))

    more : (b q : ℕ) → has_box hs b ≡ true → loose bs b q ≡ true → loose hs b q ≡ true
    more = looks-over bs hs g.root w v (λ n j. (
        let y = in-map gh n bs j in (
          y.0,
          (
            y.1.0,
            (
              sym (g-id bs w.ordered o i h same y.0) ∙ ap (λ (z : Node). z.id) y.1.1,
              λ q l owned a.
                  subst (λ (z : Node). (owns q z ≡ false) × ((read_by z q ≡ true) ⊎ ((r : OwnedQuant) × (In r z.quants × (loose bs r.over q ≡ true))))) y.1.1
                  (elim (g-cases bs w.ordered o i h same y.0 y.1.0) [
                    | inr e ↦ subst (λ (z : Node). (owns q z ≡ false) × ((read_by z q ≡ true) ⊎ ((r : OwnedQuant) × (In r z.quants × (loose bs r.over q ≡ true))))) (sym e.1) (owned, a)
                    | inl e ↦ subst (λ (z : Node). (owns q z ≡ false) × ((read_by z q ≡ true) ⊎ ((r : OwnedQuant) × (In r z.quants × (loose bs r.over q ≡ true))))) (sym e.1) (
                      kept q (subst (λ (z : Node). loose bs z.id q ≡ true) e.0 l),
                      elim a [
                        | inl t ↦ inl (ap (λ (p : BoxParts). read_by (record o { parts = p }) q) parts ∙ subst (λ z. read_by z q ≡ true) e.0 t)
                        | inr t ↦ inr (under q t.0 (subst (λ (z : Node). In t.0 z.quants) e.0 t.1.0) t.1.1)
                      ],
                    )
                  ]),
            ),
          ),
        )))

    pub quants-formed : fault (on_boxes (map gh) g) ≡ None
    quants-formed = formed-by g u f gh (g-id bs w.ordered o i h same) each v less (λ n a d j k e t. (a.id, more d.over a.id (overs-held hs n d v.ordered j (subst (λ z. In d z) (sym e) (inr (inl refl)))) t))
