-- The check finds nothing more where a quantifier goes from one select to another.
use Rattle.std.proofs.Common.{ℕ, ◌==◌, ◌≡◌, ◌&&◌, cond, Bool, true, false, List, map, None, refl, sym, ap, subst, ◌∙◌, eqb-true, ◌⊎◌, inl, inr}
use Rattle.std.specs.List.{list_all}
use Rattle.std.proofs.lemmas.Bool.{and_from, and_parts, cases_Bool, eq-eqb}
use Rattle.qgm_core.specs.Boxes.{QueryGraph, is_box, is_quant, numbers, owns}
use Rattle.qgm_core.specs.Edits.{move_quant, put_range, put_range_found, without_quant}
use Rattle.qgm_core.specs.Kinds.{is_magic, is_permit}
use Rattle.list_laws.specs.Lists.{EachOnce, In, change}
use Rattle.qgm_core.specs.declared.kinds.BoxKind.TheVariants.{Select}
use Rattle.qgm_core.specs.declared.node.Node.{Node}
use Rattle.qgm_core.specs.declared.owned.OwnedQuant.{OwnedQuant}
use Rattle.qgm_core.specs.declared.parts.BoxParts.{BoxParts}
use Rattle.qgm_wellformed.specs.Columns.{columns_fit}
use Rattle.qgm_wellformed.specs.Shapes.{shape_fits}
use Rattle.qgm_wellformed.specs.Types.{arms_agree, cond_fits, is_known, lookup_of, term_type, types_agree, types_by, types_of}
use Rattle.qgm_wellformed.specs.WellFormed.{fault}
use Rattle.qgm_edit_laws.specs.FormedEdits.{MayMoveQuant}
use Rattle.qgm_edit_laws.specs.Graph.{Sound}
use Rattle.qgm_edit_laws.specs.Reforms.{BoxForm, FedAlone}
use Rattle.qgm_edit_laws.specs.Shaped.{Shaped, Typed}
use Rattle.qgm_edit_laws.proofs.BoxForms.{boxes-formed, counted-seen, scalar-column, stands}
use Rattle.qgm_edit_laws.proofs.Edits.{once-each}
use Rattle.qgm_edit_laws.proofs.Formed.{sound-checked}
use Rattle.qgm_edit_laws.proofs.Levels.{owner-of}
use Rattle.qgm_edit_laws.proofs.MoveForms.{map-map}
use Rattle.qgm_edit_laws.proofs.OneBox.{at, change-at, once-map, owner-at}
use Rattle.qgm_edit_laws.proofs.PartForms.{at-all}
use Rattle.qgm_edit_laws.proofs.PlacedOne.{in-less, in-put}
use Rattle.qgm_edit_laws.proofs.Ranks.{same-box}
use Rattle.qgm_edit_laws.proofs.Scope.{one-owner}
use Rattle.list_laws.proofs.Membership.{any-from, eq-itself}
use Rattle.list_laws.proofs.Booleans.{clash}

module _ (g : QueryGraph) (u : EachOnce (numbers g.boxes)) (f : fault g ≡ None) (o : Node) (r : OwnedQuant) (b : Node) (i : ℕ) (m : MayMoveQuant g o r b i) where
  abbrev bs : List Node
  bs = g.boxes

  ok : Sound bs g.root × Typed bs × Shaped bs g.root
  ok = (sound-checked g u).0 f

  w : Sound bs g.root
  w = ok.0

  abbrev off : Node → Node
  off = without_quant r.id

  abbrev on : Node → Node
  on = put_range i r

  abbrev h : Node → Node
  h y = at b.id on (at o.id off y)

  own : owns r.id o ≡ true
  own = any-from (is_quant r.id) r o.quants m.owned (eq-itself r.id)

  -- the graph after it
  moved : (move_quant r.id b.id i g).boxes ≡ map h bs
  moved =
      ap (λ s. put_range_found b.id i s (change (owns r.id) off bs)) (owner-of bs w.once o r m.in_o m.owned)
      ∙ ap (change (is_box b.id) on) (owner-at r.id o off bs (once-each bs w.ordered) m.in_o own (λ y j k. one-owner bs g.root w r.id y o j m.in_o k own))
      ∙ change-at b.id on (map (at o.id off) bs) (once-map (at o.id off) (λ y. at-all o.id off (λ z. z.id) (λ z. refl) y) bs (once-each bs w.ordered))
      ∙ map-map (at b.id on) (at o.id off) bs

  all : {X : Type 0} (P : Node → X) → ((y : Node) → P (on y) ≡ P y) → ((y : Node) → P (off y) ≡ P y) → (y : Node) → P (h y) ≡ P y
  all P e d y = at-all b.id on P e (at o.id off y) ∙ at-all o.id off P d y

  same-parts : (y : Node) → (h y).parts ≡ y.parts
  same-parts = all (λ z. z.parts) (λ z. refl) (λ z. refl)

  cases : (y : Node) → In y bs → ((y ≡ o) × (h y ≡ off o)) ⊎ (((y ≡ b) × (h y ≡ on b)) ⊎ (h y ≡ y))
  cases y j = elim (cases_Bool (y.id == o.id)) [
    | inl t ↦ (
        let e : y ≡ o = same-box bs y o w.ordered j m.in_o (eqb-true y.id o.id t) in
        let n : (o.id == b.id) ≡ false = (elim (cases_Bool (o.id == b.id)) [ inr n ↦ n | inl t ↦ absurd (clash (b.id == o.id) (eq-eqb b.id o.id (sym (eqb-true o.id b.id t))) m.apart) ]) in
        inl (e, ap h e ∙ ap (λ (z : Bool). at b.id on (cond z (off o) o)) (eq-itself o.id) ∙ ap (λ (z : Bool). cond z (on (off o)) (off o)) n))
    | inr n ↦ elim (cases_Bool (y.id == b.id)) [
      | inl t ↦ (let e : y ≡ b = same-box bs y b w.ordered j m.in_b (eqb-true y.id b.id t) in
          inr (inl (e, ap h e ∙ ap (λ (z : Bool). at b.id on (cond z (off b) b)) m.apart ∙ ap (λ (z : Bool). cond z (on b) b) (eq-itself b.id))))
      | inr k ↦ inr (inr (ap (λ (z : Bool). at b.id on (cond z (off y) y)) n ∙ ap (λ (z : Bool). cond z (on y) y) k))
    ]
  ]

  -- a select agrees whatever its quantifiers are
  select-agrees : (y n : Node) → In y bs → y.parts.kind ≡ Select → n.parts ≡ y.parts → types_agree bs n ≡ true
  select-agrees y n j k e =
      let a = and_parts (list_all (λ x. is_known (term_type (lookup_of bs) x)) y.parts.head) (list_all (cond_fits (lookup_of bs)) y.parts.conds.items && arms_agree (types_of bs) y.parts.kind y.quants) (ok.1 y j) in
      let d = and_parts (list_all (cond_fits (lookup_of bs)) y.parts.conds.items) (arms_agree (types_of bs) y.parts.kind y.quants) a.1 in
      ap (λ (p : BoxParts). list_all (λ x. is_known (term_type (lookup_of bs) x)) p.head && (list_all (cond_fits (lookup_of bs)) p.conds.items && arms_agree (types_of bs) p.kind n.quants)) e
      ∙ and_from (list_all (λ x. is_known (term_type (lookup_of bs) x)) y.parts.head) (list_all (cond_fits (lookup_of bs)) y.parts.conds.items && arms_agree (types_of bs) y.parts.kind n.quants) a.0
      (and_from (list_all (cond_fits (lookup_of bs)) y.parts.conds.items) (arms_agree (types_of bs) y.parts.kind n.quants) d.0 (ap (λ k. arms_agree (types_of bs) k n.quants) k))

  -- the form of a box each of whose quantifiers was one of these boxes
  form : (y : Node) → In y bs → y.parts.kind ≡ Select → shape_fits g.root bs (h y) ≡ true → ((x : OwnedQuant) → In x (h y).quants → (z : Node) × (In z bs × In x z.quants)) → BoxForm bs g.root h y
  form y j k shape was = record {
    stay = ap (λ (p : BoxParts). types_by (lookup_of bs) p.kind p.head) (same-parts y);
    magic = ap (λ (p : BoxParts). is_magic p.role) (same-parts y);
    stood = λ x l. (let z = was x l in inl (stands bs g.root ok.1 ok.2 z.0 x z.1.0 z.1.1));
    types = select-agrees y (h y) j k (same-parts y);
    columns = ap (λ (p : BoxParts). columns_fit bs (record y { parts = p })) (same-parts y) ∙ ok.2.columns y j;
    shape = shape;
    scalars = λ c x l t n e. (let z = was x l in scalar-column bs g.root ok.1 ok.2 z.0 c x z.1.0 z.1.1 t n e);
    unseen = λ c x l t n e. (let z = was x l in ap (λ (p : BoxParts). is_permit p.distinct) (same-parts c) ∙ counted-seen bs g.root ok.1 ok.2 z.0 c x z.1.0 z.1.1 t n e);
    permit = λ t. ok.2.unseen y j (ap (λ (p : BoxParts). is_permit p.distinct) (sym (same-parts y)) ∙ t);
  }

  pub quant-formed : fault (move_quant r.id b.id i g) ≡ None
  quant-formed = subst (λ z. fault (record g { boxes = z }) ≡ None) (sym moved) (boxes-formed g u f h (all (λ z. z.id) (λ z. refl) (λ z. refl))
      (λ y j. elim (cases y j) [
        | inl e ↦ inr (form y j (ap (λ (z : Node). z.parts.kind) e.0 ∙ m.select_o) (ap (shape_fits g.root bs) e.1 ∙ m.shape_o)
            (λ x l. (o, (m.in_o, in-less (is_quant r.id) o.quants x (subst (λ (z : Node). In x z.quants) e.1 l)))))
        | inr z ↦ elim z [
          | inr e ↦ inl e
          | inl e ↦ inr (form y j (ap (λ (z : Node). z.parts.kind) e.0 ∙ m.select_b) (ap (shape_fits g.root bs) e.1 ∙ m.shape_b)
              (λ x l. elim (in-put i r b.quants x (subst (λ (z : Node). In x z.quants) e.1 l)) [ inl k ↦ (o, (m.in_o, subst (λ s. In s o.quants) k m.owned)) | inr k ↦ (b, (m.in_b, k)) ]))
        ]
      ])
      (subst (λ z. Sound z g.root) moved m.sound) (subst FedAlone moved m.fed))
