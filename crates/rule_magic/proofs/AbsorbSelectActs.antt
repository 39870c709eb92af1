-- The steps of G2 come to its action, which preserves.
use Rattle.std.proofs.Common.{◌==◌, ◌≡◌, ◌≤◌, ◌||◌, true, false, List, [], ◌∷◌, ◌++◌, Option, Some, None, length, take, drop, append_assoc, append-nil, refl, sym, ap, subst, ◌∙◌, inl, inr, arith}
use Rattle.std.specs.List.{list_any}
use Rattle.qgm_core.specs.Boxes.{Ordered, QueryGraph, has_box, is_box, numbers, quants_in, quants_of, width}
use Rattle.qgm_core.specs.Edits.{absorbed, compact, parted, spliced_at, with_distinct, with_quants}
use Rattle.list_laws.specs.Lists.{EachOnce, In, change, first, without}
use Rattle.qgm_core.specs.declared.kinds.BoxKind.{BoxKind}
use Rattle.qgm_core.specs.declared.kinds.BoxKind.TheVariants.{Select}
use Rattle.qgm_core.specs.declared.kinds.Role.{Role}
use Rattle.qgm_core.specs.declared.kinds.Role.TheVariants.{Plain}
use Rattle.qgm_core.specs.declared.node.Node.{Node}
use Rattle.qgm_core.specs.declared.owned.OwnedQuant.{OwnedQuant}
use Rattle.qgm_meaning.specs.Tags.{columns_from}
use Rattle.qgm_terms.specs.Terms.{Term}
use Rattle.qgm_wellformed.specs.Sentences.{WellFormed}
use Rattle.qgm_wellformed.proofs.Faults.{well-ordered}
use Rattle.rule_api.specs.Rules.{Preserves}
use Rattle.rule_api.specs.declared.place.Place.{Place}
use Rattle.rule_magic.specs.AbsorbExact.{feeding_by, inferred-told, is-feeding, may-found}
use Rattle.rule_magic.specs.AbsorbSelect.{AbsorbsSelect, AbsorbsSelectAt, MayAbsorbSelect, MayAbsorbSelectAt, absorbed_select}
use Rattle.rule_magic.specs.AbsorbSelectSteps.{CanAbsorbSelect, select_steps}
use Rattle.rule_magic.specs.Boxes.{absorbed_box}
use Rattle.rule_magic.specs.Feeding.{Feeding, feeding, inferred_facts}
use Rattle.rule_magic.specs.Places.{AbsorbsBy}
use Rattle.rule_magic.proofs.AbsorbFacts as fed
use Rattle.rule_magic.proofs.AbsorbSelectKeeps.{select-preserves}
use Rattle.rule_magic.proofs.Amid.{Behind, behind, change-amid, first-amid, none-append, none-before, without-amid}
use Rattle.rule_magic.proofs.AbsorbSelectFormed.{ordered-tail}
use Rattle.list_laws.proofs.Membership.{any-from, eq-itself, in-right}

-- ---- the steps at a fed box

module _ (g : QueryGraph) (once : EachOnce (numbers g.boxes)) (wf : WellFormed g) (p : Place) (d : Node) (may : MayAbsorbSelectAt p g d) where
  abbrev c : Node
  c = may.ready.c

  abbrev a : OwnedQuant
  a = may.ready.a

  abbrev f : Feeding
  f = feeding_by g d may.ready

  abbrev head : List Term
  head = columns_from a.id 1 (width may.ready.m) ++ c.parts.head

  o : Ordered g.boxes
  o = well-ordered g once wf

  plain : c.parts.role ≡ Plain
  plain = subst (λ (k : BoxKind). AbsorbsBy g.boxes (inferred_facts g.boxes) k c) may.a_select may.ready.absorbs

  d-not-c : (d.id == c.id) ≡ false
  d-not-c = fed.d-not-c g once wf (inferred_facts g.boxes) (inferred-told g.boxes) d may.ready

  in-r : In may.ready.r d.quants
  in-r = fed.in-r g once wf (inferred_facts g.boxes) (inferred-told g.boxes) d may.ready

  pub amid : Behind g.boxes d c
  amid = behind g.boxes o d c may.ready.r may.ready.in_d may.ready.in_c in-r may.ready.over_c

  abbrev up : List Node
  up = amid.up

  abbrev l1 : List Node
  l1 = amid.l1

  abbrev l2 : List Node
  l2 = amid.l2

  o2 : Ordered (up ++ d ∷ (l1 ++ c ∷ l2))
  o2 = subst Ordered amid.before o

  no-d : list_any (is_box d.id) up ≡ false
  no-d = none-before up (d ∷ (l1 ++ c ∷ l2)) d o2 (inl refl)

  no-c : list_any (is_box c.id) (up ++ d ∷ l1) ≡ false
  no-c = none-append (is_box c.id) up (d ∷ l1) (none-before up (d ∷ (l1 ++ c ∷ l2)) c o2 (inr (in-right c l1 (c ∷ l2) (inl refl))))
      (none-append (is_box c.id) (d ∷ []) l1 (none-append (is_box c.id) [] (d ∷ []) refl (ap (λ b. b || false) d-not-c)) (none-before l1 (c ∷ l2) c (ordered-tail up (d ∷ (l1 ++ c ∷ l2)) o2).2 (inl refl)))

  grouped : up ++ d ∷ (l1 ++ c ∷ l2) ≡ (up ++ d ∷ l1) ++ c ∷ l2
  grouped = sym (append_assoc up (d ∷ l1) (c ∷ l2))

  -- d with c's quantifiers behind a
  abbrev d1 : Node
  d1 = with_quants (spliced_at 1 c.quants) d

  found-c : first (is_box c.id) g.boxes ≡ Some c
  found-c = ap (first (is_box c.id)) (amid.before ∙ grouped) ∙ first-amid (is_box c.id) (up ++ d ∷ l1) c l2 no-c (eq-itself c.id)

  without-c : without (is_box c.id) g.boxes ≡ up ++ d ∷ (l1 ++ l2)
  without-c = ap (without (is_box c.id)) (amid.before ∙ grouped) ∙ without-amid (is_box c.id) (up ++ d ∷ l1) c l2 no-c (eq-itself c.id) ∙ append_assoc up (d ∷ l1) l2

  at-d : (f : Node → Node) (n : Node) → n.id ≡ d.id → change (is_box d.id) f (up ++ n ∷ (l1 ++ l2)) ≡ up ++ f n ∷ (l1 ++ l2)
  at-d f n e = change-amid (is_box d.id) f up n (l1 ++ l2) no-d (subst (λ z. (n.id == z) ≡ true) e (eq-itself n.id))

  absorbed-is : absorbed d.id 1 c.id g.boxes ≡ up ++ d1 ∷ (l1 ++ l2)
  absorbed-is =
      ap (λ (z : Option Node). change (is_box d.id) (with_quants (spliced_at 1 (quants_in z))) (without (is_box c.id) g.boxes)) found-c
      ∙ ap (change (is_box d.id) (with_quants (spliced_at 1 c.quants))) without-c
      ∙ at-d (with_quants (spliced_at 1 c.quants)) d refl

  quants-are : d1.quants ≡ a ∷ c.quants
  quants-are = ap (λ (rs : List OwnedQuant). take 1 rs ++ (c.quants ++ drop 2 rs)) may.ready.quants ∙ ap (λ (rs : List OwnedQuant). a ∷ rs) (append-nil c.quants)

  box-is : with_distinct c.parts.distinct (parted Select Plain c.parts.conds head d1) ≡ absorbed_box d.id a (width may.ready.m) c
  box-is =
      ap (λ (k : BoxKind). record { id = d.id; parts = record { kind = k; distinct = c.parts.distinct; role = Plain; conds = c.parts.conds; head = columns_from a.id 1 (width may.ready.m) ++ c.parts.head }; quants = d1.quants }) (sym may.a_select)
      ∙ ap (λ (k : Role). record { id = d.id; parts = record { kind = c.parts.kind; distinct = c.parts.distinct; role = k; conds = c.parts.conds; head = columns_from a.id 1 (width may.ready.m) ++ c.parts.head }; quants = d1.quants }) (sym plain)
      ∙ ap (λ (rs : List OwnedQuant). record { id = d.id; parts = record c.parts { head = columns_from a.id 1 (width may.ready.m) ++ c.parts.head }; quants = rs }) quants-are

  pub steps-are : select_steps f g ≡ compact (absorbed_select g (inferred_facts g.boxes) d may.ready up l1 l2)
  steps-are = ap (λ (z : List Node). compact (record g { boxes = z })) (
      ap (λ (z : List Node). change (is_box d.id) (with_distinct c.parts.distinct) (change (is_box d.id) (parted Select Plain c.parts.conds head) z)) absorbed-is
      ∙ ap (change (is_box d.id) (with_distinct c.parts.distinct)) (at-d (parted Select Plain c.parts.conds head) d1 refl)
      ∙ at-d (with_distinct c.parts.distinct) (parted Select Plain c.parts.conds head d1) refl
      ∙ ap (λ (z : Node). up ++ z ∷ (l1 ++ l2)) box-is)

  pub can : CanAbsorbSelect g f
  can = record {
    held_d = any-from (is_box d.id) d g.boxes may.ready.in_d (eq-itself d.id);
    held_c = any-from (is_box c.id) c g.boxes may.ready.in_c (eq-itself c.id);
    apart = d-not-c;
    two = (
        let e : quants_of d.id g ≡ a ∷ (may.ready.r ∷ []) = ap quants_in (ap (first (is_box d.id)) amid.before ∙ first-amid (is_box d.id) up d (l1 ++ c ∷ l2) no-d (eq-itself d.id)) ∙ may.ready.quants in
        subst (λ (rs : List OwnedQuant). 2 ≤ length rs) (sym e) (omega arith));
    stays = subst (λ (z : List Node). has_box z d.id ≡ true) (sym absorbed-is) (any-from (is_box d.id) d1 (up ++ d1 ∷ (l1 ++ l2)) (in-right d1 up (d1 ∷ (l1 ++ l2)) (inl refl)) (eq-itself d.id));
  }

  pub acts-at : (h : QueryGraph) → h ≡ select_steps f g → AbsorbsSelectAt p g h d
  acts-at h e = record { may = may; up = up; l1 = l1; l2 = l2; before = amid.before; after = e ∙ steps-are }

-- the action preserves
pub select-acts-preserves : (g h : QueryGraph) → EachOnce (numbers g.boxes) → WellFormed g → (p : Place) (d : Node) → AbsorbsSelectAt p g h d → Preserves g h
select-acts-preserves g h once wf p d x = subst (Preserves g) (sym x.after) (select-preserves g (inferred_facts g.boxes) d x.may.ready x.up x.l1 x.l2 (record {
  once = once;
  formed = wf;
  tells = inferred-told g.boxes;
  a_select = x.may.a_select;
  plain = plain g once wf p d x.may;
  before = x.before;
}))

-- ---- at a place

module _ (g : QueryGraph) (once : EachOnce (numbers g.boxes)) (wf : WellFormed g) (p : Place) (may : MayAbsorbSelect p g) where
  -- one is found
  pub found : feeding g p.at ≡ None → ⊥
  unfolding MayAbsorbSelect
  found e = absurd (
      let m = may.1 in
      let k : Some (feeding_by g may.0 m.ready) ≡ None = sym (is-feeding g p.at (feeding_by g may.0 m.ready) (may-found g (well-ordered g once wf) p.at may.0 m.at m.ready)) ∙ e in
      let z : ⊥ = cc in z)

  module _ (f : Feeding) (e : feeding g p.at ≡ Some f) where
    found-is : (d : Node) (m : MayAbsorbSelectAt p g d) → feeding_by g d m.ready ≡ f
    found-is d m =
        let k : Some (feeding_by g d m.ready) ≡ Some f = sym (is-feeding g p.at (feeding_by g d m.ready) (may-found g (well-ordered g once wf) p.at d m.at m.ready)) ∙ e in
        cc

    pub can-there : CanAbsorbSelect g f
    unfolding MayAbsorbSelect
    can-there = subst (CanAbsorbSelect g) (found-is may.0 may.1) (can g once wf p may.0 may.1)

    acts-there : (h : QueryGraph) → h ≡ select_steps f g → (d : Node) → MayAbsorbSelectAt p g d → AbsorbsSelectAt p g h d
    acts-there h k d m = acts-at g once wf p d m h (k ∙ ap (λ (z : Feeding). select_steps z g) (sym (found-is d m)))

    pub acts : (h : QueryGraph) → h ≡ select_steps f g → AbsorbsSelect p g h
    unfolding MayAbsorbSelect AbsorbsSelect
    acts h k = (may.0, acts-there h k may.0 may.1)

    pub preserves : (h : QueryGraph) → h ≡ select_steps f g → Preserves g h
    unfolding MayAbsorbSelect
    preserves h k = select-acts-preserves g h once wf p may.0 (acts-there h k may.0 may.1)
