-- U2: what is found at a place, and what its steps do.
use Rattle.std.proofs.Common.{ℕ, ◌==◌, ◌≡◌, ◌≤◌, ◌-◌, ◌&&◌, not, cond, Bool, true, false, List, [], ◌∷◌, length, Some, slice_get, refl, sym, ap, ap₂, subst, ◌∙◌, eqb-true, inl, inr}
use Rattle.std.specs.List.{list_any}
use Rattle.std.proofs.lemmas.Bool.{and_from, and_parts, cases_Bool}
use Rattle.qgm_core.specs.Boxes.{HasBox, HasQuant, QueryGraph, box_of, has_box, is_box, is_quant, numbers, owns, quants_of}
use Rattle.qgm_core.specs.Edits.{compact, drop_box, put_range, range, redirect, with_quant, with_terms}
use Rattle.qgm_core.specs.Held.{HasAll}
use Rattle.qgm_core.specs.Kinds.{is_S}
use Rattle.list_laws.specs.Lists.{EachOnce, In, change, without}
use Rattle.qgm_core.specs.declared.kinds.QuantKind.TheVariants.{F}
use Rattle.qgm_core.specs.declared.node.Node.{Node}
use Rattle.qgm_core.specs.declared.owned.OwnedQuant.{OwnedQuant}
use Rattle.qgm_wellformed.specs.Sentences.{WellFormed}
use Rattle.qgm_wellformed.proofs.Faults.{finds-none}
use Rattle.qgm_edit_laws.proofs.CheckedParts.{sound}
use Rattle.qgm_edit_laws.proofs.Levels.{some-in}
use Rattle.rule_api.specs.Picks.{picks}
use Rattle.rule_api.specs.Rules.{Preserves}
use Rattle.rule_api.specs.declared.place.Place.{Place}
use Rattle.rule_facts.proofs.FactsThere.{here-at}
use Rattle.rule_facts.specs.Places.{in_owner, is_plain_select}
use Rattle.qgm_props.specs.Inferred.{exactly_one}
use Rattle.rule_facts.specs.Told.{infers}
use Rattle.rule_subquery.specs.ScalarToGroup.{GroupsBox, GroupsScalar, MayScalarToGroup, MayScalarToGroupAt, any_scalar, are_few, is_safe, may_have, may_scalar_to_group}
use Rattle.rule_subquery.specs.ScalarToGroupLaws.{single_head}
use Rattle.rule_subquery.specs.ScalarToGroupSteps.{CanFill, CanGroup, Fills, Groups, filled, no_conds, with_group}
use Rattle.rule_subquery.proofs.QuantPlaces.{box-held, from-one, none-passes, quant-is, under-there, within}
use Rattle.rule_subquery.proofs.ScalarToGroupEdits as edits
use Rattle.rule_subquery.proofs.ScalarToGroupKeeps.{scalar-to-group-preserves}
use Rattle.list_laws.proofs.Booleans.{clash}
use Rattle.list_laws.proofs.Membership.{any-from, eq-itself, in-right}

-- ---- where none passes

not-there : (bs : List Node) (n : Node) → may_have bs n ≡ false → (r : OwnedQuant) → In r n.quants → may_scalar_to_group bs n r ≡ false
not-there bs n h r i = elim (cases_Bool (may_scalar_to_group bs n r)) [
  | inr f ↦ f
  | inl t ↦ absurd (
      let rest : Bool = is_safe bs r.over && are_few bs in
      let a = and_parts (is_plain_select n) (is_S r.kind && (not (infers bs (exactly_one r.over)) && rest)) t in
      let c = and_parts (is_S r.kind) (not (infers bs (exactly_one r.over)) && rest) a.1 in
      let d = and_parts (not (infers bs (exactly_one r.over))) rest c.1 in
      let e = and_parts (is_safe bs r.over) (are_few bs) d.1 in
      clash (may_have bs n) (and_from (is_plain_select n) (any_scalar n.quants && are_few bs) a.0 (and_from (any_scalar n.quants) (are_few bs) (any-from (λ (x : OwnedQuant). is_S x.kind) r n.quants i c.0) e.1)) h)
]

pub none_found : (g : QueryGraph) (b : ℕ) (n : Node) → box_of b g ≡ Some n → may_have g.boxes n ≡ false → picks (in_owner (may_scalar_to_group g.boxes) (box_of b g)) 1 (quants_of b g) ≡ []
none_found g b n e h = none-passes (may_scalar_to_group g.boxes) g b n e (not-there g.boxes n h)

-- ---- a box changed goes as it was

without-changed : (b : ℕ) (f : Node → Node) → ((y : Node) → (f y).id ≡ y.id) → (ns : List Node) → without (is_box b) (change (is_box b) f ns) ≡ without (is_box b) ns
without-changed b f same [] = refl
without-changed b f same (n ∷ ns) = elim (cases_Bool (n.id == b)) [
  | inl t ↦
      ap (λ (z : Bool). without (is_box b) (cond z (f n ∷ ns) (n ∷ change (is_box b) f ns))) t
      ∙ ap (λ (z : Bool). cond z ns (f n ∷ without (is_box b) ns)) (ap (λ z. z == b) (same n) ∙ t)
      ∙ sym (ap (λ (z : Bool). cond z ns (n ∷ without (is_box b) ns)) t)
  | inr e ↦
      ap (λ (z : Bool). without (is_box b) (cond z (f n ∷ ns) (n ∷ change (is_box b) f ns))) e
      ∙ ap (λ (z : Bool). cond z (change (is_box b) f ns) (n ∷ without (is_box b) (change (is_box b) f ns))) e
      ∙ ap (λ zs. n ∷ zs) (without-changed b f same ns)
      ∙ sym (ap (λ (z : Bool). cond z ns (n ∷ without (is_box b) ns)) e)
]

pub ranged-gone : (g : QueryGraph) (group : ℕ) (r : OwnedQuant) → drop_box group (with_quant group 0 r g) ≡ drop_box group g
ranged-gone g group r = ap (λ (z : List Node). record g { boxes = z }) (without-changed group (put_range 0 r) (λ y. refl) g.boxes)

pub filled-gone : (g : QueryGraph) (group q c : ℕ) → drop_box group (filled group q c g) ≡ drop_box group g
filled-gone g group q c = ap (λ (z : List Node). record g { boxes = z }) (without-changed group (with_terms no_conds (single_head q)) (λ y. refl) (change (is_box group) (put_range 0 (range q F c)) g.boxes)) ∙ ranged-gone g group (range q F c)

-- ---- the steps at the box of a quantifier

module _ (g : QueryGraph) (b : ℕ) (r : OwnedQuant) (m : CanGroup g b r) where
  pub held : HasBox b g
  held = subst (λ z. has_box g.boxes z ≡ true) m.at (any-from (is_box m.node.id) m.node g.boxes m.within (eq-itself m.node.id))

  c-is : m.c.id ≡ r.over
  c-is = eqb-true m.c.id r.over (some-in (is_box r.over) g.boxes m.c m.under).1

  over-held : HasBox r.over g
  over-held = let i = some-in (is_box r.over) g.boxes m.c m.under in any-from (is_box r.over) m.c g.boxes i.0 i.1

  own : owns r.id m.node ≡ true
  own = any-from (is_quant r.id) r m.node.quants m.owned (eq-itself r.id)

  owned : HasQuant r.id g
  owned = any-from (owns r.id) m.node g.boxes m.within own

  fresh-box : (group : ℕ) → (HasBox group g → ⊥) → has_box g.boxes group ≡ false
  fresh-box group n = elim (cases_Bool (has_box g.boxes group)) [ inr f ↦ f | inl t ↦ absurd (n t) ]

  fresh-quant : (q : ℕ) → (HasQuant q g → ⊥) → list_any (owns q) g.boxes ≡ false
  fresh-quant q n = elim (cases_Bool (list_any (owns q) g.boxes)) [ inr f ↦ f | inl t ↦ absurd (n t) ]

  module _ (group : ℕ) (new : HasBox group g → ⊥) where
    as-named : with_group b group g ≡ with_group m.node.id group g
    as-named = ap (λ z. with_group z group g) (sym m.at)

    -- the group goes again
    pub group-gone : drop_box group (with_group b group g) ≡ g
    group-gone = ap (drop_box group) as-named ∙ edits.added-undone g m.sound m.node m.within r m.owned m.c m.under group (fresh-box group new)

    filled-is : (q : ℕ) → filled group q r.over (with_group b group g) ≡ filled group q m.c.id (with_group m.node.id group g)
    filled-is q = ap₂ (λ (n : ℕ) (z : QueryGraph). filled group q n z) (sym c-is) as-named

    module _ (kept : HasAll g (with_group b group g)) where
      new-there : (q : ℕ) → (HasQuant q (with_group b group g) → ⊥) → list_any (owns q) g.boxes ≡ false
      new-there q n = fresh-quant q (λ h. n (kept.1 q h))

      pub can-fill : HasBox group (with_group b group g) → CanFill (with_group b group g) group r
      can-fill h = record {
        held = h;
        over = kept.0 r.over over-held;
        owned = kept.1 r.id owned;
        undone = λ q n.
            ap (λ z. redirect r.id r.over (redirect r.id group z)) (filled-is q)
            ∙ edits.redirect-undone g m.sound m.node m.within r m.owned m.c m.under group (fresh-box group new) q (new-there q n)
            ∙ sym (filled-is q);
      }

      -- what is made is what U2 makes
      pub made : (h : QueryGraph) (f : Fills (with_group b group g) h group r) → GroupsBox g h m.node r
      made h f = record {
        c = m.c;
        xs = edits.xs g m.sound m.node m.within r m.owned m.c m.under group (fresh-box group new);
        ys = edits.ys g m.sound m.node m.within r m.owned m.c m.under group (fresh-box group new);
        group = group;
        quant = f.q;
        under = m.under;
        parted = (edits.stands g m.sound m.node m.within r m.owned m.c m.under).parted;
        before = (edits.stands g m.sound m.node m.within r m.owned m.c m.under).before;
        behind = (edits.stands g m.sound m.node m.within r m.owned m.c m.under).behind;
        new_box = fresh-box group new;
        new_quant = new-there f.q f.new;
        after = f.after ∙ ap (λ z. compact (redirect r.id group z)) (filled-is f.q) ∙ ap compact (edits.group-steps g m.sound m.node m.within r m.owned m.c m.under group (fresh-box group new) f.q (new-there f.q f.new));
      }

-- ---- at a place

module _ (p : Place) (g : QueryGraph) (u : EachOnce (numbers g.boxes)) (w : WellFormed g) (b : Node) (us : List OwnedQuant) (r : OwnedQuant) (vs : List OwnedQuant) (m : MayScalarToGroupAt p g b us r vs) where
  in-b : In b g.boxes
  in-b = here-at g u ((finds-none g u).1 w) b p.at m.at

  in-r : In r b.quants
  in-r = subst (λ z. In r z) (sym m.split) (in-right r us (r ∷ vs) (inl refl))

  pub can-group : CanGroup g p.at r
  can-group =
      let s = sound g u ((finds-none g u).1 w) in
      let c = under-there g s b in-b r in-r in
      record { node = b; sound = s; at = eqb-true b.id p.at (some-in (is_box p.at) g.boxes b m.at).1; within = in-b; owned = in-r; c = c.0; under = c.1 }

  pub box-grouped : (h : QueryGraph) → Groups g h p.at r → GroupsBox g h b r
  unfolding can-group
  box-grouped h k = made g p.at r can-group k.group k.fresh k.kept h k.fills

module _ (p : Place) (g : QueryGraph) (may : MayScalarToGroup p g) where
  pub box-there : HasBox p.at g
  unfolding MayScalarToGroup
  box-there = box-held g p.at may.0 may.1.1.1.1.at

  pub first-there : 1 ≤ p.i
  unfolding MayScalarToGroup
  first-there = from-one g p.at may.0 may.1.1.1.1.at p.i may.1.0 may.1.1.0 may.1.1.1.0 may.1.1.1.1.split may.1.1.1.1.nth

  pub within-there : p.i ≤ length (quants_of p.at g)
  unfolding MayScalarToGroup
  within-there = within g p.at may.0 may.1.1.1.1.at p.i may.1.0 may.1.1.0 may.1.1.1.0 may.1.1.1.1.split may.1.1.1.1.nth

  module _ (u : EachOnce (numbers g.boxes)) (w : WellFormed g) (r : OwnedQuant) (e : Some r ≡ slice_get (quants_of p.at g) (p.i - 1)) where
    pub can-there : CanGroup g p.at r
    unfolding MayScalarToGroup
    can-there =
        let is = quant-is g p.at may.0 may.1.1.1.1.at p.i may.1.0 may.1.1.0 may.1.1.1.0 may.1.1.1.1.split may.1.1.1.1.nth r e in
        subst (λ (z : OwnedQuant). CanGroup g p.at z) (sym is) (can-group p g u w may.0 may.1.0 may.1.1.0 may.1.1.1.0 may.1.1.1.1)

    pub acts : (h : QueryGraph) → Groups g h p.at r → GroupsScalar p g h
    unfolding MayScalarToGroup GroupsScalar
    acts h k =
        let is = quant-is g p.at may.0 may.1.1.1.1.at p.i may.1.0 may.1.1.0 may.1.1.1.0 may.1.1.1.1.split may.1.1.1.1.nth r e in
        (may.0, (may.1.0, (may.1.1.0, (may.1.1.1.0, (may.1.1.1.1, box-grouped p g u w may.0 may.1.0 may.1.1.0 may.1.1.1.0 may.1.1.1.1 h (subst (λ (z : OwnedQuant). Groups g h p.at z) is k))))))

    pub preserves : (h : QueryGraph) → Groups g h p.at r → Preserves g h
    preserves h k = scalar-to-group-preserves g h u w p may (acts h k)
