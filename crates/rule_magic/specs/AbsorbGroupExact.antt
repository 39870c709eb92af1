-- The places of G3 are exactly those where it may fire.
use Rattle.std.proofs.Common.{ℕ, ◌≡◌, ◌&&◌, true, false, length, refl, sym, ap, subst, ◌∙◌}
use Rattle.std.specs.Prelude.{◌↔◌}
use Rattle.std.proofs.lemmas.Bool.{and_from, and_parts, le-leb, leb-true}
use Rattle.qgm_core.specs.Boxes.{Ordered, QueryGraph, is_box, numbers}
use Rattle.list_laws.specs.Lists.{EachOnce, In}
use Rattle.qgm_core.specs.declared.kinds.BoxKind.{BoxKind}
use Rattle.qgm_core.specs.declared.kinds.BoxKind.TheVariants.{Base, Select, Group, SetOp, OuterJoin}
use Rattle.qgm_core.specs.declared.node.Node.{Node}
use Rattle.qgm_wellformed.specs.Sentences.{WellFormed}
use Rattle.qgm_wellformed.proofs.Faults.{well-ordered}
use Rattle.qgm_edit_laws.proofs.Scope.{in-first}
use Rattle.qgm_props.proofs.Monotone.{least}
use Rattle.qgm_props.proofs.Settled.{clean-said}
use Rattle.qgm_props.specs.Inferred.{Inferred, clean, clean_by, of_box}
use Rattle.rule_api.specs.PickLaws.{once_ascending, once_exact}
use Rattle.rule_api.specs.Rules.{Ascending}
use Rattle.rule_facts.specs.Told.{infers, told}
use Rattle.rule_magic.specs.AbsorbExact.{IsFeeding, feeding-is, feeding_by, inferred-told, is-feeding, may-found, may-from, may-ready, passes-is}
use Rattle.rule_magic.specs.AbsorbGroup.{MayAbsorbGroup, MayAbsorbGroupAt, absorb_group_pairs, is_group, may_absorb_group}
use Rattle.rule_magic.specs.Feeding.{Feeding, are_few, feeding, inferred_facts, is_ready, of_feeding}
use Rattle.rule_magic.specs.Places.{AbsorbsBy, AreFew}
use Rattle.qgm_edit_laws.proofs.Levels.{some-in}

group-is : (k : BoxKind) → is_group k ≡ true → (keys : ℕ) × (k ≡ Group keys)
group-is (Base table) h = absurd (let z : ⊥ = cc in z)
group-is Select h = absurd (let z : ⊥ = cc in z)
group-is (Group keys) h = (keys, refl)
group-is (SetOp form types) h = absurd (let z : ⊥ = cc in z)
group-is OuterJoin h = absurd (let z : ⊥ = cc in z)

module _ (g : QueryGraph) (o : Ordered g.boxes) (b : ℕ) where
  -- a group is inferred clean exactly where its sentence says so
  pub said-clean : (n : Node) → In n g.boxes → clean_by g.boxes (inferred_facts g.boxes) n.parts.kind n ≡ true → Inferred g.boxes (clean n.id)
  said-clean n i h =
      least g.boxes (inferred_facts g.boxes) (λ fact k. (inferred-told g.boxes fact).0 k) (clean n.id) (ap (of_box false (λ (z : Node). clean_by g.boxes (inferred_facts g.boxes) z.parts.kind z)) (in-first n g.boxes o i) ∙ h)

  pub clean-sentence : (n : Node) → In n g.boxes → infers g.boxes (clean n.id) ≡ true → clean_by g.boxes (inferred_facts g.boxes) n.parts.kind n ≡ true
  clean-sentence n i h = clean-said g.boxes (inferred_facts g.boxes) (inferred-told g.boxes) o n i ((told g.boxes (clean n.id)).0 h)

  group-from : (f : Feeding) → IsFeeding g b f → may_absorb_group g f ≡ true → MayAbsorbGroupAt (record { at = b; i = 0; j = 0 }) g f.d
  group-from f m h =
      let x = and_parts (is_group f.c.parts.kind && are_few g.boxes) (infers g.boxes (clean f.c.id) && is_ready g.boxes f) h in
      let y = and_parts (is_group f.c.parts.kind) (are_few g.boxes) x.0 in
      let z = and_parts (infers g.boxes (clean f.c.id)) (is_ready g.boxes f) x.1 in
      let k = group-is f.c.parts.kind y.0 in
      let clean : clean_by g.boxes (inferred_facts g.boxes) (Group k.0) f.c ≡ true =
      subst (λ (i : BoxKind). clean_by g.boxes (inferred_facts g.boxes) i f.c ≡ true) k.1 (clean-sentence f.c (some-in (is_box f.r.over) g.boxes f.c m.under_r).0 z.0) in
      let few : AreFew g.boxes = leb-true (length g.boxes) 65530 y.1 in
      let may = may-from g o b f m z.1 (subst (λ (i : BoxKind). AbsorbsBy g.boxes (inferred_facts g.boxes) i f.c) (sym k.1) (clean, few)) in
      record { no_first = refl; no_second = refl; at = m.at; ready = may.0; keys = k.0; a_group = subst (λ (y : Node). y.parts.kind ≡ Group k.0) (sym may.1) k.1 }

  group-to : (i j : ℕ) (d : Node) → MayAbsorbGroupAt (record { at = b; i = i; j = j }) g d → of_feeding (may_absorb_group g) (feeding g b) ≡ true
  group-to i j d m =
      let f = feeding_by g d m.ready in
      let k : AbsorbsBy g.boxes (inferred_facts g.boxes) (Group m.keys) f.c = subst (λ (i : BoxKind). AbsorbsBy g.boxes (inferred_facts g.boxes) i f.c) m.a_group m.ready.absorbs in
      ap (of_feeding (may_absorb_group g)) (is-feeding g b f (may-found g o b d m.at m.ready))
      ∙ and_from (is_group f.c.parts.kind && are_few g.boxes) (infers g.boxes (clean f.c.id) && is_ready g.boxes f)
      (and_from (is_group f.c.parts.kind) (are_few g.boxes) (ap is_group m.a_group) (le-leb (length g.boxes) 65530 k.1))
      (and_from (infers g.boxes (clean f.c.id)) (is_ready g.boxes f)
      ((told g.boxes (clean f.c.id)).1 (said-clean f.c m.ready.in_c (subst (λ (i : BoxKind). clean_by g.boxes (inferred_facts g.boxes) i f.c ≡ true) (sym m.a_group) k.0)))
      (may-ready g o b d m.at m.ready))

pub absorb_group_exact : (g : QueryGraph) (b i j : ℕ) → EachOnce (numbers g.boxes) → WellFormed g → In (i, j) (absorb_group_pairs g b) ↔ MayAbsorbGroup (record { at = b; i = i; j = j }) g
unfolding absorb_group_pairs MayAbsorbGroup
absorb_group_exact g b i j u w = (
  λ h. (
      let a = (once_exact (of_feeding (may_absorb_group g) (feeding g b)) i j).0 h in
      let x = passes-is (may_absorb_group g) (feeding g b) a.1.1 in
      let m = group-from g (well-ordered g u w) b x.0 (feeding-is g b x.0 x.1.0) x.1.1 in
      (x.0.d, record { no_first = a.1.0; no_second = a.0; at = m.at; ready = m.ready; keys = m.keys; a_group = m.a_group })
      ),
  λ h. (once_exact (of_feeding (may_absorb_group g) (feeding g b)) i j).1 (h.1.no_second, (h.1.no_first, group-to g (well-ordered g u w) b i j h.0 h.1)),
)

-- in order
pub absorb_group_ascending : (g : QueryGraph) (b : ℕ) → Ascending (absorb_group_pairs g b)
unfolding absorb_group_pairs
absorb_group_ascending g b = once_ascending (of_feeding (may_absorb_group g) (feeding g b))
