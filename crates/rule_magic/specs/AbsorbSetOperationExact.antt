-- The places of G4 are exactly those where it may fire.
use Rattle.std.proofs.Common.{ℕ, ◌≡◌, ◌&&◌, true, List, length, Some, refl, sym, ap, subst, ◌∙◌}
use Rattle.std.specs.Prelude.{◌↔◌}
use Rattle.std.proofs.lemmas.Bool.{and_from, and_parts, le-leb, leb-true}
use Rattle.sql_value.specs.declared.order_key.SqlType.{SqlType}
use Rattle.qgm_core.specs.Boxes.{Ordered, QueryGraph, is_box, numbers}
use Rattle.list_laws.specs.Lists.{EachOnce, In}
use Rattle.qgm_core.specs.declared.kinds.BoxKind.{BoxKind}
use Rattle.qgm_core.specs.declared.kinds.BoxKind.TheVariants.{Base, Select, Group, SetOp, OuterJoin}
use Rattle.qgm_core.specs.declared.kinds.SetOperator.{SetOperator}
use Rattle.qgm_core.specs.declared.kinds.SetOperator.TheVariants.{Union, UnionAll, Intersect, IntersectAll, Except, ExceptAll}
use Rattle.qgm_core.specs.declared.node.Node.{Node}
use Rattle.qgm_wellformed.specs.Sentences.{WellFormed}
use Rattle.qgm_wellformed.proofs.Faults.{well-ordered}
use Rattle.qgm_edit_laws.proofs.Levels.{some-in}
use Rattle.qgm_props.specs.Inferred.{clean, clean_by}
use Rattle.rule_api.specs.PickLaws.{once_ascending, once_exact}
use Rattle.rule_api.specs.Rules.{Ascending}
use Rattle.rule_facts.specs.Told.{infers, told}
use Rattle.rule_magic.specs.AbsorbExact.{IsFeeding, feeding-is, feeding_by, is-feeding, may-found, may-from, may-ready, passes-is}
use Rattle.rule_magic.specs.AbsorbGroupExact.{clean-sentence, said-clean}
use Rattle.rule_magic.specs.AbsorbSetOperation.{MayAbsorbSet, MayAbsorbSetAt, absorb_set_pairs, form_passes, may_absorb_set, operator_of}
use Rattle.rule_magic.specs.Feeding.{Feeding, are_few, feeding, inferred_facts, is_ready, of_feeding}
use Rattle.rule_magic.specs.Places.{AbsorbsBy, AreFew, SetsReady}

module _ (g : QueryGraph) (o : Ordered g.boxes) (b : ℕ) where
  -- a box that passes is a set operation, of which the operands are as G4 asks
  passes-form : (n : Node) → In n g.boxes → (k : BoxKind) → n.parts.kind ≡ k → form_passes g.boxes n.id (operator_of k) ≡ true
      → (form : SetOperator) × ((types : List SqlType) × ((k ≡ SetOp form types) × SetsReady g.boxes (inferred_facts g.boxes) form (length types) n.quants))
  passes-form n i (Base table) e h = absurd (let z : ⊥ = cc in z)
  passes-form n i Select e h = absurd (let z : ⊥ = cc in z)
  passes-form n i (Group keys) e h = absurd (let z : ⊥ = cc in z)
  passes-form n i (SetOp form types) e h = (form, (types, (refl, by form e h)))
    where
      sentence : (form : SetOperator) → n.parts.kind ≡ SetOp form types → infers g.boxes (clean n.id) ≡ true → clean_by g.boxes (inferred_facts g.boxes) (SetOp form types) n ≡ true
      sentence form e h = subst (λ (k : BoxKind). clean_by g.boxes (inferred_facts g.boxes) k n ≡ true) e (clean-sentence g o b n i h)

      by : (form : SetOperator) → n.parts.kind ≡ SetOp form types → form_passes g.boxes n.id (Some form) ≡ true → SetsReady g.boxes (inferred_facts g.boxes) form (length types) n.quants
      by UnionAll e h = tt
      by Union e h = tt
      by IntersectAll e h = sentence IntersectAll e h
      by Intersect e h = sentence Intersect e h
      by ExceptAll e h = sentence ExceptAll e h
      by Except e h = sentence Except e h
  passes-form n i OuterJoin e h = absurd (let z : ⊥ = cc in z)

  form-passes : (n : Node) → In n g.boxes → (form : SetOperator) (types : List SqlType) → n.parts.kind ≡ SetOp form types → SetsReady g.boxes (inferred_facts g.boxes) form (length types) n.quants → form_passes g.boxes n.id (Some form) ≡ true
  form-passes n i form types e k = by form e k
    where
      said : (form : SetOperator) → n.parts.kind ≡ SetOp form types → clean_by g.boxes (inferred_facts g.boxes) (SetOp form types) n ≡ true → infers g.boxes (clean n.id) ≡ true
      said form e h = (told g.boxes (clean n.id)).1 (said-clean g o b n i (subst (λ (k : BoxKind). clean_by g.boxes (inferred_facts g.boxes) k n ≡ true) (sym e) h))

      by : (form : SetOperator) → n.parts.kind ≡ SetOp form types → SetsReady g.boxes (inferred_facts g.boxes) form (length types) n.quants → form_passes g.boxes n.id (Some form) ≡ true
      by UnionAll e h = refl
      by Union e h = refl
      by IntersectAll e h = said IntersectAll e h
      by Intersect e h = said Intersect e h
      by ExceptAll e h = said ExceptAll e h
      by Except e h = said Except e h

  set-from : (f : Feeding) → IsFeeding g b f → may_absorb_set g f ≡ true → MayAbsorbSetAt (record { at = b; i = 0; j = 0 }) g f.d
  set-from f m h =
      let x = and_parts (are_few g.boxes) (form_passes g.boxes f.c.id (operator_of f.c.parts.kind) && is_ready g.boxes f) h in
      let y = and_parts (form_passes g.boxes f.c.id (operator_of f.c.parts.kind)) (is_ready g.boxes f) x.1 in
      let k = passes-form f.c (some-in (is_box f.r.over) g.boxes f.c m.under_r).0 f.c.parts.kind refl y.0 in
      let few : AreFew g.boxes = leb-true (length g.boxes) 65530 x.0 in
      let may = may-from g o b f m y.1 (subst (λ (i : BoxKind). AbsorbsBy g.boxes (inferred_facts g.boxes) i f.c) (sym k.1.1.0) (k.1.1.1, few)) in
      record { no_first = refl; no_second = refl; at = m.at; ready = may.0; form = k.0; types = k.1.0; a_set = subst (λ (y : Node). y.parts.kind ≡ SetOp k.0 k.1.0) (sym may.1) k.1.1.0 }

  set-to : (i j : ℕ) (d : Node) → MayAbsorbSetAt (record { at = b; i = i; j = j }) g d → of_feeding (may_absorb_set g) (feeding g b) ≡ true
  set-to i j d m =
      let f = feeding_by g d m.ready in
      let k : AbsorbsBy g.boxes (inferred_facts g.boxes) (SetOp m.form m.types) f.c = subst (λ (i : BoxKind). AbsorbsBy g.boxes (inferred_facts g.boxes) i f.c) m.a_set m.ready.absorbs in
      ap (of_feeding (may_absorb_set g)) (is-feeding g b f (may-found g o b d m.at m.ready))
      ∙ and_from (are_few g.boxes) (form_passes g.boxes f.c.id (operator_of f.c.parts.kind) && is_ready g.boxes f) (le-leb (length g.boxes) 65530 k.1)
      (and_from (form_passes g.boxes f.c.id (operator_of f.c.parts.kind)) (is_ready g.boxes f)
      (ap (λ (i : BoxKind). form_passes g.boxes f.c.id (operator_of i)) m.a_set ∙ form-passes f.c m.ready.in_c m.form m.types m.a_set k.0) (may-ready g o b d m.at m.ready))

pub absorb_set_exact : (g : QueryGraph) (b i j : ℕ) → EachOnce (numbers g.boxes) → WellFormed g → In (i, j) (absorb_set_pairs g b) ↔ MayAbsorbSet (record { at = b; i = i; j = j }) g
unfolding absorb_set_pairs MayAbsorbSet
absorb_set_exact g b i j u w = (
  λ h. (
      let a = (once_exact (of_feeding (may_absorb_set g) (feeding g b)) i j).0 h in
      let x = passes-is (may_absorb_set g) (feeding g b) a.1.1 in
      let m = set-from g (well-ordered g u w) b x.0 (feeding-is g b x.0 x.1.0) x.1.1 in
      (x.0.d, record { no_first = a.1.0; no_second = a.0; at = m.at; ready = m.ready; form = m.form; types = m.types; a_set = m.a_set })
      ),
  λ h. (once_exact (of_feeding (may_absorb_set g) (feeding g b)) i j).1 (h.1.no_second, (h.1.no_first, set-to g (well-ordered g u w) b i j h.0 h.1)),
)

-- in order
pub absorb_set_ascending : (g : QueryGraph) (b : ℕ) → Ascending (absorb_set_pairs g b)
unfolding absorb_set_pairs
absorb_set_ascending g b = once_ascending (of_feeding (may_absorb_set g) (feeding g b))
