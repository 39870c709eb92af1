-- The places of G5 are exactly those where it may fire.
use Rattle.std.proofs.Common.{ℕ, ◌≡◌, ◌&&◌, true, length, refl, sym, ap, subst, ◌∙◌}
use Rattle.std.specs.Prelude.{◌↔◌}
use Rattle.std.proofs.lemmas.Bool.{and_from, and_parts, le-leb, leb-true}
use Rattle.qgm_core.specs.Boxes.{Ordered, QueryGraph, numbers}
use Rattle.list_laws.specs.Lists.{EachOnce, In}
use Rattle.qgm_core.specs.declared.kinds.BoxKind.{BoxKind}
use Rattle.qgm_core.specs.declared.kinds.BoxKind.TheVariants.{Base, Select, Group, SetOp, OuterJoin}
use Rattle.qgm_core.specs.declared.node.Node.{Node}
use Rattle.qgm_wellformed.specs.Sentences.{WellFormed}
use Rattle.qgm_wellformed.proofs.Faults.{well-ordered}
use Rattle.rule_api.specs.PickLaws.{once_ascending, once_exact}
use Rattle.rule_api.specs.Rules.{Ascending}
use Rattle.rule_magic.specs.AbsorbExact.{IsFeeding, feeding-is, feeding_by, is-feeding, may-found, may-from, may-ready, passes-is}
use Rattle.rule_magic.specs.AbsorbOuterJoin.{MayAbsorbOuter, MayAbsorbOuterAt, absorb_outer_pairs, is_outer, may_absorb_outer}
use Rattle.rule_magic.specs.Feeding.{Feeding, are_few, feeding, inferred_facts, is_ready, of_feeding}
use Rattle.rule_magic.specs.Places.{AbsorbsBy, AreFew}

outer-is : (k : BoxKind) → is_outer k ≡ true → k ≡ OuterJoin
outer-is (Base table) h = absurd (let z : ⊥ = cc in z)
outer-is Select h = absurd (let z : ⊥ = cc in z)
outer-is (Group keys) h = absurd (let z : ⊥ = cc in z)
outer-is (SetOp form types) h = absurd (let z : ⊥ = cc in z)
outer-is OuterJoin h = refl

module _ (g : QueryGraph) (o : Ordered g.boxes) (b : ℕ) where
  outer-from : (f : Feeding) → IsFeeding g b f → may_absorb_outer g f ≡ true → MayAbsorbOuterAt (record { at = b; i = 0; j = 0 }) g f.d
  outer-from f m h =
      let x = and_parts (is_outer f.c.parts.kind && are_few g.boxes) (is_ready g.boxes f) h in
      let y = and_parts (is_outer f.c.parts.kind) (are_few g.boxes) x.0 in
      let k = outer-is f.c.parts.kind y.0 in
      let few : AreFew g.boxes = leb-true (length g.boxes) 65530 y.1 in
      let may = may-from g o b f m x.1 (subst (λ (i : BoxKind). AbsorbsBy g.boxes (inferred_facts g.boxes) i f.c) (sym k) few) in
      record { no_first = refl; no_second = refl; at = m.at; ready = may.0; an_outer = subst (λ (y : Node). y.parts.kind ≡ OuterJoin) (sym may.1) k }

  outer-to : (i j : ℕ) (d : Node) → MayAbsorbOuterAt (record { at = b; i = i; j = j }) g d → of_feeding (may_absorb_outer g) (feeding g b) ≡ true
  outer-to i j d m =
      let f = feeding_by g d m.ready in
      let k : AbsorbsBy g.boxes (inferred_facts g.boxes) OuterJoin f.c = subst (λ (i : BoxKind). AbsorbsBy g.boxes (inferred_facts g.boxes) i f.c) m.an_outer m.ready.absorbs in
      ap (of_feeding (may_absorb_outer g)) (is-feeding g b f (may-found g o b d m.at m.ready))
      ∙ and_from (is_outer f.c.parts.kind && are_few g.boxes) (is_ready g.boxes f)
      (and_from (is_outer f.c.parts.kind) (are_few g.boxes) (ap is_outer m.an_outer) (le-leb (length g.boxes) 65530 k))
      (may-ready g o b d m.at m.ready)

pub absorb_outer_exact : (g : QueryGraph) (b i j : ℕ) → EachOnce (numbers g.boxes) → WellFormed g → In (i, j) (absorb_outer_pairs g b) ↔ MayAbsorbOuter (record { at = b; i = i; j = j }) g
unfolding absorb_outer_pairs MayAbsorbOuter
absorb_outer_exact g b i j u w = (
  λ h. (
      let a = (once_exact (of_feeding (may_absorb_outer g) (feeding g b)) i j).0 h in
      let x = passes-is (may_absorb_outer g) (feeding g b) a.1.1 in
      let m = outer-from g (well-ordered g u w) b x.0 (feeding-is g b x.0 x.1.0) x.1.1 in
      (x.0.d, record { no_first = a.1.0; no_second = a.0; at = m.at; ready = m.ready; an_outer = m.an_outer })
      ),
  λ h. (once_exact (of_feeding (may_absorb_outer g) (feeding g b)) i j).1 (h.1.no_second, (h.1.no_first, outer-to g (well-ordered g u w) b i j h.0 h.1)),
)

-- in order
pub absorb_outer_ascending : (g : QueryGraph) (b : ℕ) → Ascending (absorb_outer_pairs g b)
unfolding absorb_outer_pairs
absorb_outer_ascending g b = once_ascending (of_feeding (may_absorb_outer g) (feeding g b))
