-- The places of G2 are exactly those where it may fire.
use Rattle.std.proofs.Common.{ℕ, ◌≡◌, true, refl, sym, ap, subst, ◌∙◌}
use Rattle.std.specs.Prelude.{◌↔◌}
use Rattle.std.proofs.lemmas.Bool.{and_from, and_parts}
use Rattle.qgm_core.specs.Boxes.{Ordered, QueryGraph, numbers}
use Rattle.list_laws.specs.Lists.{EachOnce, In}
use Rattle.qgm_core.specs.declared.kinds.BoxKind.{BoxKind}
use Rattle.qgm_core.specs.declared.kinds.BoxKind.TheVariants.{Select}
use Rattle.qgm_core.specs.declared.node.Node.{Node}
use Rattle.qgm_wellformed.specs.Sentences.{WellFormed}
use Rattle.qgm_wellformed.proofs.Faults.{well-ordered}
use Rattle.rule_api.specs.PickLaws.{once_ascending, once_exact}
use Rattle.rule_api.specs.Rules.{Ascending}
use Rattle.rule_facts.specs.Places.{is_plain_select, plain-from, plain-to}
use Rattle.rule_magic.specs.AbsorbExact.{IsFeeding, feeding-is, feeding_by, is-feeding, may-found, may-from, may-ready, passes-is}
use Rattle.rule_magic.specs.AbsorbSelect.{MayAbsorbSelect, MayAbsorbSelectAt, absorb_select_pairs, may_absorb_select}
use Rattle.rule_magic.specs.Feeding.{Feeding, feeding, inferred_facts, is_ready, of_feeding}
use Rattle.rule_magic.specs.Places.{AbsorbsBy}

module _ (g : QueryGraph) (o : Ordered g.boxes) (b : ℕ) where
  select-from : (f : Feeding) → IsFeeding g b f → may_absorb_select g f ≡ true → MayAbsorbSelectAt (record { at = b; i = 0; j = 0 }) g f.d
  select-from f m h =
      let x = and_parts (is_plain_select f.c) (is_ready g.boxes f) h in
      let k = plain-from f.c x.0 in
      let may = may-from g o b f m x.1 (subst (λ (z : BoxKind). AbsorbsBy g.boxes (inferred_facts g.boxes) z f.c) (sym k.0) k.1) in
      record {
        no_first = refl;
        no_second = refl;
        at = m.at;
        ready = may.0;
        a_select = subst (λ (z : Node). z.parts.kind ≡ Select) (sym may.1) k.0;
      }

  select-to : (i j : ℕ) (d : Node) → MayAbsorbSelectAt (record { at = b; i = i; j = j }) g d → of_feeding (may_absorb_select g) (feeding g b) ≡ true
  select-to i j d m =
      let f = feeding_by g d m.ready in
      ap (of_feeding (may_absorb_select g)) (is-feeding g b f (may-found g o b d m.at m.ready))
      ∙ and_from (is_plain_select f.c) (is_ready g.boxes f) (plain-to f.c m.a_select (subst (λ (z : BoxKind). AbsorbsBy g.boxes (inferred_facts g.boxes) z f.c) m.a_select m.ready.absorbs)) (may-ready g o b d m.at m.ready)

pub absorb_select_exact : (g : QueryGraph) (b i j : ℕ) → EachOnce (numbers g.boxes) → WellFormed g → In (i, j) (absorb_select_pairs g b) ↔ MayAbsorbSelect (record { at = b; i = i; j = j }) g
unfolding absorb_select_pairs MayAbsorbSelect
absorb_select_exact g b i j u w = (
  λ h. (
      let a = (once_exact (of_feeding (may_absorb_select g) (feeding g b)) i j).0 h in
      let x = passes-is (may_absorb_select g) (feeding g b) a.1.1 in
      let m = select-from g (well-ordered g u w) b x.0 (feeding-is g b x.0 x.1.0) x.1.1 in
      (x.0.d, record { no_first = a.1.0; no_second = a.0; at = m.at; ready = m.ready; a_select = m.a_select })
      ),
  λ h. (once_exact (of_feeding (may_absorb_select g) (feeding g b)) i j).1 (h.1.no_second, (h.1.no_first, select-to g (well-ordered g u w) b i j h.0 h.1)),
)

-- in order
pub absorb_select_ascending : (g : QueryGraph) (b : ℕ) → Ascending (absorb_select_pairs g b)
unfolding absorb_select_pairs
absorb_select_ascending g b = once_ascending (of_feeding (may_absorb_select g) (feeding g b))

-- a place passes the test
pub absorb_select_given : (g : QueryGraph) (b i j : ℕ) → In (i, j) (absorb_select_pairs g b) → of_feeding (may_absorb_select g) (feeding g b) ≡ true
unfolding absorb_select_pairs
absorb_select_given g b i j h = ((once_exact (of_feeding (may_absorb_select g) (feeding g b)) i j).0 h).1.1
