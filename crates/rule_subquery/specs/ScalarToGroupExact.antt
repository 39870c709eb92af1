-- The places of U2 are exactly those where it may fire.
use Rattle.std.proofs.Common.{ℕ, ◌&&◌, ◌||◌, nat_le, not, Bool, length, ap, inl, inr}
use Rattle.std.specs.Prelude.{◌↔◌}
use Rattle.std.proofs.lemmas.Bool.{and_from, and_parts, le-leb, leb-true, not-true, or_cases, or_left, or_right}
use Rattle.qgm_core.specs.Boxes.{QueryGraph, numbers}
use Rattle.qgm_core.specs.Kinds.{is_S}
use Rattle.list_laws.specs.Lists.{EachOnce, In}
use Rattle.qgm_wellformed.specs.Sentences.{WellFormed}
use Rattle.qgm_props.specs.Inferred.{at_most_one, error_free, exactly_one}
use Rattle.rule_api.specs.Rules.{Ascending}
use Rattle.rule_api.specs.declared.place.Place.{Place}
use Rattle.rule_facts.specs.Told.{infers, not-told, told, untold}
use Rattle.rule_facts.specs.Places.{is_plain_select, plain-from, plain-to, quant-from, quant-to, ArePlaces, quants-ascend}
use Rattle.rule_subquery.specs.ScalarToGroup.{MayScalarToGroup, may_scalar_to_group, scalar_to_group_pairs}
use Rattle.qgm_core.proofs.KindTests.{s-is}

abbrev place : ℕ → ℕ → ℕ → Place
place b i j = record { at = b; i = i; j = j }

pub scalar-to-group-exact : (g : QueryGraph) (b i j : ℕ) → In (i, j) (scalar_to_group_pairs g b) ↔ MayScalarToGroup (place b i j) g
unfolding scalar_to_group_pairs MayScalarToGroup
scalar-to-group-exact g b i j = (
  λ h.
      let x = quant-from (may_scalar_to_group g.boxes) g b i j h in
      let few : Bool = nat_le (length g.boxes) 65530 in
      let safe : Bool = infers g.boxes (error_free x.r.over 1) || infers g.boxes (at_most_one x.r.over) in
      let a = and_parts (is_plain_select x.n) (is_S x.r.kind && (not (infers g.boxes (exactly_one x.r.over)) && (safe && few))) x.passes in
      let c = and_parts (is_S x.r.kind) (not (infers g.boxes (exactly_one x.r.over)) && (safe && few)) a.1 in
      let d = and_parts (not (infers g.boxes (exactly_one x.r.over))) (safe && few) c.1 in
      let e = and_parts safe few d.1 in (
        x.n,
        (
          x.us,
          (
            x.r,
            (
              x.vs,
              record {
                no_second = x.second;
                at = x.found;
                nth = x.nth;
                select = (plain-from x.n a.0).0;
                plain = (plain-from x.n a.0).1;
                split = x.split;
                is_s = s-is x.r.kind c.0;
                not_one = untold g.boxes (exactly_one x.r.over) (not-true (infers g.boxes (exactly_one x.r.over)) d.0);
                safe = elim (or_cases (infers g.boxes (error_free x.r.over 1)) (infers g.boxes (at_most_one x.r.over)) e.0) [
                  | inl t ↦ inl ((told g.boxes (error_free x.r.over 1)).0 t)
                  | inr t ↦ inr ((told g.boxes (at_most_one x.r.over)).0 t)
                ];
                few = leb-true (length g.boxes) 65530 e.1;
              },
            ),
          ),
        ),
      ),
  λ h.
      let n = h.0 in
      let r = h.1.1.0 in
      let m = h.1.1.1.1 in
      let few : Bool = nat_le (length g.boxes) 65530 in
      let safe : Bool = infers g.boxes (error_free r.over 1) || infers g.boxes (at_most_one r.over) in
      quant-to (may_scalar_to_group g.boxes) g b i j n h.1.0 r h.1.1.1.0 m.no_second m.at m.split m.nth
      (and_from (is_plain_select n) (is_S r.kind && (not (infers g.boxes (exactly_one r.over)) && (safe && few))) (plain-to n m.select m.plain)
      (and_from (is_S r.kind) (not (infers g.boxes (exactly_one r.over)) && (safe && few)) (ap is_S m.is_s)
      (and_from (not (infers g.boxes (exactly_one r.over))) (safe && few) (ap not (not-told g.boxes (exactly_one r.over) m.not_one))
      (and_from safe few
      (elim m.safe [
        | inl t ↦ or_left (infers g.boxes (error_free r.over 1)) (infers g.boxes (at_most_one r.over)) ((told g.boxes (error_free r.over 1)).1 t)
        | inr t ↦ or_right (infers g.boxes (error_free r.over 1)) (infers g.boxes (at_most_one r.over)) ((told g.boxes (at_most_one r.over)).1 t)
      ])
      (le-leb (length g.boxes) 65530 m.few))))),
)

pub scalar-to-group-ascend : (g : QueryGraph) (b : ℕ) → Ascending (scalar_to_group_pairs g b)
unfolding scalar_to_group_pairs
scalar-to-group-ascend g b = quants-ascend (may_scalar_to_group g.boxes) g b

-- in order, exactly the places where it may fire
pub scalar-to-group-places : ArePlaces scalar_to_group_pairs MayScalarToGroup
scalar-to-group-places g u w b = (scalar-to-group-ascend g b, λ i j. scalar-to-group-exact g b i j)

pub scalar_to_group_exact : (g : QueryGraph) (b i j : ℕ) → EachOnce (numbers g.boxes) → WellFormed g → In (i, j) (scalar_to_group_pairs g b) ↔ MayScalarToGroup (record { at = b; i = i; j = j }) g
scalar_to_group_exact g b i j u w = scalar-to-group-exact g b i j
