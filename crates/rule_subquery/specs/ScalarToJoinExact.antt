-- The places of U3 are exactly those where it may fire.
use Rattle.std.proofs.Common.{ℕ, ◌&&◌, ap}
use Rattle.std.specs.Prelude.{◌↔◌}
use Rattle.std.proofs.lemmas.Bool.{and_from, and_parts}
use Rattle.qgm_core.specs.Boxes.{QueryGraph, numbers}
use Rattle.qgm_core.specs.Kinds.{is_S}
use Rattle.list_laws.specs.Lists.{EachOnce, In}
use Rattle.qgm_wellformed.specs.Sentences.{WellFormed}
use Rattle.qgm_props.specs.Inferred.{clean, exactly_one}
use Rattle.rule_api.specs.Rules.{Ascending}
use Rattle.rule_api.specs.declared.place.Place.{Place}
use Rattle.rule_facts.specs.Told.{infers, told}
use Rattle.rule_facts.specs.Places.{is_plain_select, plain-from, plain-to, quant-from, quant-to, ArePlaces, quants-ascend}
use Rattle.rule_subquery.specs.ScalarToJoin.{MayScalarToJoin, may_scalar_to_join, scalar_to_join_pairs}
use Rattle.qgm_core.proofs.KindTests.{s-is}

abbrev place : ℕ → ℕ → ℕ → Place
place b i j = record { at = b; i = i; j = j }

pub scalar-to-join-exact : (g : QueryGraph) (b i j : ℕ) → In (i, j) (scalar_to_join_pairs g b) ↔ MayScalarToJoin (place b i j) g
unfolding scalar_to_join_pairs MayScalarToJoin
scalar-to-join-exact g b i j = (
  λ h.
      let x = quant-from (may_scalar_to_join g.boxes) g b i j h in
      let a = and_parts (is_plain_select x.n) (is_S x.r.kind && (infers g.boxes (clean x.r.over) && infers g.boxes (exactly_one x.r.over))) x.passes in
      let c = and_parts (is_S x.r.kind) (infers g.boxes (clean x.r.over) && infers g.boxes (exactly_one x.r.over)) a.1 in
      let d = and_parts (infers g.boxes (clean x.r.over)) (infers g.boxes (exactly_one x.r.over)) c.1 in (
        x.n,
        (
          x.us,
          (
            x.r,
            (
              x.vs,
              record {
                no_second = x.second;
                at = x.found;
                nth = x.nth;
                select = (plain-from x.n a.0).0;
                plain = (plain-from x.n a.0).1;
                split = x.split;
                is_s = s-is x.r.kind c.0;
                clean = (told g.boxes (clean x.r.over)).0 d.0;
                one = (told g.boxes (exactly_one x.r.over)).0 d.1;
              },
            ),
          ),
        ),
      ),
  λ h.
      let n = h.0 in
      let r = h.1.1.0 in
      let m = h.1.1.1.1 in
      quant-to (may_scalar_to_join g.boxes) g b i j n h.1.0 r h.1.1.1.0 m.no_second m.at m.split m.nth
      (and_from (is_plain_select n) (is_S r.kind && (infers g.boxes (clean r.over) && infers g.boxes (exactly_one r.over))) (plain-to n m.select m.plain)
      (and_from (is_S r.kind) (infers g.boxes (clean r.over) && infers g.boxes (exactly_one r.over)) (ap is_S m.is_s)
      (and_from (infers g.boxes (clean r.over)) (infers g.boxes (exactly_one r.over)) ((told g.boxes (clean r.over)).1 m.clean) ((told g.boxes (exactly_one r.over)).1 m.one)))),
)

pub scalar-to-join-ascend : (g : QueryGraph) (b : ℕ) → Ascending (scalar_to_join_pairs g b)
unfolding scalar_to_join_pairs
scalar-to-join-ascend g b = quants-ascend (may_scalar_to_join g.boxes) g b

-- in order, exactly the places where it may fire
pub scalar-to-join-places : ArePlaces scalar_to_join_pairs MayScalarToJoin
scalar-to-join-places g u w b = (scalar-to-join-ascend g b, λ i j. scalar-to-join-exact g b i j)

pub scalar_to_join_exact : (g : QueryGraph) (b i j : ℕ) → EachOnce (numbers g.boxes) → WellFormed g → In (i, j) (scalar_to_join_pairs g b) ↔ MayScalarToJoin (record { at = b; i = i; j = j }) g
scalar_to_join_exact g b i j u w = scalar-to-join-exact g b i j
