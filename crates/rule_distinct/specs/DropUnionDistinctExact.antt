-- The places of L3 are exactly those where it may fire.
use Rattle.std.proofs.Common.{ℕ, ◌==◌, ◌≡◌, ◌&&◌, Bool, true, refl, ap, ◌∙◌, eqb-true}
use Rattle.std.specs.Prelude.{◌↔◌}
use Rattle.std.specs.List.{list_any}
use Rattle.std.proofs.lemmas.Bool.{and_from, and_parts, eq-eqb}
use Rattle.qgm_core.specs.Boxes.{QueryGraph, overs_in, numbers}
use Rattle.qgm_core.specs.Kinds.{is_enforce}
use Rattle.list_laws.specs.Lists.{EachOnce, In, times}
use Rattle.qgm_core.specs.declared.kinds.BoxKind.TheVariants.{SetOp}
use Rattle.qgm_core.specs.declared.kinds.SetOperator.{SetOperator}
use Rattle.qgm_core.specs.declared.kinds.SetOperator.TheVariants.{UnionAll, Union, IntersectAll, Intersect, ExceptAll, Except}
use Rattle.qgm_core.specs.declared.owned.OwnedQuant.{OwnedQuant}
use Rattle.qgm_wellformed.specs.Sentences.{WellFormed}
use Rattle.rule_api.specs.Rules.{Ascending}
use Rattle.rule_api.specs.declared.place.Place.{Place}
use Rattle.rule_facts.specs.Places.{is_plain_select, of_set, box-from, box-to, plain-from, plain-to, ArePlaces, boxes-ascend, set-from}
use Rattle.rule_distinct.specs.DropUnionDistinct.{MayDropUnionDistinct, is_union, may_drop_union_distinct, drop_union_distinct_pairs, unites}
use Rattle.list_laws.proofs.Membership.{any-from, any-in}
use Rattle.qgm_core.proofs.KindTests.{enforce-is}

abbrev place : ℕ → ℕ → ℕ → Place
place b i j = record { at = b; i = i; j = j }

union-is : (form : SetOperator) → is_union form ≡ true → form ≡ Union
union-is UnionAll h = absurd (let z : ⊥ = cc in z)
union-is Union h = refl
union-is IntersectAll h = absurd (let z : ⊥ = cc in z)
union-is Intersect h = absurd (let z : ⊥ = cc in z)
union-is ExceptAll h = absurd (let z : ⊥ = cc in z)
union-is Except h = absurd (let z : ⊥ = cc in z)

pub drop-union-distinct-exact : (g : QueryGraph) (b i j : ℕ) → In (i, j) (drop_union_distinct_pairs g b) ↔ MayDropUnionDistinct (place b i j) g
unfolding drop_union_distinct_pairs MayDropUnionDistinct
drop-union-distinct-exact g b i j = (
  λ h.
      let x = box-from (may_drop_union_distinct g) g b i j h in
      let n = x.n in
      let one : Bool = times n.id (overs_in g.boxes) == 1 in
      let a = and_parts (is_plain_select n) (is_enforce n.parts.distinct && (one && list_any (unites n.id) g.boxes)) x.passes in
      let c = and_parts (is_enforce n.parts.distinct) (one && list_any (unites n.id) g.boxes) a.1 in
      let d = and_parts one (list_any (unites n.id) g.boxes) c.1 in
      let y = any-in (unites n.id) g.boxes d.1 in
      let e = and_parts (of_set (λ form types. is_union form) y.0.parts.kind) (list_any (λ (r : OwnedQuant). r.over == n.id) y.0.quants) y.1.1 in
      let s = set-from (λ form types. is_union form) y.0.parts.kind e.0 in
      let r = any-in (λ (r : OwnedQuant). r.over == n.id) y.0.quants e.1 in (
        n,
        record {
          box = record { no_first = x.first; no_second = x.second; at = x.found; select = (plain-from n a.0).0; plain = (plain-from n a.0).1 };
          enforced = enforce-is n.parts.distinct c.0;
          owner = y.0;
          over = r.0;
          types = s.1.0;
          in_owner = y.1.0;
          owned = r.1.0;
          over_b = eqb-true r.0.over n.id r.1.1;
          union = s.1.1.0 ∙ ap (λ z. SetOp z s.1.0) (union-is s.0 s.1.1.1);
          one_use = eqb-true (times n.id (overs_in g.boxes)) 1 d.0;
        },
      ),
  λ h.
      let n = h.0 in
      let m = h.1 in
      let one : Bool = times n.id (overs_in g.boxes) == 1 in
      box-to (may_drop_union_distinct g) g b i j n m.box.no_first m.box.no_second m.box.at
      (and_from (is_plain_select n) (is_enforce n.parts.distinct && (one && list_any (unites n.id) g.boxes)) (plain-to n m.box.select m.box.plain)
      (and_from (is_enforce n.parts.distinct) (one && list_any (unites n.id) g.boxes) (ap is_enforce m.enforced)
      (and_from one (list_any (unites n.id) g.boxes) (eq-eqb (times n.id (overs_in g.boxes)) 1 m.one_use)
      (any-from (unites n.id) m.owner g.boxes m.in_owner
      (and_from (of_set (λ form types. is_union form) m.owner.parts.kind) (list_any (λ (r : OwnedQuant). r.over == n.id) m.owner.quants)
      (ap (of_set (λ form types. is_union form)) m.union)
      (any-from (λ (r : OwnedQuant). r.over == n.id) m.over m.owner.quants m.owned (eq-eqb m.over.over n.id m.over_b))))))),
)

drop-union-distinct-ascend : (g : QueryGraph) (b : ℕ) → Ascending (drop_union_distinct_pairs g b)
unfolding drop_union_distinct_pairs
drop-union-distinct-ascend g b = boxes-ascend (may_drop_union_distinct g) g b

-- in order, exactly the places where it may fire
pub drop-union-distinct-places : ArePlaces drop_union_distinct_pairs MayDropUnionDistinct
drop-union-distinct-places g u w b = (drop-union-distinct-ascend g b, λ i j. drop-union-distinct-exact g b i j)

pub drop_union_distinct_exact : (g : QueryGraph) (b i j : ℕ) → EachOnce (numbers g.boxes) → WellFormed g → In (i, j) (drop_union_distinct_pairs g b) ↔ MayDropUnionDistinct (record { at = b; i = i; j = j }) g
drop_union_distinct_exact g b i j u w = drop-union-distinct-exact g b i j
