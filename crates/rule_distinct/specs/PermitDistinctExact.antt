-- The places of L2 are exactly those where it may fire.
use Rattle.std.proofs.Common.{ℕ, ◌==◌, ◌≡◌, ◌&&◌, not, Bool, true, false, ap, ◌∙◌, eqb-true, inl, inr}
use Rattle.std.specs.Prelude.{◌↔◌}
use Rattle.std.specs.List.{list_any}
use Rattle.std.proofs.lemmas.Bool.{and_from, and_parts, cases_Bool, eq-eqb, not-true}
use Rattle.qgm_core.specs.Boxes.{QueryGraph, numbers}
use Rattle.qgm_core.specs.Kinds.{is_F_or_S, is_permit}
use Rattle.list_laws.specs.Lists.{EachOnce, In}
use Rattle.qgm_core.specs.declared.node.Node.{Node}
use Rattle.qgm_core.specs.declared.owned.OwnedQuant.{OwnedQuant}
use Rattle.qgm_wellformed.specs.Sentences.{WellFormed}
use Rattle.qgm_props.specs.Inferred.{clean}
use Rattle.rule_api.specs.Rules.{Ascending}
use Rattle.rule_api.specs.declared.place.Place.{Place}
use Rattle.rule_facts.specs.Told.{infers, told}
use Rattle.rule_facts.specs.Places.{is_plain_select, box-from, box-to, plain-from, plain-to, ArePlaces, boxes-ascend}
use Rattle.rule_distinct.specs.PermitDistinct.{MayPermitDistinct, counted, is_read_as_set, may_permit_distinct, permit_distinct_pairs}
use Rattle.list_laws.proofs.Membership.{any-none, any-not}
use Rattle.list_laws.proofs.Booleans.{clash}

abbrev place : ℕ → ℕ → ℕ → Place
place b i j = record { at = b; i = i; j = j }

pub permit-distinct-exact : (g : QueryGraph) (b i j : ℕ) → In (i, j) (permit_distinct_pairs g b) ↔ MayPermitDistinct (place b i j) g
unfolding permit_distinct_pairs MayPermitDistinct
permit-distinct-exact g b i j = (
  λ h.
      let x = box-from (may_permit_distinct g) g b i j h in
      let n = x.n in
      let seen : Bool = list_any (counted n.id) g.boxes in
      let a = and_parts (is_read_as_set g n) (infers g.boxes (clean n.id)) x.passes in
      let c = and_parts ((is_plain_select n && not (is_permit n.parts.distinct)) && not (n.id == g.root)) (not seen) a.0 in
      let d = and_parts (is_plain_select n && not (is_permit n.parts.distinct)) (not (n.id == g.root)) c.0 in
      let e = and_parts (is_plain_select n) (not (is_permit n.parts.distinct)) d.0 in (
        n,
        record {
          box = record { no_first = x.first; no_second = x.second; at = x.found; select = (plain-from n e.0).0; plain = (plain-from n e.0).1 };
          not_permit = not-true (is_permit n.parts.distinct) e.1;
          not_root = λ t. clash (n.id == g.root) (eq-eqb n.id g.root t) (not-true (n.id == g.root) d.1);
          unseen = λ y r k o e2. and-rest (r.over == n.id) (is_F_or_S r.kind) (eq-eqb r.over n.id e2)
              (any-none (λ (r : OwnedQuant). (r.over == n.id) && is_F_or_S r.kind) r y.quants (any-none (counted n.id) y g.boxes (not-true seen c.1) k) o);
          clean = (told g.boxes (clean n.id)).0 a.1;
        },
      ),
  λ h.
      let n = h.0 in
      let m = h.1 in
      let seen : Bool = list_any (counted n.id) g.boxes in
      box-to (may_permit_distinct g) g b i j n m.box.no_first m.box.no_second m.box.at
      (and_from (is_read_as_set g n) (infers g.boxes (clean n.id))
      (and_from ((is_plain_select n && not (is_permit n.parts.distinct)) && not (n.id == g.root)) (not seen)
      (and_from (is_plain_select n && not (is_permit n.parts.distinct)) (not (n.id == g.root))
      (and_from (is_plain_select n) (not (is_permit n.parts.distinct)) (plain-to n m.box.select m.box.plain) (ap not m.not_permit))
      (ap not (apart n.id g.root m.not_root)))
      (ap not (unseen-to g n m.unseen)))
      ((told g.boxes (clean n.id)).1 m.clean)),
)
  where
    and-rest : (a b : Bool) → a ≡ true → (a && b) ≡ false → b ≡ false
    and-rest true b t h = h
    and-rest false b t h = absurd (let z : ⊥ = cc in z)

    apart : (x y : ℕ) → (x ≡ y → ⊥) → (x == y) ≡ false
    apart x y n = elim (cases_Bool (x == y)) [ inr f ↦ f | inl t ↦ absurd (n (eqb-true x y t)) ]

    unseen-to : (g : QueryGraph) (n : Node) → ((y : Node) (r : OwnedQuant) → In y g.boxes → In r y.quants → r.over ≡ n.id → is_F_or_S r.kind ≡ false) → list_any (counted n.id) g.boxes ≡ false
    unseen-to g n h = any-not (counted n.id) g.boxes (λ y i. any-not (λ (r : OwnedQuant). (r.over == n.id) && is_F_or_S r.kind) y.quants (λ r j. elim (cases_Bool (r.over == n.id)) [
      | inr f ↦ ap (λ z. z && is_F_or_S r.kind) f
      | inl t ↦ ap (λ z. z && is_F_or_S r.kind) t ∙ h y r i j (eqb-true r.over n.id t)
    ]))

permit-distinct-ascend : (g : QueryGraph) (b : ℕ) → Ascending (permit_distinct_pairs g b)
unfolding permit_distinct_pairs
permit-distinct-ascend g b = boxes-ascend (may_permit_distinct g) g b

-- in order, exactly the places where it may fire
pub permit-distinct-places : ArePlaces permit_distinct_pairs MayPermitDistinct
permit-distinct-places g u w b = (permit-distinct-ascend g b, λ i j. permit-distinct-exact g b i j)

pub permit_distinct_exact : (g : QueryGraph) (b i j : ℕ) → EachOnce (numbers g.boxes) → WellFormed g → In (i, j) (permit_distinct_pairs g b) ↔ MayPermitDistinct (record { at = b; i = i; j = j }) g
permit_distinct_exact g b i j u w = permit-distinct-exact g b i j
