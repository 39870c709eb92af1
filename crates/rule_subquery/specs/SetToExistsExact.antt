-- The places of U4 are exactly those where it may fire.
use Rattle.std.proofs.Common.{ℕ, zero, suc, ◌==◌, ◌≡◌, ◌≤◌, ◌&&◌, nat_le, Bool, true, false, List, [], ◌∷◌, length, refl, sym, ap, subst, ◌∙◌, eqb-true, inl, inr, arith}
use Rattle.std.specs.Prelude.{◌↔◌}
use Rattle.std.proofs.lemmas.Bool.{and_from, and_parts, cases_Bool, eq-eqb, leb-false, leb-true}
use Rattle.qgm_core.specs.Boxes.{QueryGraph, numbers}
use Rattle.list_laws.specs.Lists.{EachOnce, In}
use Rattle.qgm_core.specs.declared.node.Node.{Node}
use Rattle.qgm_core.specs.declared.owned.OwnedQuant.{OwnedQuant}
use Rattle.qgm_wellformed.specs.Sentences.{WellFormed}
use Rattle.qgm_props.specs.Inferred.{Inferred, clean, error_free}
use Rattle.rule_api.specs.Rules.{Ascending}
use Rattle.rule_api.specs.declared.place.Place.{Place}
use Rattle.rule_facts.specs.Told.{infers, told}
use Rattle.rule_facts.specs.Places.{of_set, box-from, box-to, ArePlaces, boxes-ascend, set-from}
use Rattle.rule_subquery.specs.SetToExists.{is_intersect_or_except, MaySetToExists, all_free, arms_fit, of_two, may_set_to_exists, set_to_exists_pairs}
use Rattle.list_laws.proofs.Booleans.{clash}

abbrev place : ℕ → ℕ → ℕ → Place
place b i j = record { at = b; i = i; j = j }

two-from : (t : OwnedQuant → OwnedQuant → Bool) (rs : List OwnedQuant) → of_two t rs ≡ true → (l : OwnedQuant) × ((r : OwnedQuant) × ((rs ≡ l ∷ (r ∷ [])) × (t l r ≡ true)))
two-from t [] h = absurd (let z : ⊥ = cc in z)
two-from t (l ∷ []) h = absurd (let z : ⊥ = cc in z)
two-from t (l ∷ (r ∷ [])) h = (l, (r, (refl, h)))
two-from t (l ∷ (r ∷ (s ∷ rs))) h = absurd (let z : ⊥ = cc in z)

free-from : (bs : List Node) (l r : OwnedQuant) (w : ℕ) → all_free bs l r w ≡ true → (k : ℕ) → 1 ≤ k → k ≤ w → Inferred bs (error_free l.over k) × Inferred bs (error_free r.over k)
free-from bs l r zero h k a c = absurd (omega arith)
free-from bs l r (suc w) h k a c =
    let p = and_parts (infers bs (error_free l.over (suc w)) && infers bs (error_free r.over (suc w))) (all_free bs l r w) h in
    let q = and_parts (infers bs (error_free l.over (suc w))) (infers bs (error_free r.over (suc w))) p.0 in
    elim (cases_Bool (k == suc w)) [
      | inl t ↦ subst (λ z. Inferred bs (error_free l.over z) × Inferred bs (error_free r.over z)) (sym (eqb-true k (suc w) t)) ((told bs (error_free l.over (suc w))).0 q.0, (told bs (error_free r.over (suc w))).0 q.1)
      | inr f ↦ free-from bs l r w p.1 k a (le-but k w c f)
    ]
  where
    le-but : (k w : ℕ) → k ≤ suc w → (k == suc w) ≡ false → k ≤ w
    le-but k w c f = elim (cases_Bool (nat_le k w)) [
      | inl t ↦ leb-true k w t
      | inr n ↦ absurd (clash (k == suc w) (eq-eqb k (suc w) (let x = leb-false k w n in omega arith)) f)
    ]

free-to : (bs : List Node) (l r : OwnedQuant) (w : ℕ) → ((k : ℕ) → 1 ≤ k → k ≤ w → Inferred bs (error_free l.over k) × Inferred bs (error_free r.over k)) → all_free bs l r w ≡ true
free-to bs l r zero h = refl
free-to bs l r (suc w) h =
    let a = h (suc w) (omega arith) (omega arith) in
    and_from (infers bs (error_free l.over (suc w)) && infers bs (error_free r.over (suc w))) (all_free bs l r w)
    (and_from (infers bs (error_free l.over (suc w))) (infers bs (error_free r.over (suc w))) ((told bs (error_free l.over (suc w))).1 a.0) ((told bs (error_free r.over (suc w))).1 a.1))
    (free-to bs l r w (λ k p q. h k p (omega arith)))

pub set-to-exists-exact : (g : QueryGraph) (b i j : ℕ) → In (i, j) (set_to_exists_pairs g b) ↔ MaySetToExists (place b i j) g
unfolding set_to_exists_pairs MaySetToExists
set-to-exists-exact g b i j = (
  λ h.
      let x = box-from (may_set_to_exists g.boxes) g b i j h in
      let s = set-from (λ form types. is_intersect_or_except form && of_two (arms_fit g.boxes (length types)) x.n.quants) x.n.parts.kind x.passes in
      let form = s.0 in
      let w = length s.1.0 in
      let a = and_parts (is_intersect_or_except form) (of_two (arms_fit g.boxes w) x.n.quants) s.1.1.1 in
      let t = two-from (arms_fit g.boxes w) x.n.quants a.1 in
      let l = t.0 in
      let r = t.1.0 in
      let c = and_parts (infers g.boxes (clean l.over) && infers g.boxes (clean r.over)) (all_free g.boxes l r w) t.1.1.1 in
      let d = and_parts (infers g.boxes (clean l.over)) (infers g.boxes (clean r.over)) c.0 in (
        x.n,
        (
          form,
          (
            s.1.0,
            (
              l,
              (
                r,
                record {
                  no_first = x.first;
                  no_second = x.second;
                  at = x.found;
                  kind = s.1.1.0;
                  alone = a.0;
                  split = t.1.1.0;
                  clean_l = (told g.boxes (clean l.over)).0 d.0;
                  clean_r = (told g.boxes (clean r.over)).0 d.1;
                  free = free-from g.boxes l r w c.1;
                },
              ),
            ),
          ),
        ),
      ),
  λ h.
      let n = h.0 in
      let form = h.1.0 in
      let types = h.1.1.0 in
      let l = h.1.1.1.0 in
      let r = h.1.1.1.1.0 in
      let m = h.1.1.1.1.1 in
      let w = length types in
      box-to (may_set_to_exists g.boxes) g b i j n m.no_first m.no_second m.at
      (ap (of_set (λ form types. is_intersect_or_except form && of_two (arms_fit g.boxes (length types)) n.quants)) m.kind
      ∙ and_from (is_intersect_or_except form) (of_two (arms_fit g.boxes w) n.quants) m.alone
      (ap (of_two (arms_fit g.boxes w)) m.split
      ∙ and_from (infers g.boxes (clean l.over) && infers g.boxes (clean r.over)) (all_free g.boxes l r w)
      (and_from (infers g.boxes (clean l.over)) (infers g.boxes (clean r.over)) ((told g.boxes (clean l.over)).1 m.clean_l) ((told g.boxes (clean r.over)).1 m.clean_r))
      (free-to g.boxes l r w m.free))),
)

set-to-exists-ascend : (g : QueryGraph) (b : ℕ) → Ascending (set_to_exists_pairs g b)
unfolding set_to_exists_pairs
set-to-exists-ascend g b = boxes-ascend (may_set_to_exists g.boxes) g b

-- in order, exactly the places where it may fire
pub set-to-exists-places : ArePlaces set_to_exists_pairs MaySetToExists
set-to-exists-places g u w b = (set-to-exists-ascend g b, λ i j. set-to-exists-exact g b i j)

pub set_to_exists_exact : (g : QueryGraph) (b i j : ℕ) → EachOnce (numbers g.boxes) → WellFormed g → In (i, j) (set_to_exists_pairs g b) ↔ MaySetToExists (record { at = b; i = i; j = j }) g
set_to_exists_exact g b i j u w = set-to-exists-exact g b i j
