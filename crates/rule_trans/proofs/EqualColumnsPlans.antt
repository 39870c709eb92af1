-- What the code finds at a place of J1.
use Rattle.std.proofs.Common.{ℕ, zero, suc, ◌-◌, ◌<◌, ◌≤◌, ◌≡◌, List, [], ◌∷◌, length, Some, None, refl, sym, ap, ap₂, subst, ◌∙◌, arith}
use Rattle.std.specs.Prelude.{slice_get}
use Rattle.qgm_core.specs.Boxes.{QueryGraph, is_box}
use Rattle.list_laws.specs.Lists.{In, first}
use Rattle.qgm_core.specs.declared.node.Node.{Node}
use Rattle.qgm_terms.specs.Terms.{Cond}
use Rattle.rule_api.specs.declared.place.Place.{Place}
use Rattle.rule_trans.specs.Adding.{add_plan}
use Rattle.rule_trans.specs.EqualColumnsExact.{FoundPlace, PlansAt, found-may, place_found}
use Rattle.rule_trans.specs.EqualColumnsPlaces.{equal_columns_pairs, equality, implied, takes}
use Rattle.rule_trans.specs.declared.adding.AddPlan.{AddPlan}
use Rattle.rule_trans.specs.declared.equalities.Equality.{Equality}

pub get-below : (xs : List Cond) (k : ℕ) (x : Cond) → slice_get xs k ≡ Some x → k < length xs
get-below [] k x h = absurd (let z : ⊥ = cc in z)
get-below (y ∷ xs) zero x h = let e : length (y ∷ xs) ≡ suc (length xs) = refl in omega (arith, e)
get-below (y ∷ xs) (suc k) x h = let r = get-below xs k x h in let e : length (y ∷ xs) ≡ suc (length xs) = refl in omega (arith, e, r)

module _ (g : QueryGraph) (pl : Place) (h : In (pl.i, pl.j) (equal_columns_pairs g pl.at)) where
  f : FoundPlace pl g
  f = place_found g pl h

  pub no_box : first (is_box pl.at) g.boxes ≡ None → ⊥
  no_box k = let x : None ≡ Some f.n = sym k ∙ f.found.found in let z : ⊥ = cc in z

  pub from_one : 1 ≤ pl.i
  from_one = let e = f.found.first.1.0 in omega (arith, e)

  pub from_one_second : 1 ≤ pl.j
  from_one_second = let e = f.found.second.1.0 in omega (arith, e)

  module _ (n : Node) (at : first (is_box pl.at) g.boxes ≡ Some n) where
    n-is : n ≡ f.n
    n-is = let x : Some n ≡ Some f.n = sym at ∙ f.found.found in cc

    pub within : pl.i ≤ length n.parts.conds.items
    within =
        subst (λ (m : Node). pl.i ≤ length m.parts.conds.items) (sym n-is)
        (let e = f.found.first.1.0 in let b = get-below f.n.parts.conds.items f.found.first.0 f.c f.found.first.1.1 in omega (arith, e, b))

    pub within_second : pl.j ≤ length n.parts.conds.items
    within_second =
        subst (λ (m : Node). pl.j ≤ length m.parts.conds.items) (sym n-is)
        (let e = f.found.second.1.0 in let b = get-below f.n.parts.conds.items f.found.second.0 f.d f.found.second.1.1 in omega (arith, e, b))

    module _ (c d : Cond) (nth : slice_get n.parts.conds.items (pl.i - 1) ≡ Some c) (nth-second : slice_get n.parts.conds.items (pl.j - 1) ≡ Some d) where
      place-is : f.found.first.0 ≡ pl.i - 1
      place-is = let e = f.found.first.1.0 in omega (arith, e)

      second-is : f.found.second.0 ≡ pl.j - 1
      second-is = let e = f.found.second.1.0 in omega (arith, e)

      c-is : c ≡ f.c
      c-is = let x : Some c ≡ Some f.c = sym nth ∙ ap₂ (λ (m : Node) (k : ℕ). slice_get m.parts.conds.items k) n-is (sym place-is) ∙ f.found.first.1.1 in cc

      d-is : d ≡ f.d
      d-is = let x : Some d ≡ Some f.d = sym nth-second ∙ ap₂ (λ (m : Node) (k : ℕ). slice_get m.parts.conds.items k) n-is (sym second-is) ∙ f.found.second.1.1 in cc

      pub some_implied : None ≡ implied g n c d → ⊥
      some_implied k =
          let x : None ≡ Some f.x = k ∙ ap (λ (m : Node). implied g m c d) n-is ∙ ap₂ (λ (a b : Cond). implied g f.n a b) c-is d-is ∙ f.found.implied in
          let z : ⊥ = cc in z

      pub planned : (x : Equality) → Some x ≡ implied g n c d → (m : AddPlan) → m ≡ add_plan n (equality x) → PlansAt pl g m
      planned x k m e =
          let y = found-may pl g n c d x (record {
            found = at;
            taken = ap takes n-is ∙ f.found.taken;
            before = f.found.before;
            first = (f.found.first.0, (f.found.first.1.0, ap (slice_get n.parts.conds.items) place-is ∙ nth));
            second = (f.found.second.0, (f.found.second.1.0, ap (slice_get n.parts.conds.items) second-is ∙ nth-second));
            implied = sym k;
          }) in (y.0, e ∙ y.1)
