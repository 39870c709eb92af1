-- A box that is used once.
use Rattle.std.proofs.Common.{ℕ, ◌==◌, ◌≡◌, ◌<◌, false, List, ◌∷◌, map, refl, ap, subst, eqb-true, inl, inr, arith, []}
use Rattle.std.proofs.lemmas.Bool.{cases_Bool, eq-eqb}
use Rattle.qgm_core.specs.Boxes.{overs_in, overs_of}
use Rattle.list_laws.specs.Lists.{In, times}
use Rattle.qgm_core.specs.declared.node.Node.{Node}
use Rattle.qgm_core.specs.declared.owned.OwnedQuant.{OwnedQuant}
use Rattle.qgm_edit_laws.specs.Graph.{Sound}
use Rattle.qgm_edit_laws.proofs.Filters.{over-once}
use Rattle.qgm_edit_laws.proofs.Ranks.{place, place-under}
use Rattle.qgm_edit_laws.proofs.Scope.{one-parent}
use Rattle.list_laws.proofs.Counting.{times-in}
use Rattle.list_laws.proofs.Booleans.{clash}

pub map-map : {X : Type 0} (h g : X → X) (xs : List X) → map h (map g xs) ≡ map (λ x. h (g x)) xs
map-map h g [] = refl
map-map h g (x ∷ xs) = ap (λ z. h (g x) ∷ z) (map-map h g xs)

module _ (bs : List Node) (root : ℕ) (w : Sound bs root) (o : Node) (r : OwnedQuant) (d : ℕ) (in_o : In o bs) (in_r : In r o.quants) (over : r.over ≡ d) (once : times d (overs_in bs) ≡ 1) where
  -- no quantifier of another box ranges over it
  pub not-other : (y : Node) → In y bs → (y.id == o.id) ≡ false → (x : OwnedQuant) → In x y.quants → (x.over == d) ≡ false
  not-other y i n x j = elim (cases_Bool (x.over == d)) [
    | inr f ↦ f
    | inl t ↦ absurd (clash (y.id == o.id) (eq-eqb y.id o.id (ap (λ (z : Node). z.id) (one-parent bs root w d y o x r (let a = once in omega arith) i in_o j in_r (eqb-true x.over d t) over))) n)
  ]

  -- nor another one of its owner
  pub not-beside : (x : OwnedQuant) → In x o.quants → (x.id == r.id) ≡ false → (x.over == d) ≡ false
  not-beside x j n = elim (cases_Bool (x.over == d)) [
    | inr f ↦ f
    | inl t ↦ absurd (clash (x.id == r.id) (over-once x r o.quants d (let a = times-in overs_of d o bs in_o in let e = once in omega arith) j in_r (eqb-true x.over d t) over) n)
  ]

  pub not-root : (root == d) ≡ false
  not-root = elim (cases_Bool (root == d)) [ inr n ↦ n | inl t ↦ absurd (let a = w.top in let e = once in let k : times root (overs_in bs) ≡ times d (overs_in bs) = ap (λ z. times z (overs_in bs)) (eqb-true root d t) in let z : ⊥ = omega arith in z) ]

-- a box under a quantifier stands behind its owner
module _ (bs : List Node) (root : ℕ) (w : Sound bs root) (o : Node) (r : OwnedQuant) (in_o : In o bs) (in_r : In r o.quants) where
  pub apart : (d : ℕ) → r.over ≡ d → (o.id == d) ≡ false
  apart d e = elim (cases_Bool (o.id == d)) [
    | inr f ↦ f
    | inl t ↦ absurd (let l : place bs o.id < place bs d = subst (λ z. place bs o.id < place bs z) e (place-under bs o r w.ordered in_o in_r) in let k : place bs o.id ≡ place bs d = ap (place bs) (eqb-true o.id d t) in let z : ⊥ = omega arith in z)
  ]

  pub below : place bs o.id < place bs r.over
  below = place-under bs o r w.ordered in_o in_r
