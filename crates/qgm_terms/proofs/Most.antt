-- The greatest of a list of numbers, as most of what the elements of a list have.
use Rattle.std.proofs.Common.{◌≡◌, ℕ, zero, suc, ◌+◌, ◌≤◌, ◌<◌, ◌++◌, List, [], ◌∷◌, sym, subst, add-one, map, take, drop, length, get_or, arith, Bool, true, false, if◌then◌else◌}
use Rattle.std.proofs.lemmas.List.{map-append}
use Rattle.qgm_terms.proofs.Removed.{map_removed}
use Rattle.qgm_terms.specs.Depth.{most}

most-push : (ns : List ℕ) (n r : ℕ) → most ns ≤ r → n ≤ r → most (ns ++ n ∷ []) ≤ r
most-push [] n r h k = omega (arith, k)
most-push (m ∷ ns) n r h k = let t : most (ns ++ n ∷ []) ≤ r = most-push ns n r (omega (arith, h)) k in omega (arith, h, t)

most-remove : (ns : List ℕ) (i r : ℕ) → most ns ≤ r → most (take i ns ++ drop (suc i) ns) ≤ r
most-remove [] zero r h = omega arith
most-remove [] (suc i) r h = omega arith
most-remove (n ∷ ns) zero r h = omega (arith, h)
most-remove (n ∷ ns) (suc i) r h = let t : most (take i ns ++ drop (suc i) ns) ≤ r = most-remove ns i r (omega (arith, h)) in omega (arith, h, t)

module _ {X : Type 0} (d : X → ℕ) where
  pub most_at : (xs : List X) (i r : ℕ) (e : X) → i < length xs → most (map d xs) ≤ r → d (get_or xs i e) ≤ r
  most_at [] i r e k h = absurd (omega (arith, k))
  most_at (x ∷ xs) zero r e k h = omega (arith, h)
  most_at (x ∷ xs) (suc i) r e k h = most_at xs i r e (omega (arith, k)) (omega (arith, h))

  pub most_pushed : (xs : List X) (x : X) (r : ℕ) → most (map d xs) ≤ r → d x ≤ r → most (map d (xs ++ x ∷ [])) ≤ r
  most_pushed xs x r h k = subst (λ (ns : List ℕ). most ns ≤ r) (sym (map-append d xs (x ∷ []))) (most-push (map d xs) (d x) r h k)

  pub most_removed : (xs : List X) (i r : ℕ) → most (map d xs) ≤ r → most (map d (take i xs ++ drop (suc i) xs)) ≤ r
  most_removed xs i r h = subst (λ (ns : List ℕ). most ns ≤ r) (sym (map_removed d xs i)) (most-remove (map d xs) i r h)

  so_far : (xs : List X) (i r : ℕ) (e : X) → i < length xs → most (map d (take i xs)) ≤ r → d (get_or xs i e) ≤ r → most (map d (take (suc i) xs)) ≤ r
  so_far [] i r e k h g = absurd (omega (arith, k))
  so_far (x ∷ xs) zero r e k h g = omega (arith, g)
  so_far (x ∷ xs) (suc i) r e k h g =
      let t : most (map d (take (suc i) xs)) ≤ r = so_far xs i r e (omega (arith, k)) (omega (arith, h)) g in omega (arith, h, t)

  pub most_so_far : (xs : List X) (i r : ℕ) (e : X) → i < length xs → most (map d (take i xs)) ≤ r → d (get_or xs i e) ≤ r → most (map d (take (i + 1) xs)) ≤ r
  most_so_far xs i r e k h g = subst (λ (j : ℕ). most (map d (take j xs)) ≤ r) (sym (add-one i)) (so_far xs i r e k h g)

  -- where an element may have gone in at the end
  pub most_after : (old new : List X) (x : X) (b : Bool) (r : ℕ) → new ≡ (if b then old ++ x ∷ [] else old) → most (map d old) ≤ r → d x ≤ r → most (map d new) ≤ r
  most_after old new x true r e h k = subst (λ (xs : List X). most (map d xs) ≤ r) (sym e) (most_pushed old x r h k)
  most_after old new x false r e h k = subst (λ (xs : List X). most (map d xs) ≤ r) (sym e) h
