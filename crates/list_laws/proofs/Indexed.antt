-- What stands at a place of a list.
use Rattle.std.proofs.Common.{ℕ, zero, suc, ◌<◌, ◌≡◌, List, [], ◌∷◌, ◌++◌, drop, length, refl, Some, subst, sym, ap, ◌∙◌, take, inl, arith}
use Rattle.std.specs.Prelude.{slice_get, slice_index_or}
use Rattle.std.proofs.lemmas.List.{take-append-drop}
use Rattle.list_laws.specs.Lists.{In}
use Rattle.list_laws.proofs.Membership.{in-right}

pub drop-more : {X : Type 0} (k : ℕ) (xs : List X) (x : X) → slice_get xs k ≡ Some x → drop k xs ≡ x ∷ drop (suc k) xs
drop-more k [] x e = absurd (let z : ⊥ = cc in z)
drop-more zero (y ∷ xs) x e = let s : y ≡ x = cc in ap (λ z. z ∷ xs) s
drop-more (suc k) (y ∷ xs) x e = drop-more k xs x e

pub split-at : {X : Type 0} (k : ℕ) (xs : List X) (x : X) → slice_get xs k ≡ Some x → xs ≡ take k xs ++ x ∷ drop (suc k) xs
split-at k xs x e = sym (take-append-drop k xs) ∙ ap (λ z. take k xs ++ z) (drop-more k xs x e)

pub get-in : {X : Type 0} (k : ℕ) (xs : List X) (x : X) → slice_get xs k ≡ Some x → In x xs
get-in k xs x e = subst (λ z. In x z) (sym (split-at k xs x e)) (in-right x (take k xs) (x ∷ drop (suc k) xs) (inl refl))

pub get-less : {X : Type 0} (k : ℕ) (xs : List X) (x : X) → slice_get xs k ≡ Some x → k < length xs
get-less k [] x e = absurd (let z : ⊥ = cc in z)
get-less zero (y ∷ xs) x e = omega arith
get-less (suc k) (y ∷ xs) x e = let h = get-less k xs x e in omega arith

pub index-get : {X : Type 0} (k : ℕ) (xs : List X) (d : X) → k < length xs → slice_get xs k ≡ Some (slice_index_or xs k d)
index-get k [] d h = absurd (omega arith)
index-get zero (x ∷ xs) d h = refl
index-get (suc k) (x ∷ xs) d h = index-get k xs d (omega arith)
