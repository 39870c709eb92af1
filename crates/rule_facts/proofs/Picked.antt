-- Where none passes, no place is picked.
use Rattle.std.proofs.Common.{ℕ, ◌+◌, ◌≡◌, ◌++◌, Bool, false, List, [], ◌∷◌, refl, ap, ◌∙◌, inl, inr}
use Rattle.list_laws.specs.Lists.{In}
use Rattle.rule_api.specs.Picks.{picked, picks}

pub none-picked : {X : Type 0} (p : X → Bool) (first : ℕ) (xs : List X) → ((x : X) → In x xs → p x ≡ false) → picks p first xs ≡ []
none-picked p first [] h = refl
none-picked p first (x ∷ xs) h = ap (λ z. picked z first 0 ++ picks p (first + 1) xs) (h x (inl refl)) ∙ none-picked p (first + 1) xs (λ y i. h y (inr i))
