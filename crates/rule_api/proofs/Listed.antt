-- A loop that lists the places that pass, one step.
use Rattle.std.proofs.Common.{ℕ, zero, suc, ◌+◌, ◌≡◌, Bool, List, [], ◌∷◌, ◌++◌, sym, ◌∙◌, ap, arith, map, drop, Some}
use Rattle.std.proofs.lemmas.List.{append_assoc, map-append}
use Rattle.std.specs.Prelude.{slice_get}
use Rattle.rule_api.specs.Picks.{picked, picks}
use Rattle.rule_api.specs.Rules.{place_at}
use Rattle.rule_api.specs.declared.place.Place.{Place}

pub picks-more : {X : Type 0} (t : X → Bool) (n k : ℕ) (xs : List X) (x : X) → slice_get xs k ≡ Some x → picks t n (drop k xs) ≡ picked (t x) n 0 ++ picks t (n + 1) (drop (k + 1) xs)
picks-more t n k [] x e = absurd (let q : ⊥ = cc in q)
picks-more t n zero (y ∷ xs) x e = let q : y ≡ x = cc in ap (λ z. picked (t z) n 0 ++ picks t (n + 1) xs) q
picks-more t n (suc k) (y ∷ xs) x e =
    let m : suc (k + 1) ≡ suc k + 1 = omega arith in picks-more t n k xs x e ∙ ap (λ m. picked (t x) n 0 ++ picks t (n + 1) (drop m (y ∷ xs))) m

pub listed-more : {X : Type 0} (t : X → Bool) (b k : ℕ) (xs : List X) (x : X) (out more whole : List Place) → slice_get xs k ≡ Some x → more ≡ out ++ map (place_at b) (picked (t x) (k + 1) 0) →
    out ++ map (place_at b) (picks t (k + 1) (drop k xs)) ≡ whole → more ++ map (place_at b) (picks t (k + 1 + 1) (drop (k + 1) xs)) ≡ whole
listed-more t b k xs x out more whole e m w =
    ap (λ z. z ++ map (place_at b) (picks t (k + 1 + 1) (drop (k + 1) xs))) m
    ∙ append_assoc out (map (place_at b) (picked (t x) (k + 1) 0)) (map (place_at b) (picks t (k + 1 + 1) (drop (k + 1) xs)))
    ∙ ap (λ z. out ++ z) (sym (map-append (place_at b) (picked (t x) (k + 1) 0) (picks t (k + 1 + 1) (drop (k + 1) xs))))
    ∙ ap (λ z. out ++ map (place_at b) z) (sym (picks-more t (k + 1) k xs x e)) ∙ w
