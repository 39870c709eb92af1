-- One more of a list is written.
use Rattle.std.proofs.Common.{◌≡◌, ℕ, ◌+◌, ◌<◌, List, [], ◌∷◌, ◌++◌, get_or, length, map, take, ap, sym, ◌∙◌, append_assoc}
use Rattle.std.specs.List.{flat_map}
use Rattle.std.proofs.lemmas.Grind.{flat_map-append}
use Rattle.std.proofs.lemmas.List.{append-nil, map-append, take_more}

more : {X Y : Type 0} (f : Y → List ℕ) (g : X → Y) (xs : List X) (i : ℕ) (x : X) → i < length xs → x ≡ get_or xs i x → flat_map f (map g (take (i + 1) xs)) ≡ flat_map f (map g (take i xs)) ++ f (g x)
more {X} f g xs i x l h =
    ap (λ (t : List X). flat_map f (map g t)) (take_more xs i x l ∙ ap (λ (y : X). take i xs ++ y ∷ []) (sym h))
    ∙ ap (flat_map f) (map-append g (take i xs) (x ∷ []))
    ∙ flat_map-append f (map g (take i xs)) (g x ∷ [])
    ∙ ap (λ (t : List ℕ). flat_map f (map g (take i xs)) ++ t) (append-nil (f (g x)))

pub step : {X Y : Type 0} (f : Y → List ℕ) (g : X → Y) (xs : List X) (i : ℕ) (x : X) (start out new : List ℕ) → i < length xs → x ≡ get_or xs i x
    → out ≡ start ++ flat_map f (map g (take i xs)) → new ≡ out ++ f (g x) → new ≡ start ++ flat_map f (map g (take (i + 1) xs))
step f g xs i x start out new l h o n =
    n
    ∙ ap (λ (t : List ℕ). t ++ f (g x)) o
    ∙ append_assoc start (flat_map f (map g (take i xs))) (f (g x))
    ∙ ap (λ (t : List ℕ). start ++ t) (sym (more f g xs i x l h))
