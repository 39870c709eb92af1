-- A list without one element, seen through a view of its elements.
use Rattle.std.proofs.Common.{zero, get_or, length, ◌<◌, [], ◌∷◌, slice_get, Some, ap, sym, arith, ◌≡◌, ℕ, suc, List, ◌++◌, ◌∙◌, map, take, drop}
use Rattle.std.specs.List.{take-map, drop-map}
use Rattle.std.proofs.lemmas.List.{map-append}

pub map_removed : {X Y : Type 0} (f : X → Y) (xs : List X) (i : ℕ) → map f (take i xs ++ drop (suc i) xs) ≡ take i (map f xs) ++ drop (suc i) (map f xs)
map_removed f xs i = map-append f (take i xs) (drop (suc i) xs) ∙ cc (take-map f i xs, drop-map f (suc i) xs)

-- an element, seen so too
pub slice_get-map : {X Y : Type 0} (f : X → Y) (xs : List X) (i : ℕ) (x : X) → i < length xs → x ≡ get_or xs i x → slice_get (map f xs) i ≡ Some (f x)
slice_get-map f [] i x h e = absurd (omega (arith, h))
slice_get-map f (y ∷ ys) zero x h e = ap (λ z. Some (f z)) (sym e)
slice_get-map f (y ∷ ys) (suc i) x h e = slice_get-map f ys i x (omega (arith, h)) e
