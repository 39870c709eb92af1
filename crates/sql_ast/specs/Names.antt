-- Lists of names.
use Rattle.std.specs.Prelude.{ℕ, ◌||◌, nat_eq, Bool, false, List, [], ◌∷◌}
use Rattle.std.specs.List.{list_any}
use Rattle.std.specs.Cmp.Lexicographic.{pointwise}

-- two names are equal: they have the same characters
abbrev pub same_name : List ℕ → List ℕ → Bool
same_name a b = pointwise nat_eq a b

-- one of these names is this name
abbrev pub contains : List (List ℕ) → List ℕ → Bool
contains names name = list_any (λ n. same_name n name) names

-- two of the names are equal
abbrev pub has_twins : List (List ℕ) → Bool
has_twins [] = false
has_twins (n ∷ ns) = contains ns n || has_twins ns
