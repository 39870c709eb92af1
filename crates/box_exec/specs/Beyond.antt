-- The quantifiers that boxes name, themselves or below them, and that no box on the way owns.
use Rattle.std.specs.Prelude.{ℕ, ◌≡◌, ◌++◌, not, false, filter, List, [], ◌∷◌}
use Rattle.std.specs.List.{flat_map, list_any}
use Rattle.qgm_core.specs.Boxes.{is_quant}
use Rattle.qgm_core.specs.Free.{named_by}
use Rattle.qgm_core.specs.declared.node.Node.{Node}
use Rattle.qgm_core.specs.declared.owned.OwnedQuant.{OwnedQuant}
use Rattle.qgm_meaning.specs.Ranks.{by_rank}
use Rattle.qgm_meaning.specs.Scope.{loose, loose_of}

-- those of these that none of the quantifiers is
abbrev pub without_own : List OwnedQuant → List ℕ → List ℕ
without_own rs names = filter (λ q. not (list_any (is_quant q) rs)) names

-- of a box, over those of the boxes behind it
abbrev pub beyond_of : Node → (ℕ → List ℕ) → List ℕ
beyond_of n below = without_own n.quants (named_by n ++ flat_map (λ r. below r.over) n.quants)

abbrev pub beyond : List Node → ℕ → List ℕ
beyond ns = by_rank [] beyond_of ns

-- those of each box, from the last
abbrev pub beyonds : List Node → List (List ℕ)
beyonds [] = []
beyonds (n ∷ ns) = beyonds ns ++ beyond_of n (beyond ns) ∷ []

-- a box looks no quantifier up in its environment
abbrev pub LooksNowhere : Node → List Node → Type 0
LooksNowhere n below = (q : ℕ) → loose_of n (loose below) q ≡ false
