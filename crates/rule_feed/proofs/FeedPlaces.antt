-- G1: the places that the code finds.
use Rattle.std.proofs.Common.{ℕ, zero, suc, ◌≡◌, ◌≤◌, ◌+◌, ◌&&◌, ◌++◌, Bool, true, false, List, [], ◌∷◌, Some, append-nil, drop, length, map, ap, ap₂, refl, sym, ◌∙◌, arith}
use Rattle.qgm_core.specs.Boxes.{QueryGraph, box_of, quants_in, quants_of}
use Rattle.qgm_core.specs.declared.node.Node.{Node}
use Rattle.qgm_core.specs.declared.owned.OwnedQuant.{OwnedQuant}
use Rattle.rule_api.specs.Picks.{picked, picks}
use Rattle.rule_api.specs.Rules.{Pair, place_at}
use Rattle.rule_api.specs.declared.place.Place.{Place}
use Rattle.rule_facts.specs.Places.{in_owner}
use Rattle.rule_feed.specs.FeedCode as code
use Rattle.rule_feed.specs.FeedCode.{fs, may_grow}
use Rattle.rule_feed.specs.FeedMay.{feed_pairs, may_feed, may_fire, may_own}
use Rattle.rule_feed.specs.Knowing.{facts_in}
use Rattle.rule_feed.proofs.FeedConditionSteps.{fs-feed, none-grows}

-- a box that may own none
pub none-picked : (ns : List Node) (n : Node) → may_own ns n ≡ false → (first : ℕ) (rs : List OwnedQuant) → picks (may_fire ns n) first rs ≡ []
none-picked ns n h first [] = refl
none-picked ns n h first (r ∷ rs) = ap₂ (λ (t : Bool) (l : List Pair). picked t first 0 ++ l) (ap (λ t. t && may_feed ns (facts_in ns) n r) h) (none-picked ns n h (first + 1) rs)

same-picks : {X : Type 0} (p q : X → Bool) → ((x : X) → p x ≡ q x) → (first : ℕ) (xs : List X) → picks p first xs ≡ picks q first xs
same-picks p q h first [] = refl
same-picks p q h first (x ∷ xs) = ap₂ (λ (t : Bool) (l : List Pair). picked t first 0 ++ l) (h x) (same-picks p q h (first + 1) xs)

none-left : (k : ℕ) (rs : List OwnedQuant) → length rs ≤ k → drop k rs ≡ []
none-left zero [] l = refl
none-left (suc k) [] l = refl
none-left zero (r ∷ rs) l = absurd (let e : length (r ∷ rs) ≡ suc (length rs) = refl in omega (arith, e))
none-left (suc k) (r ∷ rs) l = none-left k rs (let e : length (r ∷ rs) ≡ suc (length rs) = refl in omega (arith, e))

-- where the code has picked all of a box that may own them, these are the places
pub all-picked : (ns : List Node) (b : ℕ) (n : Node) → may_own ns n ≡ true → (out : List Place) (k : ℕ) (list : List OwnedQuant) → list ≡ n.quants → length list ≤ k
    → out ++ map (place_at b) (picks (code.may_feed ns (fs n.quants)) (k + 1) (drop k list)) ≡ map (place_at b) (picks (code.may_feed ns (fs n.quants)) 1 list) → out ≡ map (place_at b) (picks (may_fire ns n) 1 n.quants)
all-picked ns b n h out k list same l so =
    sym (append-nil out) ∙ sym (ap (λ rs. out ++ map (place_at b) (picks (code.may_feed ns (fs n.quants)) (k + 1) rs)) (none-left k list l)) ∙ so
    ∙ ap (λ rs. map (place_at b) (picks (code.may_feed ns (fs n.quants)) 1 rs)) same
    ∙ ap (map (place_at b)) (same-picks (code.may_feed ns (fs n.quants)) (may_fire ns n) (λ r. fs-feed ns n r ∙ ap (λ t. t && may_feed ns (facts_in ns) n r) (sym h)) 1 n.quants)

-- the places of a box that stands there
pub places-of : (g : QueryGraph) (b : ℕ) (n : Node) → box_of b g ≡ Some n → map (place_at b) (picks (may_fire g.boxes n) 1 n.quants) ≡ map (place_at b) (feed_pairs g b)
unfolding feed_pairs
places-of g b n e = sym (ap (λ z. map (place_at b) (picks (in_owner (may_fire g.boxes) z) 1 (quants_in z))) e)

-- a box to which none may be added has none
pub none_grown : (g : QueryGraph) (b : ℕ) (n : Node) → box_of b g ≡ Some n → may_grow g.boxes n ≡ false → picks (in_owner (may_fire g.boxes) (box_of b g)) 1 (quants_of b g) ≡ []
none_grown g b n e h = ap (λ z. picks (in_owner (may_fire g.boxes) z) 1 (quants_in z)) e ∙ none-picked g.boxes n (none-grows g.boxes n h) 1 n.quants
