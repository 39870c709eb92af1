-- Places at quantifiers: the box and the quantifier of a place, and a box where none passes.
use Rattle.std.proofs.Common.{ℕ, suc, ◌+◌, ◌-◌, ◌≡◌, ◌≤◌, Bool, false, List, [], ◌∷◌, ◌++◌, length, None, Some, slice_get, refl, sym, ap, ap₂, subst, ◌∙◌, inl, inr, arith}
use Rattle.qgm_core.specs.Boxes.{HasBox, QueryGraph, box_of, is_box, quants_in, quants_of}
use Rattle.qgm_core.specs.declared.node.Node.{Node}
use Rattle.qgm_core.specs.declared.owned.OwnedQuant.{OwnedQuant}
use Rattle.list_laws.specs.Lists.{In}
use Rattle.list_laws.proofs.Membership.{any-from, any-in}
use Rattle.qgm_core.proofs.Reaching.{overs-held}
use Rattle.qgm_edit_laws.specs.Graph.{Sound}
use Rattle.qgm_edit_laws.proofs.Levels.{first-passes, some-in}
use Rattle.rule_api.specs.Picks.{picked, picks}
use Rattle.rule_facts.specs.Places.{in_owner}

-- ---- the quantifier of a place

get-mid : (us : List OwnedQuant) (r : OwnedQuant) (vs : List OwnedQuant) → slice_get (us ++ r ∷ vs) (length us) ≡ Some r
get-mid [] r vs = refl
get-mid (u ∷ us) r vs = get-mid us r vs

long-mid : (us : List OwnedQuant) (r : OwnedQuant) (vs : List OwnedQuant) → suc (length us) ≤ length (us ++ r ∷ vs)
long-mid [] r vs = let e : length (r ∷ vs) ≡ suc (length vs) = refl in omega (arith, e)
long-mid (u ∷ us) r vs = let h = long-mid us r vs in let e : length (u ∷ (us ++ r ∷ vs)) ≡ suc (length (us ++ r ∷ vs)) = refl in let d : length (u ∷ us) ≡ suc (length us) = refl in omega (arith, h, e, d)

module _ (g : QueryGraph) (at : ℕ) (b : Node) (found : box_of at g ≡ Some b) where
  pub box-held : HasBox at g
  box-held = let i = some-in (is_box at) g.boxes b found in any-from (is_box at) b g.boxes i.0 i.1

  pub box-is : (y : Node) → box_of at g ≡ Some y → y ≡ b
  box-is y e = let x : Some y ≡ Some b = sym e ∙ found in cc

  pub not-none : box_of at g ≡ None → ⊥
  not-none e = let x : None ≡ Some b = sym e ∙ found in let z : ⊥ = cc in z

  module _ (i : ℕ) (us : List OwnedQuant) (r : OwnedQuant) (vs : List OwnedQuant) (split : b.quants ≡ us ++ r ∷ vs) (nth : i ≡ suc (length us)) where
    pub from-one : 1 ≤ i
    from-one = let e = nth in omega (arith, e)

    pub within-box : i ≤ length b.quants
    within-box = subst (λ z. i ≤ length z) (sym split) (let l = long-mid us r vs in let e = nth in omega (arith, l, e))

    pub within : i ≤ length (quants_of at g)
    within = subst (λ z. i ≤ length (quants_in z)) (sym found) within-box

    get-here : slice_get b.quants (i - 1) ≡ Some r
    get-here = let e : i - 1 ≡ length us = (let d = nth in omega (arith, d)) in ap₂ slice_get split e ∙ get-mid us r vs

    -- what is found there
    pub quant-in : (x : OwnedQuant) → Some x ≡ slice_get b.quants (i - 1) → x ≡ r
    quant-in x e = let y : Some x ≡ Some r = e ∙ get-here in cc

    pub quant-is : (x : OwnedQuant) → Some x ≡ slice_get (quants_of at g) (i - 1) → x ≡ r
    quant-is x e = quant-in x (e ∙ ap (λ z. slice_get (quants_in z) (i - 1)) found)

-- ---- the box under a quantifier

pub under-there : (g : QueryGraph) → Sound g.boxes g.root → (b : Node) → In b g.boxes → (r : OwnedQuant) → In r b.quants → (c : Node) × (box_of r.over g ≡ Some c)
under-there g s b i r j =
    let x = any-in (is_box r.over) g.boxes (overs-held g.boxes b r s.ordered i j) in
    let y = first-passes (is_box r.over) g.boxes x.0 x.1.0 x.1.1 in (y.0, y.1.0)

-- ---- where none passes

none-picked : {X : Type 0} (p : X → Bool) (first : ℕ) (xs : List X) → ((x : X) → In x xs → p x ≡ false) → picks p first xs ≡ []
none-picked p first [] h = refl
none-picked p first (x ∷ xs) h = ap (λ z. picked z first 0 ++ picks p (first + 1) xs) (h x (inl refl)) ∙ none-picked p (first + 1) xs (λ y i. h y (inr i))

pub none-passes : (t : Node → OwnedQuant → Bool) (g : QueryGraph) (b : ℕ) (n : Node) → box_of b g ≡ Some n → ((r : OwnedQuant) → In r n.quants → t n r ≡ false) → picks (in_owner t (box_of b g)) 1 (quants_of b g) ≡ []
none-passes t g b n e h = ap (λ z. picks (in_owner t z) 1 (quants_in z)) e ∙ none-picked (t n) 1 n.quants h
