-- Places in a list that grows.
use Rattle.std.proofs.Common.{◌≡◌, refl, ℕ, suc, ◌+◌, ◌==◌, ◌||◌, cond, Bool, true, false, List, [], ◌∷◌, ◌++◌, Some, None, ap, ◌∙◌, length, arith}
use Rattle.list_laws.specs.Lists.{holds}
use Rattle.graph_print.specs.Places.{found_in, or_else, place_in}

-- what isn't there has the place behind all
pub place_out : (x : ℕ) (ys : List ℕ) → found_in ys x ≡ None → length ys + 1 ≡ place_in ys x
place_out x [] h = refl
place_out x (y ∷ ys) h = elim (y == x) as (λ t. cond (t || holds x ys) (Some (cond t 1 (suc (place_in ys x)))) None ≡ None → suc (length ys) + 1 ≡ cond t 1 (suc (place_in ys x))) [
  | true ↦ λ e. absurd (let z : ⊥ = cc in z)
  | false ↦ λ e. let k : length ys + 1 ≡ place_in ys x = place_out x ys (none (holds x ys) (suc (place_in ys x)) (place_in ys x) e) in
      let z : suc (length ys) + 1 ≡ suc (length ys + 1) = omega arith in
      z ∙ ap suc k
] h
  where
    none : (t : Bool) (p q : ℕ) → cond t (Some p) None ≡ None → cond t (Some q) None ≡ None
    none true p q e = absurd (let z : ⊥ = cc in z)
    none false p q e = refl

behind : (a : Bool) (p : ℕ) (b : Bool) (q : ℕ) (c : Bool) (n : ℕ) → cond a (Some p) None ≡ or_else (cond b (Some q) None) (cond c (Some (n + 1)) None) → cond a (Some (suc p)) None ≡ or_else (cond b (Some (suc q)) None) (cond c (Some (suc n + 1)) None)
behind true p true q c n e = let h : p ≡ q = cc in ap (λ (k : ℕ). Some (suc k)) h
behind true p false q true n e =
    let h : p ≡ n + 1 = cc in
    let z : suc p ≡ suc n + 1 = omega arith in
    ap (λ (k : ℕ). Some k) z
behind true p false q false n e = absurd (let z : ⊥ = cc in z)
behind false p true q c n e = absurd (let z : ⊥ = cc in z)
behind false p false q true n e = absurd (let z : ⊥ = cc in z)
behind false p false q false n e = refl

more-none : (t : Bool) → cond (t || false) (Some (cond t 1 (suc 1))) None ≡ or_else None (cond t (Some 1) None)
more-none true = refl
more-none false = refl

more-behind : (t a b c : Bool) (p q n : ℕ) → cond a (Some p) None ≡ or_else (cond b (Some q) None) (cond c (Some (n + 1)) None)
    → cond (t || a) (Some (cond t 1 (suc p))) None ≡ or_else (cond (t || b) (Some (cond t 1 (suc q))) None) (cond c (Some (suc n + 1)) None)
more-behind true a b c p q n e = refl
more-behind false a b c p q n e = behind a p b q c n e

-- one more at the end
pub found_more : (x y : ℕ) (ys : List ℕ) → found_in (ys ++ y ∷ []) x ≡ or_else (found_in ys x) (cond (y == x) (Some (length ys + 1)) None)
found_more x y [] = more-none (y == x)
found_more x y (z ∷ zs) = more-behind (z == x) (holds x (zs ++ y ∷ [])) (holds x zs) (y == x) (place_in (zs ++ y ∷ []) x) (place_in zs x) (length zs) (found_more x y zs)
