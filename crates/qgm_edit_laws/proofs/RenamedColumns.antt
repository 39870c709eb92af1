-- Expressions in which the columns of quantifiers have other places.
use Rattle.std.proofs.Common.{ℕ, ◌≡◌, List, ◌∷◌, map, refl, ap, ap₂, ◌∙◌, []}
use Rattle.qgm_core.specs.declared.node.Node.{Node}
use Rattle.qgm_core.specs.Edits.{shift_node}
use Rattle.qgm_terms.specs.Shift.{shifted, shifted_arms, shifted_cond, shifted_place}
use Rattle.qgm_terms.specs.Terms.{Term, int, text, null_int, null_text, col, both, minus_of, choose, count_all, fold, scalar, Arms, no_arm, arm, Cond, always, compare, is_null, and, or, not, some, every}
use Rattle.qgm_edit_laws.proofs.Column.{place_each, shift_each}

module _ (place : ℕ → ℕ → ℕ) where
  abbrev mutual
    pub re : Term → Term
    re (int n) = int n
    re (text s) = text s
    re null_int = null_int
    re null_text = null_text
    re (col q j) = col q (place q j)
    re (both o x y) = both o (re x) (re y)
    re (minus_of x) = minus_of (re x)
    re (choose s x) = choose (re_arms s) (re x)
    re count_all = count_all
    re (fold f t x) = fold f t (re x)
    re (scalar q) = scalar q

    pub re_arms : Arms → Arms
    re_arms no_arm = no_arm
    re_arms (arm c x s) = arm (re_cond c) (re x) (re_arms s)

    pub re_cond : Cond → Cond
    re_cond always = always
    re_cond (compare sign x y) = compare sign (re x) (re y)
    re_cond (is_null x) = is_null (re x)
    re_cond (and c d) = and (re_cond c) (re_cond d)
    re_cond (or c d) = or (re_cond c) (re_cond d)
    re_cond (not c) = not (re_cond c)
    re_cond (some r c) = some r (re_cond c)
    re_cond (every r c) = every r (re_cond c)

-- no place changes
abbrev same_place : ℕ → ℕ → ℕ
same_place q j = j

mutual
  re-none : (x : Term) → x ≡ re same_place x
  re-none (int n) = refl
  re-none (text s) = refl
  re-none null_int = refl
  re-none null_text = refl
  re-none (col q j) = refl
  re-none (both o x y) = ap₂ (both o) (re-none x) (re-none y)
  re-none (minus_of x) = ap minus_of (re-none x)
  re-none (choose s x) = ap₂ choose (arms-none s) (re-none x)
  re-none count_all = refl
  re-none (fold f t x) = ap (fold f t) (re-none x)
  re-none (scalar q) = refl

  arms-none : (s : Arms) → s ≡ re_arms same_place s
  arms-none no_arm = refl
  arms-none (arm c x s) = ap₂ (λ (u : Cond) (v : Term). arm u v s) (cond-none c) (re-none x) ∙ ap (arm (re_cond same_place c) (re same_place x)) (arms-none s)

  cond-none : (c : Cond) → c ≡ re_cond same_place c
  cond-none always = refl
  cond-none (compare sign x y) = ap₂ (compare sign) (re-none x) (re-none y)
  cond-none (is_null x) = ap is_null (re-none x)
  cond-none (and c d) = ap₂ and (cond-none c) (cond-none d)
  cond-none (or c d) = ap₂ or (cond-none c) (cond-none d)
  cond-none (not c) = ap not (cond-none c)
  cond-none (some r c) = ap (some r) (cond-none c)
  cond-none (every r c) = ap (every r) (cond-none c)

-- first column k of p goes, and then the places change
module _ (f : ℕ → ℕ → ℕ) (p k : ℕ) where
  abbrev then : ℕ → ℕ → ℕ
  then q j = f q (shifted_place p k q j)

  abbrev mutual
    re-then : (x : Term) → re f (shifted p k x) ≡ re then x
    re-then (int n) = refl
    re-then (text s) = refl
    re-then null_int = refl
    re-then null_text = refl
    re-then (col q j) = refl
    re-then (both o x y) = ap₂ (both o) (re-then x) (re-then y)
    re-then (minus_of x) = ap minus_of (re-then x)
    re-then (choose s x) = ap₂ choose (arms-then s) (re-then x)
    re-then count_all = refl
    re-then (fold g t x) = ap (fold g t) (re-then x)
    re-then (scalar q) = refl

    arms-then : (s : Arms) → re_arms f (shifted_arms p k s) ≡ re_arms then s
    arms-then no_arm = refl
    arms-then (arm c x s) = ap₂ (λ (u : Cond) (v : Term). arm u v (re_arms f (shifted_arms p k s))) (cond-then c) (re-then x) ∙ ap (arm (re_cond then c) (re then x)) (arms-then s)

    cond-then : (c : Cond) → re_cond f (shifted_cond p k c) ≡ re_cond then c
    cond-then always = refl
    cond-then (compare sign x y) = ap₂ (compare sign) (re-then x) (re-then y)
    cond-then (is_null x) = ap is_null (re-then x)
    cond-then (and c d) = ap₂ and (cond-then c) (cond-then d)
    cond-then (or c d) = ap₂ or (cond-then c) (cond-then d)
    cond-then (not c) = ap not (cond-then c)
    cond-then (some r c) = ap (some r) (cond-then c)
    cond-then (every r c) = ap (every r) (cond-then c)

map-none : {X : Type 0} (h : X → X) → ((x : X) → x ≡ h x) → (xs : List X) → xs ≡ map h xs
map-none h e [] = refl
map-none h e (x ∷ xs) = ap₂ (λ u us. u ∷ us) (e x) (map-none h e xs)

map-then : {X : Type 0} (h g k : X → X) → ((x : X) → h (g x) ≡ k x) → (xs : List X) → map h (map g xs) ≡ map k xs
map-then h g k e [] = refl
map-then h g k e (x ∷ xs) = ap₂ (λ u us. u ∷ us) (e x) (map-then h g k e xs)

-- the cells and conditions of a box where quantifiers lose column k
module _ (k : ℕ) where
  pub head-each : (qs : List ℕ) (n : Node) → (shift_each k qs n).parts.head ≡ map (re (place_each k qs)) n.parts.head
  head-each [] n = map-none (re same_place) re-none n.parts.head
  head-each (q ∷ qs) n = head-each qs (shift_node k q n) ∙ map-then (re (place_each k qs)) (shifted q k) (re (place_each k (q ∷ qs))) (re-then (place_each k qs) q k) n.parts.head

  pub conds-each : (qs : List ℕ) (n : Node) → (shift_each k qs n).parts.conds.items ≡ map (re_cond (place_each k qs)) n.parts.conds.items
  conds-each [] n = map-none (re_cond same_place) cond-none n.parts.conds.items
  conds-each (q ∷ qs) n = conds-each qs (shift_node k q n) ∙ map-then (re_cond (place_each k qs)) (shifted_cond q k) (re_cond (place_each k (q ∷ qs))) (cond-then (place_each k qs) q k) n.parts.conds.items
