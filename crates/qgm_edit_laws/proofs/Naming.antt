-- What expressions name, and what they name where cells were put in or a column went.
use Rattle.std.proofs.Common.{ℕ, zero, suc, ◌==◌, ◌≡◌, ◌||◌, ◌&&◌, cond, Bool, true, false, List, [], ◌∷◌, ◌++◌, map, drop, refl, ap, ap₂, ◌∙◌}
use Rattle.std.specs.List.{list_any, flat_map, remove}
use Rattle.std.proofs.lemmas.Bool.{or_left, or_right}
use Rattle.qgm_core.specs.declared.node.Node.{Node}
use Rattle.qgm_core.specs.Free.{named_by}
use Rattle.list_laws.specs.Lists.{holds}
use Rattle.qgm_terms.specs.Terms.{Term, int, text, null_int, null_text, col, both, minus_of, choose, count_all, fold, scalar, Arms, no_arm, arm, Cond, always, compare, is_null, and, or, not, some, every}
use Rattle.qgm_terms.specs.Gathered.{listed_arms}
use Rattle.qgm_terms.specs.Named.{names_in, names_in_cond}
use Rattle.qgm_terms.specs.Named as named
use Rattle.qgm_terms.specs.Shift.{shifted, shifted_arms, shifted_cond}
use Rattle.qgm_terms.specs.Substitution.{cell_at, substituted, substituted_arms, substituted_cond}
use Rattle.qgm_terms.specs.Wanted.{Wanted, any_in, any_in_arms, any_in_cond}
use Rattle.qgm_meaning.specs.Searches.{looking}
use Rattle.qgm_edit_laws.proofs.AnyPut.{cell-any}
use Rattle.list_laws.proofs.Booleans.{or-false}

pub holds-append : (p : ℕ) (xs ys : List ℕ) → holds p (xs ++ ys) ≡ (holds p xs || holds p ys)
holds-append p [] ys = refl
holds-append p (x ∷ xs) ys = ap (λ z. (x == p) || z) (holds-append p xs ys) ∙ shift (x == p) (holds p xs) (holds p ys)
  where
    shift : (a b c : Bool) → (a || (b || c)) ≡ ((a || b) || c)
    shift true b c = refl
    shift false b c = refl

pub holds-each : {X : Type 0} (p : ℕ) (f : X → List ℕ) (xs : List X) → holds p (flat_map f xs) ≡ list_any (λ x. holds p (f x)) xs
holds-each p f [] = refl
holds-each p f (x ∷ xs) = holds-append p (f x) (flat_map f xs) ∙ ap (λ z. holds p (f x) || z) (holds-each p f xs)

pub any-same : {X : Type 0} (f g : X → Bool) (xs : List X) → ((x : X) → f x ≡ g x) → list_any f xs ≡ list_any g xs
any-same f g [] h = refl
any-same f g (x ∷ xs) h = ap₂ (λ a b. a || b) (h x) (any-same f g xs h)

-- p is named: by a column, a scalar, a some or an every
abbrev pub naming : ℕ → Wanted
naming p = looking (λ r k. r == p) (λ r. r == p) (λ r. r == p) (λ r. true)

abbrev pub says : ℕ → Term → Bool
says p = any_in (naming p)

abbrev pub says_arms : ℕ → Arms → Bool
says_arms p = any_in_arms (naming p)

abbrev pub says_cond : ℕ → Cond → Bool
says_cond p = any_in_cond (naming p)

module _ (p : ℕ) where
  mutual
    pub names-any : (x : Term) → holds p (names_in x) ≡ says p x
    names-any (int n) = refl
    names-any (text s) = refl
    names-any null_int = refl
    names-any null_text = refl
    names-any (col r k) = or-false (r == p)
    names-any (both o x y) = holds-append p (names_in x) (names_in y) ∙ ap₂ (λ a b. a || b) (names-any x) (names-any y)
    names-any (minus_of x) = names-any x
    names-any (choose s x) = holds-append p (listed_arms named.names s) (names_in x) ∙ ap₂ (λ a b. a || b) (arms-any s) (names-any x)
    names-any count_all = refl
    names-any (fold f t x) = names-any x
    names-any (scalar r) = or-false (r == p)

    arms-any : (s : Arms) → holds p (listed_arms named.names s) ≡ says_arms p s
    arms-any no_arm = refl
    arms-any (arm c x s) =
        holds-append p (names_in_cond c) (names_in x ++ listed_arms named.names s)
        ∙ ap₂ (λ a b. a || b) (cond-any c) (holds-append p (names_in x) (listed_arms named.names s) ∙ ap₂ (λ a b. a || b) (names-any x) (arms-any s))

    pub cond-any : (c : Cond) → holds p (names_in_cond c) ≡ says_cond p c
    cond-any always = refl
    cond-any (compare sign x y) = holds-append p (names_in x) (names_in y) ∙ ap₂ (λ a b. a || b) (names-any x) (names-any y)
    cond-any (is_null x) = names-any x
    cond-any (and c d) = holds-append p (names_in_cond c) (names_in_cond d) ∙ ap₂ (λ a b. a || b) (cond-any c) (cond-any d)
    cond-any (or c d) = holds-append p (names_in_cond c) (names_in_cond d) ∙ ap₂ (λ a b. a || b) (cond-any c) (cond-any d)
    cond-any (not c) = cond-any c
    cond-any (some r c) = ap (λ z. (r == p) || z) (cond-any c)
    cond-any (every r c) = ap (λ z. (r == p) || z) (cond-any c)

  -- of a box
  pub named-any : (n : Node) → holds p (named_by n) ≡ (list_any (says p) n.parts.head || list_any (says_cond p) n.parts.conds.items)
  named-any n =
      holds-append p (flat_map names_in n.parts.head) (flat_map names_in_cond n.parts.conds.items)
      ∙ ap₂ (λ a b. a || b) (holds-each p names_in n.parts.head ∙ any-same (λ x. holds p (names_in x)) (says p) n.parts.head names-any)
      (holds-each p names_in_cond n.parts.conds.items ∙ any-same (λ x. holds p (names_in_cond x)) (says_cond p) n.parts.conds.items cond-any)

  -- where cells are put in
  module _ (q : ℕ) (cells : List Term) where
    abbrev C : Bool
    C = list_any (says p) cells

    two : (a b a' b' c : Bool) → (a ≡ true → (a' || c) ≡ true) → (b ≡ true → (b' || c) ≡ true) → (a || b) ≡ true → ((a' || b') || c) ≡ true
    two a b true b' c h k t = refl
    two true b false b' c h k t = or_right b' c (h refl)
    two false b false b' c h k t = k t

    under : (r : ℕ) (c : Cond) → (says_cond p (substituted_cond q cells c) ≡ true → (says_cond p c || C) ≡ true) → ((r == p) || says_cond p (cond (r == q) c (substituted_cond q cells c))) ≡ true → (((r == p) || says_cond p c) || C) ≡ true
    under r c f h = two (r == p) (says_cond p (cond (r == q) c (substituted_cond q cells c))) (r == p) (says_cond p c) C (λ t. or_left (r == p) C t)
        (elim (r == q) as (λ t. says_cond p (cond t c (substituted_cond q cells c)) ≡ true → (says_cond p c || C) ≡ true) [ true ↦ λ t. or_left (says_cond p c) C t | false ↦ f ]) h

    mutual
      pub says-put : (x : Term) → says p (substituted q cells x) ≡ true → (says p x || C) ≡ true
      says-put (int n) h = absurd (let z : ⊥ = cc in z)
      says-put (text s) h = absurd (let z : ⊥ = cc in z)
      says-put null_int h = absurd (let z : ⊥ = cc in z)
      says-put null_text h = absurd (let z : ⊥ = cc in z)
      says-put (col r k) h = elim (r == q) as (λ t. says p (cond t (cell_at k cells) (col r k)) ≡ true → ((r == p) || C) ≡ true) [
        | true ↦ λ t. or_right (r == p) C (cell-any (says p) cells k refl t)
        | false ↦ λ t. or_left (r == p) C t
      ] h
      says-put (both o x y) h = two (says p (substituted q cells x)) (says p (substituted q cells y)) (says p x) (says p y) C (says-put x) (says-put y) h
      says-put (minus_of x) h = says-put x h
      says-put (choose s x) h = two (says_arms p (substituted_arms q cells s)) (says p (substituted q cells x)) (says_arms p s) (says p x) C (arms-put s) (says-put x) h
      says-put count_all h = absurd (let z : ⊥ = cc in z)
      says-put (fold f t x) h = says-put x h
      says-put (scalar r) h = or_left (r == p) C h

      arms-put : (s : Arms) → says_arms p (substituted_arms q cells s) ≡ true → (says_arms p s || C) ≡ true
      arms-put no_arm h = absurd (let z : ⊥ = cc in z)
      arms-put (arm c x s) h =
          two (says_cond p (substituted_cond q cells c)) (says p (substituted q cells x) || says_arms p (substituted_arms q cells s)) (says_cond p c) (says p x || says_arms p s) C (cond-put c)
          (two (says p (substituted q cells x)) (says_arms p (substituted_arms q cells s)) (says p x) (says_arms p s) C (says-put x) (arms-put s)) h

      pub cond-put : (c : Cond) → says_cond p (substituted_cond q cells c) ≡ true → (says_cond p c || C) ≡ true
      cond-put always h = absurd (let z : ⊥ = cc in z)
      cond-put (compare sign x y) h = two (says p (substituted q cells x)) (says p (substituted q cells y)) (says p x) (says p y) C (says-put x) (says-put y) h
      cond-put (is_null x) h = says-put x h
      cond-put (and c d) h = two (says_cond p (substituted_cond q cells c)) (says_cond p (substituted_cond q cells d)) (says_cond p c) (says_cond p d) C (cond-put c) (cond-put d) h
      cond-put (or c d) h = two (says_cond p (substituted_cond q cells c)) (says_cond p (substituted_cond q cells d)) (says_cond p c) (says_cond p d) C (cond-put c) (cond-put d) h
      cond-put (not c) h = cond-put c h
      cond-put (some r c) h = under r c (cond-put c) h
      cond-put (every r c) h = under r c (cond-put c) h

    pub heads-put : (xs : List Term) → list_any (says p) (map (substituted q cells) xs) ≡ true → (list_any (says p) xs || C) ≡ true
    heads-put [] h = absurd (let z : ⊥ = cc in z)
    heads-put (x ∷ xs) h = two (says p (substituted q cells x)) (list_any (says p) (map (substituted q cells) xs)) (says p x) (list_any (says p) xs) C (says-put x) (heads-put xs) h

    pub conds-put : (xs : List Cond) → list_any (says_cond p) (map (substituted_cond q cells) xs) ≡ true → (list_any (says_cond p) xs || C) ≡ true
    conds-put [] h = absurd (let z : ⊥ = cc in z)
    conds-put (x ∷ xs) h = two (says_cond p (substituted_cond q cells x)) (list_any (says_cond p) (map (substituted_cond q cells) xs)) (says_cond p x) (list_any (says_cond p) xs) C (cond-put x) (conds-put xs) h

-- a search that doesn't ask for places finds the same where a column went
module _ (q k : ℕ) (w : Wanted) (unplaced : (r i j : ℕ) → w.column r i ≡ w.column r j) where
  mutual
    pub term-shift : (x : Term) → any_in w (shifted q k x) ≡ any_in w x
    term-shift (int n) = refl
    term-shift (text s) = refl
    term-shift null_int = refl
    term-shift null_text = refl
    term-shift (col r j) = unplaced r _ j
    term-shift (both o x y) = ap₂ (λ a b. a || b) (term-shift x) (term-shift y)
    term-shift (minus_of x) = term-shift x
    term-shift (choose s x) = ap₂ (λ a b. a || b) (arms-shift s) (term-shift x)
    term-shift count_all = refl
    term-shift (fold f t x) = ap (λ a. w.aggregate || a) (term-shift x)
    term-shift (scalar r) = refl

    arms-shift : (s : Arms) → any_in_arms w (shifted_arms q k s) ≡ any_in_arms w s
    arms-shift no_arm = refl
    arms-shift (arm c x s) = ap₂ (λ a b. a || b) (cond-shift c) (ap₂ (λ a b. a || b) (term-shift x) (arms-shift s))

    pub cond-shift : (c : Cond) → any_in_cond w (shifted_cond q k c) ≡ any_in_cond w c
    cond-shift always = refl
    cond-shift (compare sign x y) = ap₂ (λ a b. a || b) (term-shift x) (term-shift y)
    cond-shift (is_null x) = term-shift x
    cond-shift (and c d) = ap₂ (λ a b. a || b) (cond-shift c) (cond-shift d)
    cond-shift (or c d) = ap₂ (λ a b. a || b) (cond-shift c) (cond-shift d)
    cond-shift (not c) = cond-shift c
    cond-shift (some r c) = ap (λ z. w.node r || (w.enter r && z)) (cond-shift c)
    cond-shift (every r c) = ap (λ z. w.node r || (w.enter r && z)) (cond-shift c)

  pub heads-shift : (xs : List Term) → list_any (any_in w) (map (shifted q k) xs) ≡ list_any (any_in w) xs
  heads-shift [] = refl
  heads-shift (x ∷ xs) = ap₂ (λ a b. a || b) (term-shift x) (heads-shift xs)

  pub conds-shift : (xs : List Cond) → list_any (any_in_cond w) (map (shifted_cond q k) xs) ≡ list_any (any_in_cond w) xs
  conds-shift [] = refl
  conds-shift (x ∷ xs) = ap₂ (λ a b. a || b) (cond-shift x) (conds-shift xs)

-- what is found with one element less is found with it
pub any-drop : {X : Type 0} (f : X → Bool) (i : ℕ) (xs : List X) → list_any f (drop i xs) ≡ true → list_any f xs ≡ true
any-drop f zero xs h = h
any-drop f (suc i) [] h = h
any-drop f (suc i) (x ∷ xs) h = or_right (f x) (list_any f xs) (any-drop f i xs h)

pub any-remove : {X : Type 0} (f : X → Bool) (i : ℕ) (xs : List X) → list_any f (remove xs i) ≡ true → list_any f xs ≡ true
any-remove f zero [] h = h
any-remove f zero (x ∷ xs) h = or_right (f x) (list_any f xs) h
any-remove f (suc i) [] h = h
any-remove f (suc i) (x ∷ xs) h = elim (f x) as (λ t. (t || list_any f (remove xs i)) ≡ true → (t || list_any f xs) ≡ true) [ true ↦ λ h. refl | false ↦ λ h. any-remove f i xs h ] h
