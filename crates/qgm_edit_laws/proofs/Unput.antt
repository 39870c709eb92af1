-- Cells put in for columns that aren't there.
use Rattle.std.proofs.Common.{ℕ, ◌==◌, ◌≡◌, ◌&&◌, ◌||◌, cond, Bool, true, false, List, [], ◌∷◌, map, refl, ap, ap₂, ◌∙◌}
use Rattle.std.specs.List.{list_any}
use Rattle.qgm_terms.specs.Terms.{Term, int, text, null_int, null_text, col, both, minus_of, choose, count_all, fold, scalar, Arms, no_arm, arm, Cond, always, compare, is_null, and, or, not, some, every}
use Rattle.qgm_terms.specs.Substitution.{substituted, substituted_arms, substituted_cond, cell_at}
use Rattle.qgm_terms.specs.Wanted.{reads, reads_cond}
use Rattle.qgm_meaning.specs.Searches.{reads_arms}
use Rattle.std.specs.Prelude as p
use Rattle.std.proofs.lemmas.Bool.{or_parts}

module _ (q : ℕ) (cells : List Term) where
  round : (r : ℕ) (c : Cond) → (reads_cond q c ≡ false → substituted_cond q cells c ≡ c) → reads_cond q (some r c) ≡ false → cond (r == q) c (substituted_cond q cells c) ≡ c
  round r c h = elim (r == q) as (λ t. ◌≡◌ {A = Bool} (p.not t && reads_cond q c) false → cond t c (substituted_cond q cells c) ≡ c) [ true ↦ λ k. refl | false ↦ λ k. h k ]

  mutual
    pub term-none : (x : Term) → reads q x ≡ false → substituted q cells x ≡ x
    term-none (int n) h = refl
    term-none (text s) h = refl
    term-none null_int h = refl
    term-none null_text h = refl
    term-none (col r k) h = ap (λ t. cond t (cell_at k cells) (col r k)) h
    term-none (both o x y) h = let n = or_parts (reads q x) (reads q y) h in ap₂ (both o) (term-none x n.0) (term-none y n.1)
    term-none (minus_of x) h = ap minus_of (term-none x h)
    term-none (choose s x) h = let n = or_parts (reads_arms q s) (reads q x) h in ap₂ choose (arms-none s n.0) (term-none x n.1)
    term-none count_all h = refl
    term-none (fold f t x) h = ap (fold f t) (term-none x h)
    term-none (scalar r) h = refl

    arms-none : (s : Arms) → reads_arms q s ≡ false → substituted_arms q cells s ≡ s
    arms-none no_arm h = refl
    arms-none (arm c x s) h =
        let n = or_parts (reads_cond q c) (reads q x || reads_arms q s) h in
        let m = or_parts (reads q x) (reads_arms q s) n.1 in
        ap (λ k. arm k (substituted q cells x) (substituted_arms q cells s)) (cond-none c n.0) ∙ ap₂ (arm c) (term-none x m.0) (arms-none s m.1)

    pub cond-none : (c : Cond) → reads_cond q c ≡ false → substituted_cond q cells c ≡ c
    cond-none always h = refl
    cond-none (compare sign x y) h = let n = or_parts (reads q x) (reads q y) h in ap₂ (compare sign) (term-none x n.0) (term-none y n.1)
    cond-none (is_null x) h = ap is_null (term-none x h)
    cond-none (and c d) h = let n = or_parts (reads_cond q c) (reads_cond q d) h in ap₂ and (cond-none c n.0) (cond-none d n.1)
    cond-none (or c d) h = let n = or_parts (reads_cond q c) (reads_cond q d) h in ap₂ or (cond-none c n.0) (cond-none d n.1)
    cond-none (not c) h = ap not (cond-none c h)
    cond-none (some r c) h = ap (some r) (round r c (cond-none c) h)
    cond-none (every r c) h = ap (every r) (round r c (cond-none c) h)

  pub heads-none : (xs : List Term) → list_any (reads q) xs ≡ false → map (substituted q cells) xs ≡ xs
  heads-none [] h = refl
  heads-none (x ∷ xs) h = let n = or_parts (reads q x) (list_any (reads q) xs) h in ap₂ (λ (a : Term) (b : List Term). a ∷ b) (term-none x n.0) (heads-none xs n.1)

  pub conds-none : (xs : List Cond) → list_any (reads_cond q) xs ≡ false → map (substituted_cond q cells) xs ≡ xs
  conds-none [] h = refl
  conds-none (x ∷ xs) h = let n = or_parts (reads_cond q x) (list_any (reads_cond q) xs) h in ap₂ (λ (a : Cond) (b : List Cond). a ∷ b) (cond-none x n.0) (conds-none xs n.1)
