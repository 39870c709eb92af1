-- A cell without nodes and without aggregates is bare.
use Rattle.std.proofs.Common.{ℕ, zero, suc, ◌≡◌, ◌&&◌, ◌||◌, true, false, List, [], ◌∷◌, refl}
use Rattle.std.specs.List.{list_any}
use Rattle.std.proofs.lemmas.Bool.{and_from, not-true, or_parts}
use Rattle.qgm_meaning.specs.Searches.{bare, bare_arms, bare_cond}
use Rattle.qgm_terms.specs.Substitution.{cell_at}
use Rattle.qgm_terms.specs.Terms.{Term, int, text, null_int, null_text, col, scalar, both, minus_of, choose, count_all, fold, Arms, no_arm, arm, Cond, always, compare, is_null, and, or, not, some, every}
use Rattle.qgm_terms.specs.Wanted.{any_in, any_in_arms, any_in_cond, has_aggregate, has_aggregate_cond, node_free, wanted}
use Rattle.qgm_terms.specs.declared.sought.Sought.TheVariants.{Node, Aggregate}

mutual
  bare-term : (x : Term) → any_in (wanted Node) x ≡ false → has_aggregate x ≡ false → bare x ≡ true
  bare-term (int n) h k = refl
  bare-term (text s) h k = refl
  bare-term null_int h k = refl
  bare-term null_text h k = refl
  bare-term (col r j) h k = refl
  bare-term (scalar r) h k = absurd (let z : ⊥ = cc in z)
  bare-term (both o x y) h k =
      let a = or_parts (any_in (wanted Node) x) (any_in (wanted Node) y) h in
      let b = or_parts (has_aggregate x) (has_aggregate y) k in
      and_from (bare x) (bare y) (bare-term x a.0 b.0) (bare-term y a.1 b.1)
  bare-term (minus_of x) h k = bare-term x h k
  bare-term (choose s x) h k =
      let a = or_parts (any_in_arms (wanted Node) s) (any_in (wanted Node) x) h in
      let b = or_parts (any_in_arms (wanted Aggregate) s) (has_aggregate x) k in
      and_from (bare_arms s) (bare x) (bare-arms s a.0 b.0) (bare-term x a.1 b.1)
  bare-term count_all h k = absurd (let z : ⊥ = cc in z)
  bare-term (fold f t x) h k = absurd (let z : ⊥ = cc in z)

  bare-arms : (s : Arms) → any_in_arms (wanted Node) s ≡ false → any_in_arms (wanted Aggregate) s ≡ false → bare_arms s ≡ true
  bare-arms no_arm h k = refl
  bare-arms (arm c x s) h k =
      let a = or_parts (any_in_cond (wanted Node) c) (any_in (wanted Node) x || any_in_arms (wanted Node) s) h in
      let a2 = or_parts (any_in (wanted Node) x) (any_in_arms (wanted Node) s) a.1 in
      let b = or_parts (has_aggregate_cond c) (has_aggregate x || any_in_arms (wanted Aggregate) s) k in
      let b2 = or_parts (has_aggregate x) (any_in_arms (wanted Aggregate) s) b.1 in
      and_from (bare_cond c) (bare x && bare_arms s) (bare-cond c a.0 b.0) (and_from (bare x) (bare_arms s) (bare-term x a2.0 b2.0) (bare-arms s a2.1 b2.1))

  bare-cond : (c : Cond) → any_in_cond (wanted Node) c ≡ false → has_aggregate_cond c ≡ false → bare_cond c ≡ true
  bare-cond always h k = refl
  bare-cond (compare sign x y) h k =
      let a = or_parts (any_in (wanted Node) x) (any_in (wanted Node) y) h in
      let b = or_parts (has_aggregate x) (has_aggregate y) k in
      and_from (bare x) (bare y) (bare-term x a.0 b.0) (bare-term y a.1 b.1)
  bare-cond (is_null x) h k = bare-term x h k
  bare-cond (and c d) h k =
      let a = or_parts (any_in_cond (wanted Node) c) (any_in_cond (wanted Node) d) h in
      let b = or_parts (has_aggregate_cond c) (has_aggregate_cond d) k in
      and_from (bare_cond c) (bare_cond d) (bare-cond c a.0 b.0) (bare-cond d a.1 b.1)
  bare-cond (or c d) h k =
      let a = or_parts (any_in_cond (wanted Node) c) (any_in_cond (wanted Node) d) h in
      let b = or_parts (has_aggregate_cond c) (has_aggregate_cond d) k in
      and_from (bare_cond c) (bare_cond d) (bare-cond c a.0 b.0) (bare-cond d a.1 b.1)
  bare-cond (not c) h k = bare-cond c h k
  bare-cond (some r c) h k = absurd (let z : ⊥ = cc in z)
  bare-cond (every r c) h k = absurd (let z : ⊥ = cc in z)

bare-behind : (m : ℕ) (xs : List Term) → list_any has_aggregate xs ≡ false → node_free (cell_at (suc m) xs) ≡ true → bare (cell_at (suc m) xs) ≡ true
bare-behind zero [] h k = refl
bare-behind (suc m) [] h k = refl
bare-behind zero (x ∷ xs) h k = bare-term x (not-true (any_in (wanted Node) x) k) (or_parts (has_aggregate x) (list_any has_aggregate xs) h).0
bare-behind (suc m) (x ∷ xs) h k = bare-behind m xs (or_parts (has_aggregate x) (list_any has_aggregate xs) h).1 k

-- a node-free cell of a head without aggregates is bare
pub bare-cell : (k : ℕ) (xs : List Term) → list_any has_aggregate xs ≡ false → node_free (cell_at k xs) ≡ true → bare (cell_at k xs) ≡ true
bare-cell zero xs h k = refl
bare-cell (suc m) xs h k = bare-behind m xs h k
