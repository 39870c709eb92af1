-- What the cells of a group name: columns of its own quantifier alone.
use Rattle.std.specs.Prelude.{ℕ, ◌≡◌, ◌==◌, true, false, List}
use Rattle.std.specs.List.{list_any}
use Rattle.qgm_terms.specs.Terms.{Term}
use Rattle.qgm_terms.specs.Wanted.{reads}
use Rattle.qgm_meaning.specs.Searches.{binds}

-- an expression names columns of q alone, and no some or every stands in it
pub record OfOwn (q : ℕ) (x : Term) : Type 0 where
  pub own : (r : ℕ) → reads r x ≡ true → (r == q) ≡ true
  pub unbound : (r : ℕ) → binds r x ≡ false

-- so do all of these
pub record AllOwn (q : ℕ) (xs : List Term) : Type 0 where
  pub own : (r : ℕ) → list_any (reads r) xs ≡ true → (r == q) ≡ true
  pub unbound : (r : ℕ) → list_any (binds r) xs ≡ false
