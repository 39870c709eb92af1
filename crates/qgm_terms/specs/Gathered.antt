-- What is gathered from expressions and conditions: one traversal for all searches.
use Rattle.std.specs.Prelude.{ℕ, List, [], ◌∷◌, ◌++◌}
use Rattle.qgm_terms.specs.Terms.{Term, int, text, null_int, null_text, col, scalar, both, minus_of, choose, count_all, fold}
use Rattle.qgm_terms.specs.Terms.{Link, Choice, Arms, no_arm, arm, Cond, always, compare, is_null, and, or, not, some, every}

-- what a column and a scalar give, and what some, every and an aggregate give beside what stands in them
pub record Search (A : Type 0) : Type 0 where
  pub at_column : ℕ → ℕ → A
  pub at_scalar : ℕ → A
  pub at_some : ℕ → A → A
  pub at_every : ℕ → A → A
  pub at_aggregate : A → A

-- what the parts give, together, from the left
module _ {A : Type 0} (none : A) (with : A → A → A) (s : Search A) where
  abbrev mutual
    pub gathered : Term → A
    gathered (int n) = none
    gathered (text t) = none
    gathered null_int = none
    gathered null_text = none
    gathered (col q k) = s.at_column q k
    gathered (scalar q) = s.at_scalar q
    gathered (both op x y) = with (gathered x) (gathered y)
    gathered (minus_of x) = gathered x
    gathered (choose a x) = with (gathered_arms a) (gathered x)
    gathered count_all = s.at_aggregate none
    gathered (fold f t x) = s.at_aggregate (gathered x)

    pub gathered_arms : Arms → A
    gathered_arms no_arm = none
    gathered_arms (arm c x a) = with (gathered_cond c) (with (gathered x) (gathered_arms a))

    pub gathered_cond : Cond → A
    gathered_cond always = none
    gathered_cond (compare sign x y) = with (gathered x) (gathered y)
    gathered_cond (is_null x) = gathered x
    gathered_cond (and c d) = with (gathered_cond c) (gathered_cond d)
    gathered_cond (or c d) = with (gathered_cond c) (gathered_cond d)
    gathered_cond (not c) = gathered_cond c
    gathered_cond (some q c) = s.at_some q (gathered_cond c)
    gathered_cond (every q c) = s.at_every q (gathered_cond c)

-- all that is found, in the order of the text
abbrev pub listed : {X : Type 0} → Search (List X) → Term → List X
listed s = gathered [] (λ x y. x ++ y) s

abbrev pub listed_arms : {X : Type 0} → Search (List X) → Arms → List X
listed_arms s = gathered_arms [] (λ x y. x ++ y) s

abbrev pub listed_cond : {X : Type 0} → Search (List X) → Cond → List X
listed_cond s = gathered_cond [] (λ x y. x ++ y) s

-- that of the operands behind a first one, and of conditions with their results
abbrev pub listed_links : {X : Type 0} → Search (List X) → List Link → List X
listed_links s [] = []
listed_links s (l ∷ ls) = listed s l.right ++ listed_links s ls

abbrev pub listed_choices : {X : Type 0} → Search (List X) → List Choice → List X
listed_choices s [] = []
listed_choices s (c ∷ cs) = listed_cond s c.when ++ (listed s c.then ++ listed_choices s cs)
