-- What is put into a chain or into the arms of a CASE is put into their parts.
use Rattle.std.proofs.Common.{◌≡◌, refl, ℕ, map, List, [], ◌∷◌, ap}
use Rattle.qgm_terms.specs.Terms.{Term, Link, both, Cond, and, or, linked, anded, ored, Choice, arm, armed}
use Rattle.rule_feed.specs.Feed.{fed_arms, fed_cond, fed_term}
use Rattle.rule_feed.specs.FeedTerms.{fed_choices, fed_links}

module _ (i n : ℕ) (k : Cond) where
  pub fed_linked : (x : Term) (ls : List Link) → fed_term i n k (linked x ls) ≡ linked (fed_term i n k x) (fed_links i n k ls)
  fed_linked x [] = refl
  fed_linked x (l ∷ ls) = fed_linked (both l.op x l.right) ls

  pub fed_anded : (p : Cond) (ps : List Cond) → fed_cond i n k (anded p ps) ≡ anded (fed_cond i n k p) (map (fed_cond i n k) ps)
  fed_anded p [] = refl
  fed_anded p (r ∷ ps) = fed_anded (and p r) ps

  pub fed_ored : (p : Cond) (ps : List Cond) → fed_cond i n k (ored p ps) ≡ ored (fed_cond i n k p) (map (fed_cond i n k) ps)
  fed_ored p [] = refl
  fed_ored p (r ∷ ps) = fed_ored (or p r) ps

  pub fed_armed : (cs : List Choice) → fed_arms i n k (armed cs) ≡ armed (fed_choices i n k cs)
  fed_armed [] = refl
  fed_armed (c ∷ cs) = ap (arm (fed_cond i n k c.when) (fed_term i n k c.then)) (fed_armed cs)
