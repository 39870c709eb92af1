-- Where a column is dropped from a chain or from the arms of a CASE, it is dropped from their parts.
use Rattle.std.proofs.Common.{◌≡◌, refl, ℕ, map, List, [], ◌∷◌, ap}
use Rattle.qgm_terms.specs.Shift.{shifted, shifted_arms, shifted_cond, shifted_links, shifted_choices}
use Rattle.qgm_terms.specs.Terms.{Term, Link, both, Cond, and, or, linked, anded, ored, Choice, arm, armed}

pub shifted_linked : (q k : ℕ) (x : Term) (ls : List Link) → shifted q k (linked x ls) ≡ linked (shifted q k x) (shifted_links q k ls)
shifted_linked q k x [] = refl
shifted_linked q k x (l ∷ ls) = shifted_linked q k (both l.op x l.right) ls

pub shifted_anded : (q k : ℕ) (p : Cond) (ps : List Cond) → shifted_cond q k (anded p ps) ≡ anded (shifted_cond q k p) (map (shifted_cond q k) ps)
shifted_anded q k p [] = refl
shifted_anded q k p (r ∷ ps) = shifted_anded q k (and p r) ps

pub shifted_ored : (q k : ℕ) (p : Cond) (ps : List Cond) → shifted_cond q k (ored p ps) ≡ ored (shifted_cond q k p) (map (shifted_cond q k) ps)
shifted_ored q k p [] = refl
shifted_ored q k p (r ∷ ps) = shifted_ored q k (or p r) ps

pub shifted_armed : (q k : ℕ) (cs : List Choice) → shifted_arms q k (armed cs) ≡ armed (shifted_choices q k cs)
shifted_armed q k [] = refl
shifted_armed q k (c ∷ cs) = ap (arm (shifted_cond q k c.when) (shifted q k c.then)) (shifted_armed q k cs)

pub ruleset shift_laws = (shifted_linked, shifted_anded, shifted_ored, shifted_armed)
