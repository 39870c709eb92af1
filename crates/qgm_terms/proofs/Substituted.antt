-- Substitution in a chain or in the arms of a CASE is substitution in their parts.
use Rattle.std.proofs.Common.{◌≡◌, refl, ℕ, map, List, [], ◌∷◌, ap}
use Rattle.qgm_terms.specs.Substitution.{substituted, substituted_arms, substituted_cond, substituted_links, substituted_choices}
use Rattle.qgm_terms.specs.Terms.{Term, Link, both, Cond, and, or, linked, anded, ored, Choice, arm, armed}

pub substituted_linked : (q : ℕ) (cells : List Term) (x : Term) (ls : List Link) → substituted q cells (linked x ls) ≡ linked (substituted q cells x) (substituted_links q cells ls)
substituted_linked q cells x [] = refl
substituted_linked q cells x (l ∷ ls) = substituted_linked q cells (both l.op x l.right) ls

pub substituted_anded : (q : ℕ) (cells : List Term) (p : Cond) (ps : List Cond) → substituted_cond q cells (anded p ps) ≡ anded (substituted_cond q cells p) (map (substituted_cond q cells) ps)
substituted_anded q cells p [] = refl
substituted_anded q cells p (r ∷ ps) = substituted_anded q cells (and p r) ps

pub substituted_ored : (q : ℕ) (cells : List Term) (p : Cond) (ps : List Cond) → substituted_cond q cells (ored p ps) ≡ ored (substituted_cond q cells p) (map (substituted_cond q cells) ps)
substituted_ored q cells p [] = refl
substituted_ored q cells p (r ∷ ps) = substituted_ored q cells (or p r) ps

pub substituted_armed : (q : ℕ) (cells : List Term) (cs : List Choice) → substituted_arms q cells (armed cs) ≡ armed (substituted_choices q cells cs)
substituted_armed q cells [] = refl
substituted_armed q cells (c ∷ cs) = ap (arm (substituted_cond q cells c.when) (substituted q cells c.then)) (substituted_armed q cells cs)
