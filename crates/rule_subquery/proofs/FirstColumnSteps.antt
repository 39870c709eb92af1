-- Where a scalar becomes a column in a chain or in the arms of a CASE, it does in their parts.
use Rattle.std.proofs.Common.{◌≡◌, refl, ℕ, map, List, [], ◌∷◌, ap}
use Rattle.qgm_meaning.specs.Searches.{as_column, as_column_arms, as_column_cond}
use Rattle.rule_subquery.specs.FirstColumn.{column_links, column_choices}
use Rattle.qgm_terms.specs.Terms.{Term, Link, both, Cond, and, or, linked, anded, ored, Choice, arm, armed}

pub column_linked : (q : ℕ) (x : Term) (ls : List Link) → as_column q (linked x ls) ≡ linked (as_column q x) (column_links q ls)
column_linked q x [] = refl
column_linked q x (l ∷ ls) = column_linked q (both l.op x l.right) ls

pub column_anded : (q : ℕ) (p : Cond) (ps : List Cond) → as_column_cond q (anded p ps) ≡ anded (as_column_cond q p) (map (as_column_cond q) ps)
column_anded q p [] = refl
column_anded q p (r ∷ ps) = column_anded q (and p r) ps

pub column_ored : (q : ℕ) (p : Cond) (ps : List Cond) → as_column_cond q (ored p ps) ≡ ored (as_column_cond q p) (map (as_column_cond q) ps)
column_ored q p [] = refl
column_ored q p (r ∷ ps) = column_ored q (or p r) ps

pub column_armed : (q : ℕ) (cs : List Choice) → as_column_arms q (armed cs) ≡ armed (column_choices q cs)
column_armed q [] = refl
column_armed q (c ∷ cs) = ap (arm (as_column_cond q c.when) (as_column q c.then)) (column_armed q cs)
