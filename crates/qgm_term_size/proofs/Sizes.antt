-- The size of a chain, of AND and OR, and of a CASE is that of their parts.
use Rattle.std.proofs.Common.{◌≡◌, ◌+◌, ◌≤◌, refl, List, [], ◌∷◌, arith}
use Rattle.qgm_term_size.specs.Size.{arms_size, cell_size, choices_size, cond_size, conds_size, links_size}
use Rattle.qgm_terms.specs.Terms.{int, text, null_int, null_text, col, scalar, minus_of, count_all, fold}
use Rattle.qgm_terms.specs.Terms.{Term, Link, both, Cond, and, or, linked, anded, ored, Choice, armed, choose}

pub linked_size : (x : Term) (ls : List Link) → cell_size (linked x ls) ≡ cell_size x + links_size ls
linked_size x [] = omega arith
linked_size x (l ∷ ls) = let h : cell_size (linked (both l.op x l.right) ls) ≡ cell_size (both l.op x l.right) + links_size ls = linked_size (both l.op x l.right) ls in omega (arith, h)

pub anded_size : (p : Cond) (ps : List Cond) → cond_size (anded p ps) ≡ cond_size p + conds_size ps
anded_size p [] = omega arith
anded_size p (r ∷ ps) = let h : cond_size (anded (and p r) ps) ≡ cond_size (and p r) + conds_size ps = anded_size (and p r) ps in omega (arith, h)

pub ored_size : (p : Cond) (ps : List Cond) → cond_size (ored p ps) ≡ cond_size p + conds_size ps
ored_size p [] = omega arith
ored_size p (r ∷ ps) = let h : cond_size (ored (or p r) ps) ≡ cond_size (or p r) + conds_size ps = ored_size (or p r) ps in omega (arith, h)

armed_size : (cs : List Choice) → arms_size (armed cs) ≡ choices_size cs
armed_size [] = refl
armed_size (c ∷ cs) = let h : arms_size (armed cs) ≡ choices_size cs = armed_size cs in omega (arith, h)

pub case_size : (cs : List Choice) (x : Term) → cell_size (choose (armed cs) x) ≡ 1 + choices_size cs + cell_size x
case_size cs x = let h : arms_size (armed cs) ≡ choices_size cs = armed_size cs in omega (arith, h)

pub size_positive : (x : Term) → 1 ≤ cell_size x
size_positive (int n) = omega arith
size_positive (text t) = omega arith
size_positive null_int = omega arith
size_positive null_text = omega arith
size_positive (col q k) = omega arith
size_positive (scalar q) = omega arith
size_positive (both op a b) = omega arith
size_positive (minus_of a) = omega arith
size_positive (choose s a) = omega arith
size_positive count_all = omega arith
size_positive (fold f t a) = omega arith
