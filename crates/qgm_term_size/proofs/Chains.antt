-- The levels of a chain, of AND and OR, and of a CASE are those of their parts.
use Rattle.std.proofs.Common.{◌≡◌, ℕ, ◌+◌, ◌&&◌, ◌||◌, not, refl, ap, max, Bool, true, false, List, [], ◌∷◌, arith, ◌∙◌}
use Rattle.qgm_term_size.specs.Levels.{all_levels, any_levels, arms_levels, cell_levels, chain_levels, choices_levels, cond_levels, conds_levels, is_and, is_chain, is_empty, is_or, links_levels, under}
use Rattle.qgm_terms.specs.Terms.{Term, Link, both, Cond, and, or, linked, anded, ored, Choice, armed, choose}

-- one operand goes from the list to the first
more : (a b n : ℕ) → max (max a b) n ≡ max a (max b n)
more a b n = omega arith

none : (n : ℕ) → n ≡ max n 0
none n = omega arith

pub linked_levels : (x : Term) (ls : List Link) → cell_levels (linked x ls) ≡ chain_levels x ls
linked_levels x [] = none (cell_levels x)
linked_levels x (l ∷ []) = linked_levels (both l.op x l.right) [] ∙ more (under (is_chain x) (cell_levels x)) (1 + cell_levels l.right) 0
linked_levels x (l ∷ (k ∷ ls)) =
    linked_levels (both l.op x l.right) (k ∷ ls) ∙ more (under (is_chain x) (cell_levels x)) (1 + cell_levels l.right) (links_levels (k ∷ ls))

pub anded_levels : (p : Cond) (ps : List Cond) → cond_levels (anded p ps) ≡ all_levels p ps
anded_levels p [] = none (cond_levels p)
anded_levels p (r ∷ []) = anded_levels (and p r) [] ∙ more (under (is_and p) (cond_levels p)) (1 + cond_levels r) 0
anded_levels p (r ∷ (s ∷ ps)) = anded_levels (and p r) (s ∷ ps) ∙ more (under (is_and p) (cond_levels p)) (1 + cond_levels r) (conds_levels (s ∷ ps))

pub ored_levels : (p : Cond) (ps : List Cond) → cond_levels (ored p ps) ≡ any_levels p ps
ored_levels p [] = none (cond_levels p)
ored_levels p (r ∷ []) = ored_levels (or p r) [] ∙ more (under (is_or p) (cond_levels p)) (1 + cond_levels r) 0
ored_levels p (r ∷ (s ∷ ps)) = ored_levels (or p r) (s ∷ ps) ∙ more (under (is_or p) (cond_levels p)) (1 + cond_levels r) (conds_levels (s ∷ ps))

-- with an operand more it is a chain, an AND or an OR, and else what the first is
and_itself : (b : Bool) → b ≡ (true && b)
and_itself true = refl
and_itself false = refl

pub linked_kind : (x : Term) (ls : List Link) → is_chain (linked x ls) ≡ (not (is_empty ls) || is_chain x)
linked_kind x [] = refl
linked_kind x (l ∷ []) = refl
linked_kind x (l ∷ (k ∷ ls)) = linked_kind (both l.op x l.right) (k ∷ ls)

pub anded_and : (p : Cond) (ps : List Cond) → is_and (anded p ps) ≡ (not (is_empty ps) || is_and p)
anded_and p [] = refl
anded_and p (r ∷ []) = refl
anded_and p (r ∷ (s ∷ ps)) = anded_and (and p r) (s ∷ ps)

pub ored_or : (p : Cond) (ps : List Cond) → is_or (ored p ps) ≡ (not (is_empty ps) || is_or p)
ored_or p [] = refl
ored_or p (r ∷ []) = refl
ored_or p (r ∷ (s ∷ ps)) = ored_or (or p r) (s ∷ ps)

pub anded_or : (p : Cond) (ps : List Cond) → is_or (anded p ps) ≡ (is_empty ps && is_or p)
anded_or p [] = and_itself (is_or p)
anded_or p (r ∷ []) = refl
anded_or p (r ∷ (s ∷ ps)) = anded_or (and p r) (s ∷ ps)

pub ored_and : (p : Cond) (ps : List Cond) → is_and (ored p ps) ≡ (is_empty ps && is_and p)
ored_and p [] = and_itself (is_and p)
ored_and p (r ∷ []) = refl
ored_and p (r ∷ (s ∷ ps)) = ored_and (or p r) (s ∷ ps)

armed_levels : (cs : List Choice) → arms_levels (armed cs) ≡ choices_levels cs
armed_levels [] = refl
armed_levels (c ∷ cs) = ap (max (max (cond_levels c.when) (cell_levels c.then))) (armed_levels cs)

pub case_levels : (cs : List Choice) (x : Term) → cell_levels (choose (armed cs) x) ≡ 1 + max (choices_levels cs) (cell_levels x)
case_levels cs x = ap (λ n. 1 + max n (cell_levels x)) (armed_levels cs)
