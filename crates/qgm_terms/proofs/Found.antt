-- What stands in an operand of a chain, or in an arm of a CASE, stands in the whole.
use Rattle.std.proofs.Common.{◌≡◌, refl, Bool, true, false, ◌||◌, List, [], ◌∷◌, ap, ◌∙◌}
use Rattle.std.specs.List.{list_any}
use Rattle.qgm_terms.specs.Wanted.{Wanted, any_in, any_in_arms, any_in_choices, any_in_cond, any_in_links}
use Rattle.qgm_terms.specs.Terms.{Term, Link, both, Cond, and, or, linked, anded, ored, Choice, armed, choose}

or_false : (b : Bool) → b ≡ (b || false)
or_false true = refl
or_false false = refl

or_assoc : (a b c : Bool) → ((a || b) || c) ≡ (a || (b || c))
or_assoc true b c = refl
or_assoc false b c = refl

module _ (s : Wanted) where
  pub any_linked : (x : Term) (ls : List Link) → any_in s (linked x ls) ≡ (any_in s x || any_in_links s ls)
  any_linked x [] = or_false (any_in s x)
  any_linked x (l ∷ ls) = any_linked (both l.op x l.right) ls ∙ or_assoc (any_in s x) (any_in s l.right) (any_in_links s ls)

  pub any_anded : (p : Cond) (ps : List Cond) → any_in_cond s (anded p ps) ≡ (any_in_cond s p || list_any (any_in_cond s) ps)
  any_anded p [] = or_false (any_in_cond s p)
  any_anded p (r ∷ ps) = any_anded (and p r) ps ∙ or_assoc (any_in_cond s p) (any_in_cond s r) (list_any (any_in_cond s) ps)

  pub any_ored : (p : Cond) (ps : List Cond) → any_in_cond s (ored p ps) ≡ (any_in_cond s p || list_any (any_in_cond s) ps)
  any_ored p [] = or_false (any_in_cond s p)
  any_ored p (r ∷ ps) = any_ored (or p r) ps ∙ or_assoc (any_in_cond s p) (any_in_cond s r) (list_any (any_in_cond s) ps)

  any_armed : (cs : List Choice) → any_in_arms s (armed cs) ≡ any_in_choices s cs
  any_armed [] = refl
  any_armed (c ∷ cs) = ap (λ (b : Bool). any_in_cond s c.when || (any_in s c.then || b)) (any_armed cs)

  pub any_case : (cs : List Choice) (x : Term) → any_in s (choose (armed cs) x) ≡ (any_in_choices s cs || any_in s x)
  any_case cs x = ap (λ (b : Bool). b || any_in s x) (any_armed cs)
