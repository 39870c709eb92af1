-- Types of chains, CASE, AND and OR by their lists.
use Rattle.std.proofs.Common.{◌≡◌, refl, Bool, List, [], ◌∷◌, ◌&&◌, ap, sym, ◌∙◌, Option}
use Rattle.std.specs.List.{list_all}
use Rattle.sql_value.specs.declared.order_key.SqlType.{SqlType}
use Rattle.qgm_terms.specs.Terms.{Term, Link, both, Cond, and, or, linked, anded, ored, Choice, armed, choose}
use Rattle.qgm_wellformed.specs.Types.{Lookup, agree, arms_fit, chain_type, choices_fit, cond_fits, term_type, type_if}
use Rattle.list_laws.proofs.Booleans.{and-assoc, and-true}

module _ (at : Lookup) where
  pub type_linked : (x : Term) (ls : List Link) → term_type at (linked x ls) ≡ chain_type at (term_type at x) ls
  type_linked x [] = refl
  type_linked x (l ∷ ls) = type_linked (both l.op x l.right) ls

  fits_armed : (type : Option SqlType) (cs : List Choice) → arms_fit at type (armed cs) ≡ choices_fit at type cs
  fits_armed type [] = refl
  fits_armed type (c ∷ cs) = ap (λ (b : Bool). cond_fits at c.when && (agree (term_type at c.then) type && b)) (fits_armed type cs)

  pub type_case : (cs : List Choice) (x : Term) → term_type at (choose (armed cs) x) ≡ type_if (choices_fit at (term_type at x) cs) (term_type at x)
  type_case cs x = ap (λ (b : Bool). type_if b (term_type at x)) (fits_armed (term_type at x) cs)

  pub fits_anded : (p : Cond) (ps : List Cond) → cond_fits at (anded p ps) ≡ (cond_fits at p && list_all (cond_fits at) ps)
  fits_anded p [] = sym (and-true (cond_fits at p))
  fits_anded p (r ∷ ps) = fits_anded (and p r) ps ∙ and-assoc (cond_fits at p) (cond_fits at r) (list_all (cond_fits at) ps)

  pub fits_ored : (p : Cond) (ps : List Cond) → cond_fits at (ored p ps) ≡ (cond_fits at p && list_all (cond_fits at) ps)
  fits_ored p [] = sym (and-true (cond_fits at p))
  fits_ored p (r ∷ ps) = fits_ored (or p r) ps ∙ and-assoc (cond_fits at p) (cond_fits at r) (list_all (cond_fits at) ps)
