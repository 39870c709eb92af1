-- What is listed of the operands of a chain, and of the arms of a CASE, is listed of the whole.
use Rattle.std.proofs.Common.{◌≡◌, refl, List, [], ◌∷◌, ◌++◌, ap, sym, ◌∙◌}
use Rattle.std.specs.List.{flat_map}
use Rattle.std.proofs.lemmas.List.{append_assoc, append-nil}
use Rattle.qgm_terms.specs.Gathered.{Search, listed, listed_arms, listed_choices, listed_cond, listed_links}
use Rattle.qgm_terms.specs.Terms.{Term, Link, both, Cond, and, or, linked, anded, ored, Choice, armed, choose}

module _ {X : Type 0} (s : Search (List X)) where
  pub listed_linked : (x : Term) (ls : List Link) → listed s (linked x ls) ≡ listed s x ++ listed_links s ls
  listed_linked x [] = sym (append-nil (listed s x))
  listed_linked x (l ∷ ls) = listed_linked (both l.op x l.right) ls ∙ append_assoc (listed s x) (listed s l.right) (listed_links s ls)

  pub listed_anded : (p : Cond) (ps : List Cond) → listed_cond s (anded p ps) ≡ listed_cond s p ++ flat_map (listed_cond s) ps
  listed_anded p [] = sym (append-nil (listed_cond s p))
  listed_anded p (r ∷ ps) = listed_anded (and p r) ps ∙ append_assoc (listed_cond s p) (listed_cond s r) (flat_map (listed_cond s) ps)

  pub listed_ored : (p : Cond) (ps : List Cond) → listed_cond s (ored p ps) ≡ listed_cond s p ++ flat_map (listed_cond s) ps
  listed_ored p [] = sym (append-nil (listed_cond s p))
  listed_ored p (r ∷ ps) = listed_ored (or p r) ps ∙ append_assoc (listed_cond s p) (listed_cond s r) (flat_map (listed_cond s) ps)

  listed_armed : (cs : List Choice) → listed_arms s (armed cs) ≡ listed_choices s cs
  listed_armed [] = refl
  listed_armed (c ∷ cs) = ap (λ (xs : List X). listed_cond s c.when ++ (listed s c.then ++ xs)) (listed_armed cs)

  pub listed_case : (cs : List Choice) (x : Term) → listed s (choose (armed cs) x) ≡ listed_choices s cs ++ listed s x
  listed_case cs x = ap (λ (xs : List X). xs ++ listed s x) (listed_armed cs)
