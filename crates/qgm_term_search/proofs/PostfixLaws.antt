-- The tokens of a chain are those of its operands.
use Rattle.std.proofs.Common.{◌≡◌, refl, List, [], ◌∷◌, ◌++◌, ap, sym, ◌∙◌}
use Rattle.std.proofs.lemmas.List.{append_assoc, append-nil}
use Rattle.qgm_term_search.specs.Postfix.{form, tokens, tokens_arms, tokens_choices, tokens_cond, tokens_conds, tokens_links}
use Rattle.qgm_terms.specs.Terms.{Term, Link, both, Cond, and, or, linked, anded, ored, Choice, armed, choose}
use Rattle.qgm_term_search.specs.declared.tokens.Form.TheVariants as f
use Rattle.qgm_term_search.specs.declared.tokens.Token.{Token}
use Rattle.qgm_term_search.specs.declared.tokens.Token.TheVariants as k

pub tokens_linked : (x : Term) (ls : List Link) → tokens (linked x ls) ≡ tokens x ++ tokens_links ls
tokens_linked x [] = sym (append-nil (tokens x))
tokens_linked x (l ∷ ls) =
    tokens_linked (both l.op x l.right) ls
    ∙ append_assoc (tokens x ++ tokens l.right) (k.Op l.op ∷ []) (tokens_links ls)
    ∙ append_assoc (tokens x) (tokens l.right) (k.Op l.op ∷ tokens_links ls)

pub tokens_anded : (p : Cond) (ps : List Cond) → tokens_cond (anded p ps) ≡ tokens_cond p ++ tokens_conds f.And ps
tokens_anded p [] = sym (append-nil (tokens_cond p))
tokens_anded p (r ∷ ps) =
    tokens_anded (and p r) ps
    ∙ append_assoc (tokens_cond p ++ tokens_cond r) (form f.And) (tokens_conds f.And ps)
    ∙ append_assoc (tokens_cond p) (tokens_cond r) (k.Form f.And ∷ tokens_conds f.And ps)

pub tokens_ored : (p : Cond) (ps : List Cond) → tokens_cond (ored p ps) ≡ tokens_cond p ++ tokens_conds f.Or ps
tokens_ored p [] = sym (append-nil (tokens_cond p))
tokens_ored p (r ∷ ps) =
    tokens_ored (or p r) ps
    ∙ append_assoc (tokens_cond p ++ tokens_cond r) (form f.Or) (tokens_conds f.Or ps)
    ∙ append_assoc (tokens_cond p) (tokens_cond r) (k.Form f.Or ∷ tokens_conds f.Or ps)

tokens_armed : (cs : List Choice) → tokens_arms (armed cs) ≡ tokens_choices cs
tokens_armed [] = refl
tokens_armed (c ∷ cs) = ap (λ (ks : List Token). tokens_cond c.when ++ tokens c.then ++ form f.When ++ ks) (tokens_armed cs)

pub tokens_case : (cs : List Choice) (x : Term) → tokens (choose (armed cs) x) ≡ form f.Case ++ tokens_choices cs ++ tokens x ++ form f.Else
tokens_case cs x = ap (λ (ks : List Token). form f.Case ++ ks ++ tokens x ++ form f.Else) (tokens_armed cs)
