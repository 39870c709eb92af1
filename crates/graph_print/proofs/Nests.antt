-- The text of chains, CASE, AND and OR by their lists.
use Rattle.std.proofs.Common.{◌≡◌, refl, ℕ, List, [], ◌∷◌, ◌++◌, ap, sym, ◌∙◌, length, codes, append_assoc}
use Rattle.std.proofs.lemmas.List.{append-nil}
use Rattle.qgm_terms.specs.Terms.{Term, Link, both, Cond, and, or, linked, anded, ored, Choice, armed, choose}
use Rattle.graph_print.specs.TermText.{arms_text, choices_text, cond_text, conds_text, links_text, open_links, open_op, repeated, term_text}

nested : (a b x y z : List ℕ) → a ++ (b ++ x ++ y ++ z) ≡ a ++ b ++ x ++ y ++ z
nested a b x y z = sym (append_assoc a (b ++ x ++ y) z) ∙ ap (λ (t : List ℕ). t ++ z) (sym (append_assoc a (b ++ x) y) ∙ ap (λ (t : List ℕ). t ++ y) (sym (append_assoc a b x)))

-- what closes an operator goes with what follows the first operand
moved : (a o x y z w c : List ℕ) → a ++ (o ++ x ++ y ++ z ++ w) ++ c ≡ a ++ o ++ x ++ (y ++ z ++ w ++ c)
moved a o x y z w c =
    ap (λ (t : List ℕ). t ++ c) (nested a (o ++ x) y z w)
    ∙ ap (λ (t : List ℕ). t ++ y ++ z ++ w ++ c) (sym (append_assoc a o x))
    ∙ sym (nested (a ++ o ++ x) y z w c)

module _ (at : ℕ → ℕ) where
  pub text_linked : (x : Term) (ls : List Link) → term_text at (linked x ls) ≡ open_links ls ++ term_text at x ++ links_text at ls
  text_linked x [] = sym (append-nil (term_text at x))
  text_linked x (l ∷ ls) =
      text_linked (both l.op x l.right) ls
      ∙ moved (open_links ls) (open_op l.op) (term_text at x) (codes " ") (term_text at l.right) (codes ")") (links_text at ls)

  pub text_anded : (p : Cond) (cs : List Cond) → cond_text at (anded p cs) ≡ repeated (codes "(and ") (length cs) ++ cond_text at p ++ conds_text at cs
  text_anded p [] = sym (append-nil (cond_text at p))
  text_anded p (c ∷ cs) =
      text_anded (and p c) cs
      ∙ moved (repeated (codes "(and ") (length cs)) (codes "(and ") (cond_text at p) (codes " ") (cond_text at c) (codes ")") (conds_text at cs)

  pub text_ored : (p : Cond) (cs : List Cond) → cond_text at (ored p cs) ≡ repeated (codes "(or ") (length cs) ++ cond_text at p ++ conds_text at cs
  text_ored p [] = sym (append-nil (cond_text at p))
  text_ored p (c ∷ cs) =
      text_ored (or p c) cs
      ∙ moved (repeated (codes "(or ") (length cs)) (codes "(or ") (cond_text at p) (codes " ") (cond_text at c) (codes ")") (conds_text at cs)

  pub text_armed : (cs : List Choice) → arms_text at (armed cs) ≡ choices_text at cs
  text_armed [] = refl
  text_armed (c ∷ cs) = ap (λ (t : List ℕ). cond_text at c.when ++ codes " " ++ term_text at c.then ++ codes " " ++ t) (text_armed cs)

  pub text_case : (cs : List Choice) (x : Term) → term_text at (choose (armed cs) x) ≡ codes "(case " ++ choices_text at cs ++ codes "else " ++ term_text at x ++ codes ")"
  text_case cs x = ap (λ (t : List ℕ). codes "(case " ++ t ++ codes "else " ++ term_text at x ++ codes ")") (text_armed cs)
