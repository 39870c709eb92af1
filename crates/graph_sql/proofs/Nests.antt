-- The text of chains, CASE, AND and OR by their lists.
use Rattle.std.proofs.Common.{◌≡◌, refl, ℕ, List, [], ◌∷◌, ◌++◌, Option, Some, None, Bool, ◌&&◌, true, false, ap, ap₂, sym, ◌∙◌, length, codes, arith, min, drop, ◌≤◌, ◌⊎◌, inl, inr}
use Rattle.std.proofs.lemmas.Grind.{common_steps}
use Rattle.std.proofs.lemmas.List.{append-nil, drop_all}
use Rattle.std.proofs.lemmas.Bool.{cases_lt}
use Rattle.std.proofs.Math.Nat.{min-eq_left, min-eq_right}
use Rattle.qgm_props.specs.Lists.{is_none}
use Rattle.sql_value.specs.declared.order_key.SqlType.{SqlType}
use Rattle.qgm_terms.specs.Terms.{Sign, Term, Link, both, Cond, compare, and, or, linked, anded, ored, Choice, armed, choose}
use Rattle.graph_print.specs.TermText.{repeated}
use Rattle.graph_sql.specs.Readings.{Names, arms_sql, cell_sql, compare_sql, holds_value, of_and, of_or}
use Rattle.graph_sql.specs.Scoped.{chain_text, close_form, close_wrap, formed, open_form, open_wrap, wrapped, choice_text, choices_text, cond_text, links_text, names_in, next_conds, number_in, term_text}
use Rattle.graph_sql.specs.Text.{close_chain, close_comparison, comparison_word, connective_word, expression_text, op_word, open_chain, open_comparison, test_text, whens_text}
use Rattle.graph_sql.specs.Bodies.{cell, group_cell, stored_columns}
use Rattle.graph_sql.specs.Statement.{Expression, compared}
use Rattle.graph_sql.specs.declared.form.Form.{Form}
use Rattle.graph_sql.specs.declared.form.Wrap.{Wrap}
use Rattle.graph_sql.specs.declared.form.Wrap.TheVariants.{Bare, NotTrue, NotFalse}
use Rattle.graph_sql.specs.declared.reading.Comparison.{Comparison}
use Rattle.graph_sql.specs.declared.reading.Connective.{Connective}
use Rattle.graph_sql.specs.declared.reading.Connective.TheVariants.{And, Or}
use Rattle.graph_sql.specs.declared.reading.Reading.{Reading}
use Rattle.graph_sql.specs.declared.scope.Scope.{Scope}

pub value_linked : (not_null : ℕ → ℕ → Bool) (x : Term) (ls : List Link) → holds_value not_null (linked x ls) ≡ (is_none ls && holds_value not_null x)
value_linked not_null x [] = refl
value_linked not_null x (l ∷ ls) = value_linked not_null (both l.op x l.right) ls ∙ by (is_none ls)
  where
    by : (b : Bool) → (b && false) ≡ false
    by true = refl
    by false = refl

-- a term that is alone, and one that isn't
pub linked_alone : (x : Term) (ls : List Link) → is_none ls ≡ true → linked x ls ≡ x
linked_alone x [] h = refl
linked_alone x (l ∷ ls) h = absurd (let z : ⊥ = cc in z)

-- what isn't an aggregate is a cell
more_linked : (n : Names (List ℕ)) (x : Term) (ls : List Link) → cell (cell_sql n x) ≡ group_cell n x → cell (cell_sql n (linked x ls)) ≡ group_cell n (linked x ls)
more_linked n x [] h = h
more_linked n x (l ∷ ls) h = more_linked n (both l.op x l.right) ls refl

pub group_linked : (n : Names (List ℕ)) (x : Term) (ls : List Link) → is_none ls ≡ false → cell (cell_sql n (linked x ls)) ≡ group_cell n (linked x ls)
group_linked n x [] h = absurd (let z : ⊥ = cc in z)
group_linked n x (l ∷ ls) h = more_linked n (both l.op x l.right) ls refl

own-open : (k : Connective) → open_chain (Some k) k ≡ []
own-open And = refl
own-open Or = refl

own-close : (k : Connective) → close_chain (Some k) k ≡ []
own-close And = refl
own-close Or = refl

-- ---- lists in other brackets

moved : (a o x y z w c : List ℕ) → a ++ (o ++ x ++ y ++ z ++ w) ++ c ≡ (a ++ o) ++ x ++ ((y ++ z ++ w) ++ c)
moved a o x y z w c = grind (arith, common_steps)

alone : (t : List ℕ) → t ≡ [] ++ t ++ [] ++ []
alone t = grind (arith, common_steps)

two : (o t w c z : List ℕ) → o ++ t ++ w ++ c ++ z ≡ o ++ t ++ ((w ++ c) ++ []) ++ z
two o t w c z = grind (arith, common_steps)

-- where the inner brackets fall away
more : (o i t w c j rest z : List ℕ) → i ≡ [] → j ≡ [] → o ++ (i ++ t ++ w ++ c ++ j) ++ rest ++ z ≡ o ++ t ++ ((w ++ c) ++ rest) ++ z
more o i t w c j rest z e f = grind (arith, common_steps)

module _ (s : Scope) where
  pub text_linked : (x : Term) (ls : List Link) → term_text s (linked x ls) ≡ repeated (codes "(") (length ls) ++ term_text s x ++ links_text s ls
  text_linked x [] = sym (append-nil (term_text s x))
  text_linked x (l ∷ ls) =
      text_linked (both l.op x l.right) ls
      ∙ moved (repeated (codes "(") (length ls)) (codes "(") (term_text s x) (op_word l.op) (term_text s l.right) (codes ")") (links_text s ls)

  pub text_armed : (cs : List Choice) → whens_text (number_in s) (arms_sql (names_in s) (armed cs)) ≡ choices_text s cs
  text_armed [] = refl
  text_armed (c ∷ cs) = ap (λ (t : List ℕ). choice_text s c ++ t) (text_armed cs)

  pub text_case : (cs : List Choice) (x : Term) → term_text s (choose (armed cs) x) ≡ codes "(CASE" ++ choices_text s cs ++ codes " ELSE " ++ term_text s x ++ codes " END)"
  text_case cs x = ap (λ (t : List ℕ). codes "(CASE" ++ t ++ codes " ELSE " ++ term_text s x ++ codes " END)") (text_armed cs)

  -- a comparison in its form
  formed-text : (chain : Option Connective) (k : Comparison) (w : Wrap) (x y : Expression (List ℕ))
      → test_text (number_in s) chain (wrapped w (compared k x y)) ≡ (open_wrap w ++ open_comparison k) ++ expression_text (number_in s) x ++ (comparison_word k ++ expression_text (number_in s) y ++ (close_comparison k ++ close_wrap w))
  formed-text chain k Bare x y = grind (arith, common_steps)
  formed-text chain k NotTrue x y = grind (arith, common_steps)
  formed-text chain k NotFalse x y = grind (arith, common_steps)

  pub text_compared : (chain : Option Connective) (r : Reading) (sign : Sign) (x y : Term) (f : Form) (a b : Bool)
      → ((v w : Expression (List ℕ)) → formed f v w ≡ compare_sql r sign a b v w) → a ≡ holds_value (names_in s).not_null x → b ≡ holds_value (names_in s).not_null y
      → cond_text s chain r (compare sign x y) ≡ open_form f ++ term_text s x ++ (comparison_word f.comparison ++ term_text s y ++ close_form f)
  text_compared chain r sign x y f a b e h g =
      ap₂ (λ (c d : Bool). test_text (number_in s) chain (compare_sql r sign c d (cell_sql (names_in s) x) (cell_sql (names_in s) y))) (sym h) (sym g)
      ∙ sym (ap (test_text (number_in s) chain) (e (cell_sql (names_in s) x) (cell_sql (names_in s) y)))
      ∙ formed-text chain f.comparison f.wrap (cell_sql (names_in s) x) (cell_sql (names_in s) y)

  module _ (r : Reading) where
    pub text_anded : (chain : Option Connective) (p : Cond) (cs : List Cond) → cond_text s chain r (anded p cs) ≡ chain_text s chain r (of_and r) p cs
    text_anded chain p [] = alone (cond_text s chain r p)
    text_anded chain p (c ∷ []) = two (open_chain chain (of_and r)) (cond_text s (Some (of_and r)) r p) (connective_word (of_and r)) (cond_text s None r c) (close_chain chain (of_and r))
    text_anded chain p (c ∷ d ∷ ds) =
        text_anded chain (and p c) (d ∷ ds)
        ∙ more (open_chain chain (of_and r)) (open_chain (Some (of_and r)) (of_and r)) (cond_text s (Some (of_and r)) r p) (connective_word (of_and r)) (cond_text s None r c) (close_chain (Some (of_and r)) (of_and r))
        (next_conds s r (of_and r) (d ∷ ds)) (close_chain chain (of_and r)) (own-open (of_and r)) (own-close (of_and r))

    pub text_ored : (chain : Option Connective) (p : Cond) (cs : List Cond) → cond_text s chain r (ored p cs) ≡ chain_text s chain r (of_or r) p cs
    text_ored chain p [] = alone (cond_text s chain r p)
    text_ored chain p (c ∷ []) = two (open_chain chain (of_or r)) (cond_text s (Some (of_or r)) r p) (connective_word (of_or r)) (cond_text s None r c) (close_chain chain (of_or r))
    text_ored chain p (c ∷ d ∷ ds) =
        text_ored chain (or p c) (d ∷ ds)
        ∙ more (open_chain chain (of_or r)) (open_chain (Some (of_or r)) (of_or r)) (cond_text s (Some (of_or r)) r p) (connective_word (of_or r)) (cond_text s None r c) (close_chain (Some (of_or r)) (of_or r))
        (next_conds s r (of_or r) (d ∷ ds)) (close_chain chain (of_or r)) (own-open (of_or r)) (own-close (of_or r))

-- ---- the columns of a table, as far as there are names and types

below-min : (a b i : ℕ) → min a b ≤ i → (a ≤ i) ⊎ (b ≤ i)
below-min a b i h = elim (cases_lt a b) [
  | inl l ↦ let k : a ≤ b = omega arith in let e : min a b ≡ a = min-eq_left k in inl (omega arith)
  | inr l ↦ let e : min a b ≡ b = min-eq_right l in inr (omega arith)
]

no-types : (names : List (List ℕ)) → stored_columns names [] ≡ []
no-types [] = refl
no-types (n ∷ ns) = refl

pub stored-end : (names : List (List ℕ)) (types : List SqlType) (i : ℕ) → min (length names) (length types) ≤ i → stored_columns (drop i names) (drop i types) ≡ []
stored-end names types i h = elim (below-min (length names) (length types) i h) [
  | inl e ↦ ap (λ (ns : List (List ℕ)). stored_columns ns (drop i types)) (drop_all i names e)
  | inr e ↦ ap (stored_columns (drop i names)) (drop_all i types e) ∙ no-types (drop i names)
]
