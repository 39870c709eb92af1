-- A chain of one operand is that operand, and one of more is no column and no literal; an AND or OR of one condition is that one.
use Rattle.std.proofs.Common.{◌≡◌, true, false, cond, List, [], ◌∷◌, None, refl, ◌∙◌}
use Rattle.qgm_props.specs.Lists.{is_none}
use Rattle.qgm_terms.specs.Terms.{Cond, Link, Term, and, anded, both, linked, or, ored}
use Rattle.rule_trans.specs.Equalities.{column_of, no_more, sides}
use Rattle.rule_trans.specs.Literals.{literal_of}

pub column_linked : (x : Term) (ls : List Link) → column_of (linked x ls) ≡ cond (is_none ls) (column_of x) None
column_linked x [] = refl
column_linked x (l ∷ ls) = column_linked (both l.op x l.right) ls ∙ (elim (is_none ls) as (λ b. cond b (column_of (both l.op x l.right)) None ≡ None) [ true ↦ refl | false ↦ refl ])

pub literal_linked : (x : Term) (ls : List Link) → literal_of (linked x ls) ≡ cond (is_none ls) (literal_of x) None
literal_linked x [] = refl
literal_linked x (l ∷ ls) = literal_linked (both l.op x l.right) ls ∙ (elim (is_none ls) as (λ b. cond b (literal_of (both l.op x l.right)) None ≡ None) [ true ↦ refl | false ↦ refl ])

pub sides_anded : (p : Cond) (ps : List Cond) → sides (anded p ps) ≡ cond (no_more ps) (sides p) None
sides_anded p [] = refl
sides_anded p (q ∷ ps) = sides_anded (and p q) ps ∙ (elim (no_more ps) as (λ b. cond b (sides (and p q)) None ≡ None) [ true ↦ refl | false ↦ refl ])

pub sides_ored : (p : Cond) (ps : List Cond) → sides (ored p ps) ≡ cond (no_more ps) (sides p) None
sides_ored p [] = refl
sides_ored p (q ∷ ps) = sides_ored (or p q) ps ∙ (elim (no_more ps) as (λ b. cond b (sides (or p q)) None ≡ None) [ true ↦ refl | false ↦ refl ])
