-- P4: cells that are columns.
use Rattle.std.proofs.Common.{ℕ, ◌≡◌, ◌&&◌, List, ◌∷◌, refl, ◌∙◌, []}
use Rattle.qgm_props.specs.Lists.{is_none}
use Rattle.qgm_terms.specs.Terms.{Link, Term, both, linked}
use Rattle.rule_push.specs.PushIntoLeft.{is_column_of}
use Rattle.list_laws.proofs.Booleans.{and-false}

-- a chain of two operands or more is no column
pub column_linked : (q : ℕ) (x : Term) (ls : List Link) → is_column_of q (linked x ls) ≡ (is_none ls && is_column_of q x)
column_linked q x [] = refl
column_linked q x (l ∷ ls) = column_linked q (both l.op x l.right) ls ∙ and-false (is_none ls)
