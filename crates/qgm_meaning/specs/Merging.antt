-- A select in a select is one select.
use Rattle.std.specs.Prelude.{ℕ, ◌≡◌, ◌==◌, ◌||◌, false, true, List, ◌++◌, map}
use Rattle.std.specs.List.{list_any}
use Rattle.row_bag.specs.Bags.{keep, unit}
use Rattle.sql_value.specs.declared.cell.Cell.{Cell}
use Rattle.qgm_core.specs.declared.owned.OwnedQuant.{OwnedQuant}
use Rattle.qgm_core.specs.Boxes.{is_quant}
use Rattle.qgm_meaning.specs.Meaning.{Family}
use Rattle.qgm_terms.specs.Terms.{Term, Cond}
use Rattle.qgm_meaning.specs.Searches.{binds, binds_cond, names, names_cond}
use Rattle.qgm_terms.specs.Substitution.{substituted, substituted_cond}
use Rattle.qgm_terms.specs.Wanted.{reads, reads_cond}
use Rattle.qgm_meaning.specs.Values.{Environment, all_true, head_cells, row_of}

-- d is an environment of the outer box, in which q is bound to the cells that the inner one gives, and e one of the merged box, in which ms are bound instead
pub record Merges (ms : List OwnedQuant) (q : ℕ) (cells : Environment → List Cell) (d e : Environment) : Type 0 where
  pub others : (x : ℕ) → (x == q) ≡ false → list_any (is_quant x) ms ≡ false → row_of x d ≡ row_of x e
  pub own : row_of q d ≡ cells e

-- `last` of conditions and heads: no name of the inner box is read in the outer one, none that the inner head reads is bound there, and what its nodes name gives the same
abbrev pub GivenMerged : Type 0
GivenMerged =
    (ms : List OwnedQuant) (q : ℕ) (s t : Family) (conds inner_conds : List Cond) (head inner_head : List Term)
    → ((x : ℕ) → (list_any (reads x) head || list_any (reads_cond x) conds) ≡ true → list_any (is_quant x) ms ≡ false)
    → ((r : ℕ) → list_any (binds r) head ≡ true → list_any (reads r) inner_head ≡ false) → ((r : ℕ) → list_any (binds_cond r) conds ≡ true → list_any (reads r) inner_head ≡ false)
    → (d e : Environment) → Merges ms q (λ e. head_cells (λ x. t x e) inner_head e) d e
    → ((x : ℕ) → (list_any (names x) head || list_any (names_cond x) conds) ≡ true → t x e ≡ s x d)
    → keep (all_true (λ x. t x e) inner_conds e).t (keep (all_true (λ x. s x d) conds d).t (unit (head_cells (λ x. s x d) head d)))
    ≡ keep (all_true (λ x. t x e) (map (substituted_cond q inner_head) conds ++ inner_conds) e).t (unit (head_cells (λ x. t x e) (map (substituted q inner_head) head) e))
