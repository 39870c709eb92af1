-- A select in a select is one select: what is given where all F quantifiers are bound.
use Rattle.std.proofs.Common.{ℕ, ◌==◌, ◌≡◌, ◌||◌, cond, true, false, List, ◌++◌, map, sym, ap, ap₂, ◌∙◌, eqb-true, ◌⊎◌, inl, inr}
use Rattle.std.specs.List.{list_any}
use Rattle.std.proofs.lemmas.Bool.{cases_Bool, eq-eqb, or_left, or_right}
use Rattle.row_bag.specs.Bags.{keep, unit}
use Rattle.row_bag.proofs.Binds.{keep-keep}
use Rattle.row_bag.proofs.Levels.{least-commutative}
use Rattle.sql_value.specs.Level.{least}
use Rattle.sql_value.specs.declared.cell.Cell.{Cell}
use Rattle.sql_value.specs.declared.level.Level.{Level}
use Rattle.sql_value.specs.declared.truth.Truth.{Truth}
use Rattle.qgm_core.specs.declared.owned.OwnedQuant.{OwnedQuant}
use Rattle.qgm_core.specs.Boxes.{is_quant}
use Rattle.qgm_meaning.specs.Meaning.{Family}
use Rattle.qgm_meaning.specs.Merging.{Merges}
use Rattle.qgm_terms.specs.Terms.{Term, Cond}
use Rattle.qgm_meaning.specs.Searches.{binds, binds_cond, names, names_cond}
use Rattle.qgm_terms.specs.Substitution.{substituted, substituted_cond}
use Rattle.qgm_terms.specs.Wanted.{reads, reads_cond}
use Rattle.qgm_meaning.specs.Values.{Bag, Environment, all_true, bound, head_cells, row_of}
use Rattle.qgm_meaning.proofs.Frames.{SameRows, all_true-framed, from-left, from-right, head-framed}
use Rattle.qgm_meaning.proofs.Joined.{all_true-append}
use Rattle.qgm_meaning.proofs.Nodes.{all_true-nodes, head-nodes}
use Rattle.qgm_meaning.proofs.Puts.{Unread, all_true-put, head-put, inlined-first}

-- the outer box's conditions and head, the inner one's, its quantifiers ms, and what the quantifiers give in the outer box and in the merged one
module _ (ms : List OwnedQuant) (q : ℕ) (s t : Family) (conds inner_conds : List Cond) (head inner_head : List Term) where
  abbrev level : Environment → Level
  level e = (all_true (λ x. t x e) inner_conds e).t

  abbrev cells : Environment → List Cell
  cells e = head_cells (λ x. t x e) inner_head e

  abbrev outer : Environment → Bag
  outer d = keep (all_true (λ x. s x d) conds d).t (unit (head_cells (λ x. s x d) head d))

  abbrev merged_box : Environment → Bag
  merged_box e = keep (all_true (λ x. t x e) (map (substituted_cond q inner_head) conds ++ inner_conds) e).t (unit (head_cells (λ x. t x e) (map (substituted q inner_head) head) e))

  -- no name of the inner box is read in the outer one, and what the inner head reads isn't bound there
  module _ (unread : (x : ℕ) → (list_any (reads x) head || list_any (reads_cond x) conds) ≡ true → list_any (is_quant x) ms ≡ false)
      (free_head : Unread (λ r. list_any (binds r) head) inner_head) (free_conds : Unread (λ r. list_any (binds_cond r) conds) inner_head) where
    same-rows : (d e : Environment) → Merges ms q cells d e → SameRows (λ x. list_any (reads x) head || list_any (reads_cond x) conds) (bound q (cells e) e) d
    same-rows d e m = record { rows = λ x u. step x u (cases_Bool (q == x)) }
      where
        turned : (x : ℕ) → (q == x) ≡ false → (x == q) ≡ false
        turned x h = elim (cases_Bool (x == q)) [
          | inl u ↦ absurd (let e : x ≡ q = eqb-true x q u in let v : (q == x) ≡ true = eq-eqb q x (sym e) in let w : ⊥ = cc in w)
          | inr u ↦ u
        ]

        step : (x : ℕ) → (list_any (reads x) head || list_any (reads_cond x) conds) ≡ true → ((q == x) ≡ true) ⊎ ((q == x) ≡ false) → cond (q == x) (cells e) (row_of x e) ≡ row_of x d
        step x u (inl b) = rw b (sym m.own ∙ ap (λ (y : ℕ). row_of y d) (eqb-true q x b))
        step x u (inr b) = rw b (sym (m.others x (turned x b) (unread x u)))

    -- what nodes name gives the same in both
    pub given-merged : (d e : Environment) → Merges ms q cells d e → ((x : ℕ) → (list_any (names x) head || list_any (names_cond x) conds) ≡ true → t x e ≡ s x d)
        → keep (level e) (outer d) ≡ merged_box e
    given-merged d e m same =
        keep-keep (level e) (all_true (λ x. s x d) conds d).t (unit (head_cells (λ x. s x d) head d))
        ∙ ap₂ (λ (l : Level) (cs : List Cell). keep l (unit cs))
        (least-commutative (level e) (all_true (λ x. s x d) conds d).t ∙ ap (λ (p : Truth). least p.t (level e)) (sym conds-same) ∙ sym (all_true-append (λ x. t x e) (map (substituted_cond q inner_head) conds) inner_conds e))
        (sym head-same)
      where
        conds-same : all_true (λ x. t x e) (map (substituted_cond q inner_head) conds) e ≡ all_true (λ x. s x d) conds d
        conds-same =
            all_true-put (λ x. t x e) q inner_head conds e (bound q (cells e) e) (inlined-first (λ x. t x e) q inner_head e) free_conds
            ∙ all_true-framed (λ x. t x e) conds (bound q (cells e) e) d (from-right (λ x. list_any (reads x) head) (λ x. list_any (reads_cond x) conds) (same-rows d e m))
            ∙ all_true-nodes (λ x. t x e) (λ x. s x d) conds d (λ x u. same x (or_right (list_any (names x) head) (list_any (names_cond x) conds) u))

        head-same : head_cells (λ x. t x e) (map (substituted q inner_head) head) e ≡ head_cells (λ x. s x d) head d
        head-same =
            head-put (λ x. t x e) q inner_head head e (bound q (cells e) e) (inlined-first (λ x. t x e) q inner_head e) free_head
            ∙ head-framed (λ x. t x e) head (bound q (cells e) e) d (from-left (λ x. list_any (reads x) head) (λ x. list_any (reads_cond x) conds) (same-rows d e m))
            ∙ head-nodes (λ x. t x e) (λ x. s x d) head d (λ x u. same x (or_left (list_any (names x) head) (list_any (names_cond x) conds) u))
