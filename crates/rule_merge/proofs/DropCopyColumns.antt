-- Columns of a quantifier, told by the terms that they are.
use Rattle.std.proofs.Common.{ℕ, zero, suc, ◌+◌, ◌&&◌, ◌≡◌, Bool, true, false, List, [], ◌∷◌, Some, drop, sym, ap, refl, subst, ◌∙◌, inl, inr, arith}
use Rattle.std.specs.Prelude.{◌↔◌, IsTrue, slice_get}
use Rattle.std.proofs.lemmas.Bool.{cases_Bool}
use Rattle.qgm_terms.specs.Terms.{Term, col}
use Rattle.rule_merge.specs.DropCopy.{are_columns, is_col}
use Rattle.rule_merge.specs.DropCopyExact.{col-is, is-col}

pub col_same : (q k : ℕ) (x : Term) (b : Bool) → IsTrue b ↔ (x ≡ col q k) → b ≡ is_col q k x
col_same q k x b h = elim (cases_Bool (is_col q k x)) [
  | inl t ↦ (let y : b ≡ true = h.1 (col-is q k x t) in cc)
  | inr f ↦ elim b as (λ z. (IsTrue z → x ≡ col q k) → z ≡ is_col q k x) [
    | true ↦ λ k1. absurd (let e : x ≡ col q k = k1 refl in let t : is_col q k x ≡ true = subst (λ z. is_col q k z ≡ true) (sym e) (is-col q k) in let z : ⊥ = cc in z)
    | false ↦ λ k1. sym f
  ] h.0
]

-- the first that is left is a column, and the rest are
pub columns-more : (q k j : ℕ) (xs : List Term) (x : Term) → slice_get xs j ≡ Some x → are_columns q k (drop j xs) ≡ (is_col q k x && are_columns q (k + 1) (drop (j + 1) xs))
columns-more q k j [] x e = absurd (let z : ⊥ = cc in z)
columns-more q k zero (y ∷ xs) x e = let s : y ≡ x = cc in let n : suc k ≡ k + 1 = omega arith in ap (λ z. is_col q k z && are_columns q (suc k) xs) s ∙ ap (λ z. is_col q k x && are_columns q z xs) n
columns-more q k (suc j) (y ∷ xs) x e = let n : suc (j + 1) ≡ suc j + 1 = omega arith in columns-more q k j xs x e ∙ ap (λ z. is_col q k x && are_columns q (k + 1) (drop z (y ∷ xs))) n
