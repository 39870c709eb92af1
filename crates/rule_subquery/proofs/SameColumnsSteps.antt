-- One column more.
use Rattle.std.proofs.Common.{ℕ, suc, ◌≡◌, ◌+◌, ◌-◌, ◌++◌, ◌<◌, List, [], ◌∷◌, sym, ap, ◌∙◌, arith}
use Rattle.qgm_terms.specs.Terms.{Cond, Term, anded, and, col, compare, same}
use Rattle.qgm_edit_laws.specs.Ranges.{columns_from}
use Rattle.qgm_edit_laws.specs.SameColumns.{sames}
use Rattle.list_laws.proofs.Membership.{append-one}

one-less : (w k : ℕ) → k < w → w - k ≡ suc (w - (k + 1))
one-less w k h = omega (arith, h)

one-more : (k : ℕ) → suc (k + 1) ≡ k + 1 + 1
one-more k = omega arith

pub columns-step : (head : List Term) (q k w : ℕ) → k < w → (head ++ col q (k + 1) ∷ []) ++ columns_from q (k + 1 + 1) (w - (k + 1)) ≡ head ++ columns_from q (k + 1) (w - k)
columns-step head q k w h =
    append-one head (col q (k + 1)) (columns_from q (k + 1 + 1) (w - (k + 1)))
    ∙ ap (λ j. head ++ col q (k + 1) ∷ columns_from q j (w - (k + 1))) (sym (one-more k))
    ∙ ap (λ n. head ++ columns_from q (k + 1) n) (sym (one-less w k h))

pub sames-step : (p : Cond) (l r k w : ℕ) → k < w → anded (and p (compare same (col l (k + 1)) (col r (k + 1)))) (sames l r (k + 1 + 1) (w - (k + 1))) ≡ anded p (sames l r (k + 1) (w - k))
sames-step p l r k w h =
    ap (λ j. anded (and p (compare same (col l (k + 1)) (col r (k + 1)))) (sames l r j (w - (k + 1)))) (sym (one-more k))
    ∙ ap (λ n. anded p (sames l r (k + 1) n)) (sym (one-less w k h))
