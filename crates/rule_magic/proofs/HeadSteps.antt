-- Heads that grow column by column.
use Rattle.std.proofs.Common.{ℕ, suc, ◌≡◌, ◌+◌, ◌-◌, ◌++◌, ◌<◌, List, [], ◌∷◌, sym, ap, ◌∙◌, arith}
use Rattle.qgm_meaning.specs.Tags.{columns_from}
use Rattle.qgm_terms.specs.Terms.{Cond, Term, col, compare, same}
use Rattle.rule_magic.specs.Boxes.{same_each}
use Rattle.list_laws.proofs.Membership.{append-one}

one-less : (w k : ℕ) → k < w → w - k ≡ suc (w - (k + 1))
one-less w k h = omega (arith, h)

one-more : (k : ℕ) → suc (k + 1) ≡ k + 1 + 1
one-more k = omega arith

pub columns-step : (head : List Term) (q k w : ℕ) → k < w → (head ++ col q (k + 1) ∷ []) ++ columns_from q (k + 1 + 1) (w - (k + 1)) ≡ head ++ columns_from q (k + 1) (w - k)
columns-step head q k w h =
    append-one head (col q (k + 1)) (columns_from q (k + 1 + 1) (w - (k + 1)))
    ∙ ap (λ j. head ++ col q (k + 1) ∷ columns_from q j (w - (k + 1))) (sym (one-more k))
    ∙ ap (λ n. head ++ columns_from q (k + 1) n) (sym (one-less w k h))

pub sames-step : (cs : List Cond) (p q k w : ℕ) → k < w → (cs ++ compare same (col p (k + 1)) (col q (k + 1)) ∷ []) ++ same_each p q (k + 1 + 1) (w - (k + 1)) ≡ cs ++ same_each p q (k + 1) (w - k)
sames-step cs p q k w h =
    append-one cs (compare same (col p (k + 1)) (col q (k + 1))) (same_each p q (k + 1 + 1) (w - (k + 1)))
    ∙ ap (λ j. cs ++ compare same (col p (k + 1)) (col q (k + 1)) ∷ same_each p q j (w - (k + 1))) (sym (one-more k))
    ∙ ap (λ n. cs ++ same_each p q (k + 1) n) (sym (one-less w k h))
