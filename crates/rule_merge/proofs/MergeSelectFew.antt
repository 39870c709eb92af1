-- How many nodes are copied, cell by cell.
use Rattle.std.proofs.Common.{◌≡◌, ℕ, zero, suc, ◌<◌, ◌≤◌, ◌+◌, ◌-◌, ◌*◌, Some, List, [], ◌∷◌, drop, ◌∙◌, ap, arith}
use Rattle.std.specs.Prelude.{◌↔◌, slice_get}
use Rattle.list_laws.specs.Lists.{times}
use Rattle.qgm_term_size.specs.Size.{cell_size}
use Rattle.qgm_terms.specs.Terms.{Term}
use Rattle.rule_merge.specs.MergeSelectCopies.{copied}

-- a cell has a node, so that so many copies have so many
pub copies-least : (s n : ℕ) → 1 ≤ s → n ≤ s * n
copies-least zero n h = absurd (omega (arith, h))
copies-least (suc s) n h = omega arith

-- the first cell that is left, and the rest
pub copied-more : (ks : List ℕ) (k j : ℕ) (xs : List Term) (x : Term) → slice_get xs j ≡ Some x → copied ks k (drop j xs) ≡ cell_size x * (times k ks - 1) + copied ks (k + 1) (drop (j + 1) xs)
copied-more ks k j [] x e = absurd (let z : ⊥ = cc in z)
copied-more ks k zero (y ∷ xs) x e =
    let s : y ≡ x = cc in
    let n : suc k ≡ k + 1 = omega arith in
    ap (λ z. cell_size z * (times k ks - 1) + copied ks (suc k) xs) s ∙ ap (λ z. cell_size x * (times k ks - 1) + copied ks z xs) n
copied-more ks k (suc j) (y ∷ xs) x e =
    let n : suc (j + 1) ≡ suc j + 1 = omega arith in
    copied-more ks k j xs x e ∙ ap (λ z. cell_size x * (times k ks - 1) + copied ks (k + 1) (drop z (y ∷ xs))) n

-- what is left for the rest decides
pub left-decides : (p a b rest left : ℕ) {X : Type 0} → a ≡ p + b → p + rest ≡ left → ((a ≤ left) ↔ X) → (b ≤ rest) ↔ X
left-decides p a b rest left e f d = (λ h. d.0 (omega (arith, e, f, h)), λ x. let h : a ≤ left = d.1 x in omega (arith, e, f, h))

pub none-decides : (p a b left : ℕ) {X : Type 0} → a ≡ p + b → left < p → ((a ≤ left) ↔ X) → X → ⊥
none-decides p a b left e f d x = let h : a ≤ left = d.1 x in absurd (omega (arith, e, f, h))
