-- Lists that are compared place by place.
use Rattle.std.proofs.Common.{◌≡◌, ℕ, zero, suc, ◌<◌, ◌≤◌, min, List, [], ◌∷◌, drop, length, refl, sym, ◌∙◌, arith, inl, inr}
use Rattle.std.proofs.lemmas.Bool.{cases_lt}
use Rattle.std.specs.Cmp.{nat_cmp_is}
use Rattle.std.specs.Cmp.Lexicographic.{slice_cmp}
use Rattle.std.specs.Ordering.{nat_cmp}
use Rattle.std.specs.declared.cmp.Ordering.TheVariants.{Less, Equal, Greater}

-- where the first places tie as far as both lists go, their lengths decide
pub ended : (s t : List ℕ) (n : ℕ) → n ≡ min (length s) (length t) → slice_cmp nat_cmp (drop n s) (drop n t) ≡ nat_cmp (length s) (length t)
ended [] [] zero e = refl
ended [] [] (suc n) e = refl
ended [] (y ∷ t) zero e = nat_cmp_is 0 (length (y ∷ t)) Less (omega arith)
ended [] (y ∷ t) (suc n) e = absurd (omega (arith, e))
ended (x ∷ s) [] zero e = nat_cmp_is (length (x ∷ s)) 0 Greater (omega arith)
ended (x ∷ s) [] (suc n) e = absurd (omega (arith, e))
ended (x ∷ s) (y ∷ t) zero e = absurd (omega (arith, e))
ended (x ∷ s) (y ∷ t) (suc n) e = ended s t n (omega (arith, e)) ∙ more (length s) (length t)
  where
    more : (a b : ℕ) → nat_cmp a b ≡ nat_cmp (suc a) (suc b)
    more a b = elim (cases_lt a b) [
      | inl low ↦ sym (nat_cmp_is a b Less low) ∙ nat_cmp_is (suc a) (suc b) Less (omega (arith, low))
      | inr past ↦ elim (cases_lt b a) [
        | inl high ↦ sym (nat_cmp_is a b Greater high) ∙ nat_cmp_is (suc a) (suc b) Greater (omega (arith, high))
        | inr same ↦ let e : a ≡ b = omega (arith, past, same) in sym (nat_cmp_is a b Equal e) ∙ nat_cmp_is (suc a) (suc b) Equal (omega (arith, e))
      ]
    ]
