-- The numbers of conjuncts that pass.
use Rattle.std.proofs.Common.{ℕ, zero, suc, ◌+◌, ◌≡◌, Bool, true, List, [], ◌∷◌, Some, refl, ap, ◌∙◌, inl, inr, arith}
use Rattle.std.specs.Prelude.{slice_get}
use Rattle.qgm_terms.specs.Terms.{Cond}
use Rattle.rule_api.specs.Picks.{Passes}

-- conjunct j, where the numbers begin with first, passes
pub record Nth (p : Cond → Bool) (first : ℕ) (cs : List Cond) (j : ℕ) : Type 0 where
  pub k : ℕ
  pub c : Cond
  pub number : j ≡ k + first
  pub nth : slice_get cs k ≡ Some c
  pub passes : p c ≡ true

pub nth-from : (p : Cond → Bool) (first : ℕ) (cs : List Cond) (j : ℕ) → Passes p first cs j → Nth p first cs j
nth-from p first [] j h = elim h [ ]
nth-from p first (c ∷ cs) j h = elim h [
  | inl e ↦ record { k = 0; c = c; number = (let d = e.0 in omega arith); nth = refl; passes = e.1 }
  | inr r ↦ (let x = nth-from p (first + 1) cs j r in record { k = suc x.k; c = x.c; number = (let d = x.number in omega arith); nth = x.nth; passes = x.passes })
]

pub nth-to : (p : Cond → Bool) (first : ℕ) (cs : List Cond) (k : ℕ) (c : Cond) (j : ℕ) → slice_get cs k ≡ Some c → p c ≡ true → j ≡ k + first → Passes p first cs j
nth-to p first [] k c j h t e = absurd (let z : ⊥ = cc in z)
nth-to p first (x ∷ cs) zero c j h t e = inl ((omega arith), (let d : x ≡ c = cc in ap p d ∙ t))
nth-to p first (x ∷ cs) (suc k) c j h t e = inr (nth-to p (first + 1) cs k c j h t (omega arith))
