-- What stands among numbers that are put once among ascending ones.
use Rattle.std.proofs.Common.{ℕ, ◌==◌, ◌≡◌, cond, nat_lt, true, false, List, [], ◌∷◌, refl, ◌∙◌, eqb-true, ◌⊎◌, inl, inr}
use Rattle.list_laws.specs.Lists.{In}
use Rattle.qgm_core.specs.Free.{put_each, put_once}

pub in-once : (x q : ℕ) (rs : List ℕ) → In x (put_once q rs) → (q ≡ x) ⊎ In x rs
in-once x q [] i = i
in-once x q (r ∷ rs) i = elim (nat_lt q r) as (λ t. In x (cond t (q ∷ (r ∷ rs)) (cond (r == q) (r ∷ rs) (r ∷ put_once q rs))) → (q ≡ x) ⊎ In x (r ∷ rs)) [
  | true ↦ λ i. i
  | false ↦ elim (r == q) as (λ t. In x (cond t (r ∷ rs) (r ∷ put_once q rs)) → (q ≡ x) ⊎ In x (r ∷ rs)) [
    | true ↦ λ i. inr i
    | false ↦ λ i. elim i [ inl e ↦ inr (inl e) | inr j ↦ elim (in-once x q rs j) [ inl e ↦ inl e | inr k ↦ inr (inr k) ] ]
  ]
] i

pub once-in : (x q : ℕ) (rs : List ℕ) → (q ≡ x) ⊎ In x rs → In x (put_once q rs)
once-in x q [] i = i
once-in x q (r ∷ rs) i = elim (nat_lt q r) as (λ t. In x (cond t (q ∷ (r ∷ rs)) (cond (r == q) (r ∷ rs) (r ∷ put_once q rs)))) [
  | true ↦ i
  | false ↦ elim (r == q) as (λ t. (r == q) ≡ t → In x (cond t (r ∷ rs) (r ∷ put_once q rs))) [
    | true ↦ λ t. elim i [ inl e ↦ inl (eqb-true r q t ∙ e) | inr j ↦ j ]
    | false ↦ λ t. elim i [ inl e ↦ inr (once-in x q rs (inl e)) | inr j ↦ elim j [ inl e ↦ inl e | inr k ↦ inr (once-in x q rs (inr k)) ] ]
  ] refl
]

pub in-each : (x : ℕ) (out qs : List ℕ) → In x (put_each out qs) → In x out ⊎ In x qs
in-each x out [] i = inl i
in-each x out (q ∷ qs) i = elim (in-each x (put_once q out) qs i) [
  | inl j ↦ elim (in-once x q out j) [ inl e ↦ inr (inl e) | inr k ↦ inl k ]
  | inr j ↦ inr (inr j)
]

pub each-in : (x : ℕ) (out qs : List ℕ) → In x out ⊎ In x qs → In x (put_each out qs)
each-in x out [] i = elim i [ inl j ↦ j | inr z ↦ elim z [ ] ]
each-in x out (q ∷ qs) i = each-in x (put_once q out) qs (elim i [
  | inl j ↦ inl (once-in x q out (inr j))
  | inr j ↦ elim j [ inl e ↦ inl (once-in x q out (inl e)) | inr k ↦ inr k ]
])
