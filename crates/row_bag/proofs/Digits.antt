-- The leading digits of texts keep their order.
use Rattle.std.proofs.Common.{ℕ, zero, suc, ◌+◌, ◌*◌, ◌-◌, ◌^◌, ◌<◌, ◌≤◌, ◌≡◌, min, if◌then◌else◌, List, [], ◌∷◌, refl, sym, ap, ◌∙◌, add-one, arith, inl, inr}
use Rattle.std.proofs.Math.Nat.{mul-le-mul_right, pow-le-pow_right, pow-suc}
use Rattle.std.proofs.lemmas.Bool.{cases_lt, le-ltb, lt-ltb}
use Rattle.std.specs.Cmp.{nat_cmp_is}
use Rattle.std.specs.Cmp.Lexicographic.{slice_cmp}
use Rattle.std.specs.Ordering.{nat_cmp, ordering_then}
use Rattle.std.specs.declared.cmp.Ordering.TheVariants.{Less, Equal}
use Rattle.row_bag.specs.Ranks.{behind, first, leading}

first-low : (t : List ℕ) → first t < 130
first-low [] = omega arith
first-low (c ∷ t) = omega arith

one-more : (a p v : ℕ) → a < 130 → v < p → a * p + v < p * 130
one-more a p v low under =
    let few : a ≤ 129 = omega (arith, low) in
    let most = mul-le-mul_right p few in
    omega (arith, most, under)

-- so many digits are below the power of 130
pub leading-low : (n : ℕ) (t : List ℕ) → leading n t < 130 ^ n
unfolding leading
leading-low zero t = omega arith
leading-low (suc n) t = rw (pow-suc 130 n) (one-more (first t) (130 ^ n) (leading n (behind t)) (first-low t) (leading-low n (behind t)))

-- a lower number of digits: its first one isn't greater
not-greater : (a b p u v : ℕ) → v < p → b < a → a * p + u < b * p + v → ⊥
not-greater a b p u v under more low =
    let past : b + 1 ≤ a = omega (arith, more) in
    let most = mul-le-mul_right p past in
    omega (arith, most, under, low)

-- where the first digits are the same, the others decide
rest-less : (a b p u v : ℕ) → a ≡ b → a * p + u < b * p + v → u < v
rest-less a b p u v same low = let h = rw same at low in omega (arith, h)

behind-ascii : (c : ℕ) (t : List ℕ) → c < 128 → behind (c ∷ t) ≡ t
behind-ascii c t low = ap (λ b. if b then t else []) (lt-ltb c 128 low)

behind-other : (c : ℕ) (t : List ℕ) → 128 ≤ c → behind (c ∷ t) ≡ []
behind-other c t past = ap (λ b. if b then t else []) (le-ltb c 128 past)

-- of texts that differ in their leading digits the one of fewer is before the other
pub leading-less : (n : ℕ) (s t : List ℕ) → leading n s < leading n t → slice_cmp nat_cmp s t ≡ Less
unfolding leading
leading-less zero s t low = absurd (omega (arith, low))
leading-less (suc n) [] [] low = absurd (omega (arith, low))
leading-less (suc n) [] (y ∷ t) low = refl
leading-less (suc n) (x ∷ s) [] low = absurd (not-greater (min x 128 + 1) 0 (130 ^ n) (leading n (behind (x ∷ s))) (leading n []) (leading-low n []) (omega arith) low)
leading-less (suc n) (x ∷ s) (y ∷ t) low = elim (cases_lt x y) [
  | inl lower ↦ ap (λ o. ordering_then o (slice_cmp nat_cmp s t)) (sym (nat_cmp_is x y Less lower))
  | inr above ↦ elim (cases_lt (min y 128) (min x 128)) [
    | inl more ↦ absurd (not-greater (min x 128 + 1) (min y 128 + 1) (130 ^ n) (leading n (behind (x ∷ s))) (leading n (behind (y ∷ t))) (leading-low n (behind (y ∷ t))) (omega (arith, more)) low)
    | inr most ↦
        let rest = rest-less (min x 128 + 1) (min y 128 + 1) (130 ^ n) (leading n (behind (x ∷ s))) (leading n (behind (y ∷ t))) (omega (arith, above, most)) low in
        elim (cases_lt x 128) [
          | inl ascii ↦
              let same : x ≡ y = omega (arith, above, most, ascii) in
              let fewer = rw (behind-ascii x s ascii, behind-ascii y t (omega (arith, above, ascii))) at rest in
              ap (λ o. ordering_then o (slice_cmp nat_cmp s t)) (sym (nat_cmp_is x y Equal same)) ∙ leading-less n s t fewer
          | inr other ↦
              let none = rw (behind-other x s other, behind-other y t (omega (arith, above, most, other))) at rest in
              absurd (omega (arith, none))
        ]
  ]
]

regrouped : (s d p u : ℕ) → (s * 130 + d) * p + u ≡ s * (p * 130) + (d * p + u)
regrouped s d p u = omega arith

-- one digit more
pub digits-more : (n k s d : ℕ) (t rest : List ℕ) (whole : ℕ) → k ≡ suc n → d ≡ first t → rest ≡ behind t → s * 130 ^ k + leading k t ≡ whole → (s * 130 + d) * 130 ^ n + leading n rest ≡ whole
unfolding leading
digits-more n k s d t rest whole more digit is before =
    rw (digit, is) (regrouped s (first t) (130 ^ n) (leading n (behind t)) ∙ ap (λ q. s * q + leading (suc n) t) (sym (pow-suc 130 n)) ∙ rw more at before)

-- a number of so many digits has room for one more
pub low-more : (i s d : ℕ) (t : List ℕ) → d ≡ first t → s < 130 ^ i → s * 130 + d < 130 ^ (i + 1)
low-more i s d t digit low =
    let one = first-low t in
    let power = ap (λ k. 130 ^ k) (add-one i) ∙ pow-suc 130 i in
    omega (arith, low, one, digit, power)

-- of up to so many digits
pub low-power : (i j s : ℕ) → i ≤ j → s < 130 ^ i → s < 130 ^ j
low-power i j s few low =
    let some : 0 < 130 = omega arith in
    let most : 130 ^ i ≤ 130 ^ j = pow-le-pow_right some few in
    omega (arith, low, most)

-- all digits
pub digits-all : (k s : ℕ) (t : List ℕ) (whole : ℕ) → k ≡ 0 → s * 130 ^ k + leading k t ≡ whole → s ≡ whole
unfolding leading
digits-all k s t whole end before = let all : s * 1 + 0 ≡ whole = rw end at before in omega (arith, all)
