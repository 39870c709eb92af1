-- Two sorted lists of the same elements are equal.
use Rattle.std.proofs.Common.{ℕ, suc, ◌+◌, ◌<◌, ◌≡◌, ◌∙◌, Bool, true, false, if◌then◌else◌, List, [], ◌∷◌, length, get_or, inl, inr, refl, sym, ap, arith, add-one}
use Rattle.std.proofs.lemmas.Bool.{cases_Bool}
use Rattle.std.proofs.lemmas.List.Sorted.{sorted_far, sum_by-IsPermutation}
use Rattle.std.specs.List.{sum_by}
use Rattle.std.proofs.lemmas.List.Sums.{sum_by-cons}
use Rattle.std.specs.List.Sorted.{IsPermutation, IsSortedBy}
use Rattle.std.specs.Cmp.{IsStrictWeakOrder}

-- each element is not below this one
abbrev pub NoneBelow : {X : Type 0} → (X → X → Bool) → X → List X → Type 0
NoneBelow lt h [] = Unit {0}
NoneBelow lt h (x ∷ xs) = (lt x h ≡ false) × NoneBelow lt h xs

abbrev pub Ascends : {X : Type 0} → (X → X → Bool) → List X → Type 0
Ascends lt [] = Unit {0}
Ascends lt (x ∷ xs) = NoneBelow lt x xs × Ascends lt xs

abbrev pub occurs : {X : Type 0} → (X → X → Bool) → X → List X → ℕ
occurs eq z [] = 0
occurs eq z (x ∷ xs) = (if eq z x then 1 else 0) + occurs eq z xs

least : {X : Type 0} (lt eq : X → X → Bool) → ((a b : X) → eq a b ≡ true → a ≡ b) → (h z : X) (xs : List X) → NoneBelow lt h xs → 0 < occurs eq z xs → lt z h ≡ false
least lt eq same h z [] none some = absurd (omega arith)
least lt eq same h z (x ∷ xs) none some = elim (cases_Bool (eq z x)) [
  | inl is ↦ rw (same z x is) none.0
  | inr other ↦ least lt eq same h z xs none.1 (let k = rw other at some in omega arith)
]

pub ascends-once : {X : Type 0} (lt eq : X → X → Bool) → ((a b : X) → eq a b ≡ true → a ≡ b) → ((a : X) → eq a a ≡ true) → ((a b : X) → lt a b ≡ false → lt b a ≡ false → a ≡ b)
    → (xs ys : List X) → Ascends lt xs → Ascends lt ys → ((z : X) → occurs eq z xs ≡ occurs eq z ys) → xs ≡ ys
ascends-once lt eq same self anti [] [] p q e = refl
ascends-once lt eq same self anti [] (y ∷ ys) p q e = let h = rw (self y) at (e y) in absurd (omega arith)
ascends-once lt eq same self anti (x ∷ xs) [] p q e = let h = rw (self x) at (e x) in absurd (omega arith)
ascends-once {X} lt eq same self anti (x ∷ xs) (y ∷ ys) p q e =
    let ey = rw (self y) at (e y) in
    let ex = rw (self x) at (e x) in
    let is : x ≡ y = elim (cases_Bool (eq x y)) [
      | inl equal ↦ same x y equal
      | inr other ↦ elim (cases_Bool (eq y x)) [
        | inl equal ↦ sym (same y x equal)
        | inr turned ↦
            let ey2 = rw turned at ey in
            let ex2 = rw other at ex in
            anti x y (least lt eq same y x ys q.0 (omega arith)) (least lt eq same x y xs p.0 (omega arith))
      ]
    ] in
    rw is (ap (λ (t : List X). y ∷ t) (ascends-once lt eq same self anti xs ys p.1 q.1 (λ z. let h = rw is at (e z) in omega arith)))

none-below : {X : Type 0} (lt : X → X → Bool) (h : X) (xs : List X) → ((j : ℕ) (d : X) → j < length xs → lt (get_or xs j d) h ≡ false) → NoneBelow lt h xs
none-below lt h [] f = tt
none-below lt h (x ∷ xs) f = (f 0 x (omega arith), none-below lt h xs (λ j d p. f (suc j) d (omega arith)))

tail-sorted : {X : Type 0} (lt : X → X → Bool) (x : X) (xs : List X) → IsSortedBy lt (x ∷ xs) → IsSortedBy lt xs
tail-sorted lt x xs up k d low p = rw (add-one k) (rw (add-one (suc k)) at (up (suc k) d (omega arith) (omega arith)))

-- what a sort ensures, by cases on the list
pub ascends-sorted : {X : Type 0} (lt : X → X → Bool) → IsStrictWeakOrder lt → (xs : List X) → IsSortedBy lt xs → Ascends lt xs
ascends-sorted lt o [] up = tt
ascends-sorted lt o (x ∷ xs) up =
    (none-below lt x xs (λ j d p. sorted_far lt o (x ∷ xs) up 0 (suc j) d (omega arith) (omega arith)), ascends-sorted lt o xs (tail-sorted lt x xs up))

occurs-sum : {X : Type 0} (eq : X → X → Bool) (z : X) (xs : List X) → occurs eq z xs ≡ sum_by (λ y. if eq z y then 1 else 0) xs
occurs-sum eq z [] = refl
occurs-sum eq z (x ∷ xs) = ap (λ n. (if eq z x then 1 else 0) + n) (occurs-sum eq z xs) ∙ sym (sum_by-cons (λ y. if eq z y then 1 else 0) x xs)

pub occurs-moved : {X : Type 0} (eq : X → X → Bool) (z : X) (xs ys : List X) → IsPermutation xs ys → occurs eq z xs ≡ occurs eq z ys
occurs-moved eq z xs ys h = occurs-sum eq z xs ∙ sym (sum_by-IsPermutation (λ y. if eq z y then 1 else 0) xs ys h) ∙ sym (occurs-sum eq z ys)
