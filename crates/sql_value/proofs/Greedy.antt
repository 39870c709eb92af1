-- The rest of a pattern after `%` may be tried from each place of a text on, up to the next `%`.
use Rattle.std.proofs.Common.{ℕ, zero, suc, ◌+◌, ◌-◌, ◌*◌, ◌<◌, ◌≤◌, ◌≡◌, ◌∙◌, Bool, true, false, ◌==◌, ◌&&◌, ◌||◌, List, [], ◌∷◌, drop, length, Option, Some, None, inl, inr, refl, sym, ap, arith, add-one, drop-cons, get_or}
use Rattle.std.proofs.Math.ListN.{drop_of_length-le}
use Rattle.std.proofs.lemmas.Bool.{cases_Bool}
use Rattle.std.proofs.lemmas.List.{drop-drop}
use Rattle.sql_value.specs.Like.{begins_any, begins_one, fits, one_then, some_end}

-- the rest of a pattern after `%` fits from a place after the one that is tried, where there is one
abbrev pub retried : List ℕ → List ℕ → Option (ℕ × ℕ) → Bool
retried pattern text None = false
retried pattern text (Some (start, after)) = some_end (fits (drop after pattern)) (drop (start + 1) text)

-- what fits the rest after `%` begins with what its signs up to j stand for
abbrev pub Follows : List ℕ → List ℕ → ℕ → ℕ → Option (ℕ × ℕ) → Type 0
Follows pattern text i j None = Unit {0}
Follows pattern text i j (Some (start, after)) = (after ≤ j) × (i + after ≡ start + j)
    × ((k : ℕ) → fits (drop after pattern) (drop k text) ≡ true → fits (drop j pattern) (drop (k + (j - after)) text) ≡ true)

-- a number that falls at each step: the rest of the pattern after `%`, then the places to try, then the signs
abbrev pub steps_left : ℕ → ℕ → ℕ → Option (ℕ × ℕ) → ℕ
steps_left m n j None = (m * (n + 2) + (n + 1)) * (m + 1) + (m - j)
steps_left m n j (Some (start, after)) = ((m - after) * (n + 2) + (n - start)) * (m + 1) + (m - j)

or-true : (a : Bool) → (a || true) ≡ true
or-true true = refl
or-true false = refl

or-false : (a : Bool) → (a || false) ≡ a
or-false true = refl
or-false false = refl

or-first : (a b : Bool) → (b ≡ true → a ≡ true) → (a || b) ≡ a
or-first a true h = or-true a ∙ sym (h refl)
or-first a false h = or-false a

and-second : (a b : Bool) → (a && b) ≡ true → b ≡ true
and-second true b e = e
and-second false b e = cc e

end-or : (f : List ℕ → Bool) (t : List ℕ) → some_end f t ≡ (f t || some_end f (drop 1 t))
end-or f [] = sym (or-first (f []) (f []) (λ h. h))
end-or f (c ∷ t) = refl

earlier : (f : List ℕ → Bool) (t : List ℕ) → some_end f (drop 1 t) ≡ true → some_end f t ≡ true
earlier f t e = end-or f t ∙ ap (λ b. f t || b) e ∙ or-true (f t)

drop-next : (k : ℕ) (t : List ℕ) → drop 1 (drop k t) ≡ drop (k + 1) t
drop-next k t = drop-drop 1 k t

ends-move : (f h : List ℕ → Bool) (text : List ℕ) (d : ℕ) → ((k : ℕ) → f (drop k text) ≡ true → some_end h (drop (k + d) text) ≡ true)
    → (rest : List ℕ) (k : ℕ) → drop k text ≡ rest → some_end f rest ≡ true → some_end h (drop (k + d) text) ≡ true
ends-move f h text d move [] k is e = move k (rw is e)
ends-move f h text d move (c ∷ rest) k is e = elim (cases_Bool (f (c ∷ rest))) [
  | inl here ↦ move k (rw is here)
  | inr later ↦
      let next : drop (k + 1) text ≡ rest = sym (drop-next k text) ∙ ap (λ (t : List ℕ). drop 1 t) is in
      let one : k + 1 + d ≡ k + d + 1 = omega arith in
      let moved = ends-move f h text d move rest (k + 1) next (rw later at e) in
      earlier h (drop (k + d) text) (rw drop-next (rw one at moved))
]

any-is : (p : List ℕ) (j : ℕ) → begins_any (drop j p) ≡ true → (t : List ℕ) → fits (drop j p) t ≡ some_end (fits (drop (j + 1) p)) t
any-is [] zero e t = cc e
any-is [] (suc j) e t = cc e
any-is (x ∷ p) zero e t = rw e refl
any-is (x ∷ p) (suc j) e t = let one : suc j + 1 ≡ suc (j + 1) = omega arith in rw one (any-is p j e t)

one-is : (x : ℕ) (f : List ℕ → Bool) (t : List ℕ) → one_then x f t ≡ true → f (drop 1 t) ≡ true
one-is x f [] e = cc e
one-is x f (c ∷ t) e = and-second _ (f t) e

-- `%` is reached
any-whole : (p t : List ℕ) (i j : ℕ) (r : Option (ℕ × ℕ)) → fits p t ≡ (fits (drop j p) (drop i t) || retried p t r) → Follows p t i j r → begins_any (drop j p) ≡ true
    → fits p t ≡ fits (drop j p) (drop i t)
any-whole p t i j None whole follows e = whole ∙ or-false _
any-whole p t i j (Some (start, after)) whole follows e = whole ∙ or-first _ _ (λ h.
    let moved = ends-move (fits (drop after p)) (fits (drop (j + 1) p)) t (j - after) (λ k g. sym (any-is p j e (drop (k + (j - after)) t)) ∙ follows.2 k g) (drop (start + 1) t) (start + 1) refl h in
    let low = follows.0 in
    let same = follows.1 in
    let one : start + 1 + (j - after) ≡ i + 1 = omega arith in
    any-is p j e (drop i t) ∙ earlier (fits (drop (j + 1) p)) (drop i t) (rw drop-next (rw one at moved)))

pub any-more : (p t : List ℕ) (i j : ℕ) (r : Option (ℕ × ℕ)) → fits p t ≡ (fits (drop j p) (drop i t) || retried p t r) → Follows p t i j r → begins_any (drop j p) ≡ true
    → fits p t ≡ (fits (drop (j + 1) p) (drop i t) || retried p t (Some (i, j + 1)))
any-more p t i j r whole follows e =
    any-whole p t i j r whole follows e ∙ any-is p j e (drop i t) ∙ end-or (fits (drop (j + 1) p)) (drop i t)
    ∙ ap (λ (u : List ℕ). fits (drop (j + 1) p) (drop i t) || some_end (fits (drop (j + 1) p)) u) (drop-next i t)

pub follows-itself : (p t : List ℕ) (i j : ℕ) → Follows p t i j (Some (i, j))
follows-itself p t i j = (
  omega arith,
  refl,
  λ k h.
      let none : k ≡ k + (j - j) = omega arith in
      rw none at h,
)

one-there : (p : List ℕ) (j c : ℕ) (t : List ℕ) → begins_one (drop j p) c ≡ true → fits (drop j p) (c ∷ t) ≡ fits (drop (j + 1) p) t
one-there [] zero c t e = cc e
one-there [] (suc j) c t e = cc e
one-there (x ∷ p) zero c t e = elim (cases_Bool (x == 37)) [
  | inl any ↦ absurd (cc (rw any at e))
  | inr one ↦ let stands = rw one at e in rw (one, stands) refl
]
one-there (x ∷ p) (suc j) c t e = let one : suc j + 1 ≡ suc (j + 1) = omega arith in rw one (one-there p j c t e)

one-rest : (p : List ℕ) (j c : ℕ) (t : List ℕ) → begins_one (drop j p) c ≡ true → fits (drop j p) t ≡ true → fits (drop (j + 1) p) (drop 1 t) ≡ true
one-rest [] zero c t e f = cc e
one-rest [] (suc j) c t e f = cc e
one-rest (x ∷ p) zero c t e f = elim (cases_Bool (x == 37)) [
  | inl any ↦ absurd (cc (rw any at e))
  | inr one ↦ one-is x (fits p) t (rw one at f)
]
one-rest (x ∷ p) (suc j) c t e f = let one : suc j + 1 ≡ suc (j + 1) = omega arith in rw one (one-rest p j c t e f)

-- a sign stands for the character that is reached
pub one-more : (p t : List ℕ) (i j c d : ℕ) (r : Option (ℕ × ℕ)) → i < length t → c ≡ get_or t i d → fits p t ≡ (fits (drop j p) (drop i t) || retried p t r)
    → begins_one (drop j p) c ≡ true → fits p t ≡ (fits (drop (j + 1) p) (drop (i + 1) t) || retried p t r)
one-more p t i j c d r low is whole e =
    let next : drop i t ≡ c ∷ drop (i + 1) t = drop-cons t i d low ∙ rw (is, add-one i) refl in
    whole ∙ ap (λ b. b || retried p t r) (ap (fits (drop j p)) next ∙ one-there p j c (drop (i + 1) t) e)

pub follows-more : (p t : List ℕ) (i j c : ℕ) (r : Option (ℕ × ℕ)) → begins_one (drop j p) c ≡ true → Follows p t i j r → Follows p t (i + 1) (j + 1) r
follows-more p t i j c None e f = tt
follows-more p t i j c (Some (start, after)) e f =
    let low = f.0 in
    let same = f.1 in (
      omega arith,
      omega arith,
      λ k h.
          let one : k + (j - after) + 1 ≡ k + (j + 1 - after) = omega arith in
          rw one at (rw drop-next at (one-rest p j c (drop (k + (j - after)) t) e (f.2 k h))),
    )

none-there : (p : List ℕ) (j c : ℕ) (t : List ℕ) → begins_any (drop j p) ≡ false → begins_one (drop j p) c ≡ false → fits (drop j p) (c ∷ t) ≡ false
none-there [] zero c t a e = refl
none-there [] (suc j) c t a e = refl
none-there (x ∷ p) zero c t a e = let fails = rw a at e in rw (a, fails) refl
none-there (x ∷ p) (suc j) c t a e = none-there p j c t a e

-- no sign stands for the character that is reached
pub none-more : (p t : List ℕ) (i j c d : ℕ) (r : Option (ℕ × ℕ)) → i < length t → c ≡ get_or t i d → fits p t ≡ (fits (drop j p) (drop i t) || retried p t r)
    → begins_any (drop j p) ≡ false → begins_one (drop j p) c ≡ false → fits p t ≡ retried p t r
none-more p t i j c d r low is whole a e =
    let next : drop i t ≡ c ∷ drop (i + 1) t = drop-cons t i d low ∙ rw (is, add-one i) refl in
    whole ∙ ap (λ b. b || retried p t r) (ap (fits (drop j p)) next ∙ none-there p j c (drop (i + 1) t) a e)

pub retry-more : (p t : List ℕ) (start after : ℕ) → retried p t (Some (start, after)) ≡ (fits (drop after p) (drop (start + 1) t) || retried p t (Some (start + 1, after)))
retry-more p t start after =
    end-or (fits (drop after p)) (drop (start + 1) t)
    ∙ ap (λ (u : List ℕ). fits (drop after p) (drop (start + 1) t) || some_end (fits (drop after p)) u) (drop-next (start + 1) t)

ends-past : (f g : List ℕ → Bool) (text : List ℕ) (d : ℕ) → ((k : ℕ) → f (drop k text) ≡ true → g (drop (k + d) text) ≡ true)
    → (rest : List ℕ) (k : ℕ) → drop k text ≡ rest → length text ≤ k + d → some_end f rest ≡ true → g [] ≡ true
ends-past f g text d move [] k is past e = rw (drop_of_length-le text past) at (move k (rw is e))
ends-past f g text d move (c ∷ rest) k is past e = elim (cases_Bool (f (c ∷ rest))) [
  | inl here ↦ rw (drop_of_length-le text past) at (move k (rw is here))
  | inr later ↦
      let next : drop (k + 1) text ≡ rest = sym (drop-next k text) ∙ ap (λ (t : List ℕ). drop 1 t) is in
      ends-past f g text d move rest (k + 1) next (omega arith) (rw later at e)
]

-- the text's end is reached
pub all-tried : (p t : List ℕ) (i j : ℕ) (r : Option (ℕ × ℕ)) → length t ≤ i → fits p t ≡ (fits (drop j p) (drop i t) || retried p t r) → Follows p t i j r → fits p t ≡ fits (drop j p) []
all-tried p t i j None past whole follows = whole ∙ or-false _ ∙ ap (fits (drop j p)) (drop_of_length-le t past)
all-tried p t i j (Some (start, after)) past whole follows =
    let low = follows.0 in
    let same = follows.1 in
    let ended : fits p t ≡ (fits (drop j p) [] || retried p t (Some (start, after))) = rw (drop_of_length-le t past) at whole in
    ended ∙ or-first _ _ (λ h. ends-past (fits (drop after p)) (fits (drop j p)) t (j - after) follows.2 (drop (start + 1) t) (start + 1) refl (omega arith) h)

pub any-within : (p : List ℕ) (j : ℕ) → begins_any (drop j p) ≡ true → j + 1 ≤ length p
any-within [] zero e = cc e
any-within [] (suc j) e = cc e
any-within (x ∷ p) zero e = omega arith
any-within (x ∷ p) (suc j) e = let low = any-within p j e in omega arith

pub one-within : (p : List ℕ) (j c : ℕ) → begins_one (drop j p) c ≡ true → j + 1 ≤ length p
one-within [] zero c e = cc e
one-within [] (suc j) c e = cc e
one-within (x ∷ p) zero c e = omega arith
one-within (x ∷ p) (suc j) c e = let low = one-within p j c e in omega arith
