-- What is quoted, a character at a time.
use Rattle.std.proofs.Common.{◌≡◌, refl, ap, ◌==◌, ℕ, suc, ◌+◌, ◌≤◌, Bool, true, false, List, [], ◌∷◌, ◌++◌, length, take, arith}
use Rattle.std.specs.Prelude.{Result, Ok, Err, if◌then◌else◌}
use Rattle.std.proofs.lemmas.Bool.{eqb-true, eq-eqb}
use Rattle.sql_text.specs.Tokens.{with_character, quoted, quoted_text}

-- characters before what is quoted, written in `size` characters
abbrev pub prefixed : List ℕ → ℕ → Result (List ℕ × ℕ) ℕ → Result (List ℕ × ℕ) ℕ
prefixed cs size (Ok quoted) = Ok (cs ++ quoted.0, size + quoted.1)
prefixed cs size (Err fault) = Err fault

pub either : {A P : Type 0} (b : Bool) (x y z : A) → (b ≡ true → x ≡ z → P) → (b ≡ false → y ≡ z → P) → (if b then x else y) ≡ z → P
either true x y z on_true on_false h = on_true refl h
either false x y z on_true on_false h = on_false refl h

with_ok : (c size : ℕ) (told : Result (List ℕ × ℕ) ℕ) (found : List ℕ × ℕ) → with_character c size told ≡ Ok found → (inner : List ℕ × ℕ) × (told ≡ Ok inner) × (found ≡ (c ∷ inner.0, size + inner.1))
with_ok c size (Ok inner) found h = (inner, refl, cc)
with_ok c size (Err fault) found h = absurd (cc)

-- what is quoted is written so
abbrev pub IsQuoted : ℕ → List ℕ → List ℕ × ℕ → Type 0
IsQuoted quote cs found = (found.1 ≤ length cs) × (take found.1 cs ≡ quoted_text quote found.0)

closing : (quote c : ℕ) (rest : List ℕ) (found : List ℕ × ℕ) → (c == quote) ≡ true → ◌≡◌ {A = Result (List ℕ × ℕ) ℕ} (Ok ([], 1)) (Ok found) → IsQuoted quote (c ∷ rest) found
closing quote c rest found same h =
    let e : found ≡ ([], 1) = cc in
    rw e (omega arith, ap (λ b. b ∷ []) (eqb-true c quote same))

one_more : (quote c : ℕ) (rest : List ℕ) (found inner : List ℕ × ℕ) → (c == quote) ≡ false → found ≡ (c ∷ inner.0, 1 + inner.1) → IsQuoted quote rest inner → IsQuoted quote (c ∷ rest) found
one_more quote c rest found inner other e h =
    let size : 1 + inner.1 ≡ suc inner.1 = omega arith in
    rw (e, size, other) (omega (arith, h.0), ap (λ cs. c ∷ cs) h.1)

two_more : (quote c d : ℕ) (rest : List ℕ) (found inner : List ℕ × ℕ) → (c == quote) ≡ true → (d == quote) ≡ true → found ≡ (quote ∷ inner.0, 2 + inner.1) → IsQuoted quote rest inner → IsQuoted quote (c ∷ d ∷ rest) found
two_more quote c d rest found inner first second e h =
    let size : 2 + inner.1 ≡ suc (suc inner.1) = omega arith in
    let c_is : c ≡ quote = eqb-true c quote first in
    let d_is : d ≡ quote = eqb-true d quote second in
    rw (e, size, c_is, d_is, eq-eqb quote quote refl) (omega (arith, h.0), ap (λ cs. quote ∷ quote ∷ cs) h.1)

pub quoted_is : (quote : ℕ) (cs : List ℕ) (found : List ℕ × ℕ) → quoted quote cs ≡ Ok found → IsQuoted quote cs found
quoted_is quote [] found h = absurd (cc)
quoted_is quote (c ∷ []) found h = either (c == quote) _ _ _ (λ same h. closing quote c [] found same h) (λ other h. absurd (cc)) h
quoted_is quote (c ∷ d ∷ rest) found h =
    either (c == quote) _ _ _
    (λ same h. either (d == quote) _ _ _
    (λ second h. let (inner, read, e) = with_ok quote 2 (quoted quote rest) found h in two_more quote c d rest found inner same second e (quoted_is quote rest inner read))
    (λ other h. closing quote c (d ∷ rest) found same h)
    h)
    (λ other h. let (inner, read, e) = with_ok c 1 (quoted quote (d ∷ rest)) found h in one_more quote c (d ∷ rest) found inner other e (quoted_is quote (d ∷ rest) inner read))
    h
