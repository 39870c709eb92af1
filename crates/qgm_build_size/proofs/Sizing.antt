-- The sizes of parts that stand one behind the other.
use Rattle.std.specs.Prelude.{Result, Ok, Err, IfOk, IsOkAnd}
use Rattle.std.proofs.Common.{◌≡◌, ◌<◌, ◌+◌, ℕ, List, ◌∷◌, length, drop, get_or, ap, ap₂, sym, ◌∙◌, arith}
use Rattle.std.proofs.lemmas.List.{drop_more}
use Rattle.sql_meaning.specs.ResolvedShown as shown
use Rattle.sql_meaning.specs.ResolvedTrees.{Values}
use Rattle.sql_meaning.specs.declared.resolved.Value.{Value}
use Rattle.qgm_build_size.specs.Sizes.{again, coalesced_size, more, nothing, plus, value_size}
use Rattle.qgm_build_size.specs.declared.sizes.Size.{Size}

next_there : {X : Type 0} (xs : List X) (i : ℕ) (x : X) → i < length xs → x ≡ get_or xs i x → drop i xs ≡ x ∷ drop (i + 1) xs
next_there {X} xs i x low is = drop_more xs i x low ∙ ap (λ (y : X). y ∷ drop (i + 1) xs) (sym is)

abbrev made : ℕ → ℕ → Size
made o b = record { own = o; below = b }

zero_more : (n : ℕ) → 0 + n ≡ n
zero_more n = omega arith

more_zero : (n : ℕ) → n + 0 ≡ n
more_zero n = omega arith

in_turn : (a b c : ℕ) → (a + b) + c ≡ a + (b + c)
in_turn a b c = omega arith

pub plus_first : (a : Size) → plus nothing a ≡ a
plus_first a = ap₂ made (zero_more a.own) (zero_more a.below)

pub plus_last : (a : Size) → plus a nothing ≡ a
plus_last a = ap₂ made (more_zero a.own) (more_zero a.below)

pub plus_turn : (a b c : Size) → plus (plus a b) c ≡ plus a (plus b c)
plus_turn a b c = ap₂ made (in_turn a.own b.own c.own) (in_turn a.below b.below c.below)

-- one more part
pub size_more : {X : Type 0} (L : List X → Size) (xs : List X) (i : ℕ) (x : X) (a old new end : Size) → i < length xs → x ≡ get_or xs i x
    → L (x ∷ drop (i + 1) xs) ≡ plus a (L (drop (i + 1) xs)) → new ≡ plus old a → plus old (L (drop i xs)) ≡ end → plus new (L (drop (i + 1) xs)) ≡ end
size_more {X} L xs i x a old new end low is e f so_far =
    ap (λ (z : Size). plus z (L (drop (i + 1) xs))) f ∙ plus_turn old a (L (drop (i + 1) xs)) ∙ ap (plus old) (sym e)
    ∙ ap (λ (ys : List X). plus old (L ys)) (sym (next_there xs i x low is)) ∙ so_far

-- one more part of COALESCE
pub coalesced_turn : (xs : List Value) (i : ℕ) (x : Value) (last next old new end : Size) → i < length xs → x ≡ get_or xs i x → new ≡ plus old (more 3 (plus last (again last))) → next ≡ value_size (shown.value x)
    → plus old (coalesced_size last (shown.value_list (drop i xs))) ≡ end → plus new (coalesced_size next (shown.value_list (drop (i + 1) xs))) ≡ end
coalesced_turn xs i x last next old new end low is e f so_far =
    let rest : Values = shown.value_list (drop (i + 1) xs) in
    let part : Size = more 3 (plus last (again last)) in
    ap₂ (λ (z y : Size). plus z (coalesced_size y rest)) e f ∙ plus_turn old part (coalesced_size (value_size (shown.value x)) rest)
    ∙ ap (λ (ys : List Value). plus old (coalesced_size last (shown.value_list ys))) (sym (next_there xs i x low is)) ∙ so_far

-- what was so far, with one more part
pub turn_more : {X : Type 0} (next : Size → List X → Size) (rest : List X → Size) (xs : List X) (i : ℕ) (x : X) (new new_end end : Size) → i < length xs → x ≡ get_or xs i x
    → rest (x ∷ drop (i + 1) xs) ≡ next new_end (drop (i + 1) xs) → new ≡ new_end → rest (drop i xs) ≡ end → next new (drop (i + 1) xs) ≡ end
turn_more {X} next rest xs i x new new_end end low is e f so_far =
    ap (λ (s : Size). next s (drop (i + 1) xs)) f ∙ sym e ∙ ap rest (sym (next_there xs i x low is)) ∙ so_far

pub ruleset sizing = (plus_first, plus_last, plus_turn)

-- what is made of three parts, each of which is there
pub of_three : {S X Y Z E : Type 0} (r : Result S E) (a : Result X E) (b : Result Y E) (c : Result Z E) (F : X → Y → Z → S) (x : X) (y : Y) (z : Z)
    → IfOk r (λ s. IsOkAnd a (λ u. IsOkAnd b (λ v. IsOkAnd c (λ w. s ≡ F u v w)))) → IfOk a (λ u. u ≡ x) → IfOk b (λ v. v ≡ y) → IfOk c (λ w. w ≡ z) → IfOk r (λ s. s ≡ F x y z)
of_three (Err e) a b c F x y z h i j k = tt
of_three (Ok s) (Err e) b c F x y z h i j k = absurd h
of_three (Ok s) (Ok u) (Err e) c F x y z h i j k = absurd h
of_three (Ok s) (Ok u) (Ok v) (Err e) F x y z h i j k = absurd h
of_three (Ok s) (Ok u) (Ok v) (Ok w) F x y z h i j k = h ∙ ap (λ m. F m v w) i ∙ ap (λ m. F x m w) j ∙ ap (F x y) k

-- of a first part, of what is made of it and others, and of a last part
pub of_compared : {S X Y Z E : Type 0} (r : Result S E) (a : Result X E) (b : Result Y E) (c : Result Z E) (F : X → Y → Z → S) (G : X → Y) (x : X) (z : Z)
    → IfOk r (λ s. IsOkAnd a (λ u. IsOkAnd b (λ v. IsOkAnd c (λ w. s ≡ F u v w)))) → IfOk a (λ u. u ≡ x) → IfOk b (λ v. IsOkAnd a (λ u. v ≡ G u)) → IfOk c (λ w. w ≡ z) → IfOk r (λ s. s ≡ F x (G x) z)
of_compared (Err e) a b c F G x z h i j k = tt
of_compared (Ok s) (Err e) b c F G x z h i j k = absurd h
of_compared (Ok s) (Ok u) (Err e) c F G x z h i j k = absurd h
of_compared (Ok s) (Ok u) (Ok v) (Err e) F G x z h i j k = absurd h
of_compared (Ok s) (Ok u) (Ok v) (Ok w) F G x z h i j k = h ∙ ap (λ m. F u m w) j ∙ ap (λ m. F m (G m) w) i ∙ ap (F x (G x)) k

-- the same without a last part
pub of_among : {S X Y E : Type 0} (r : Result S E) (a : Result X E) (b : Result Y E) (F : X → Y → S) (G : X → Y) (x : X)
    → IfOk r (λ s. IsOkAnd a (λ u. IsOkAnd b (λ v. s ≡ F u v))) → IfOk a (λ u. u ≡ x) → IfOk b (λ v. IsOkAnd a (λ u. v ≡ G u)) → IfOk r (λ s. s ≡ F x (G x))
of_among (Err e) a b F G x h i j = tt
of_among (Ok s) (Err e) b F G x h i j = absurd h
of_among (Ok s) (Ok u) (Err e) F G x h i j = absurd h
of_among (Ok s) (Ok u) (Ok v) F G x h i j = h ∙ ap (F u) j ∙ ap (λ m. F m (G m)) i
