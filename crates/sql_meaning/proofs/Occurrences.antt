-- Laws of occurrences of names.
use Rattle.std.proofs.Common.{◌≡◌, refl, sym, ap, ap₂, ◌∙◌, subst, ℕ, suc, ◌+◌, ◌<◌, Bool, true, false, cond, List, [], ◌∷◌, ◌++◌, length, map, take, append_assoc, get_or, position, nat_lt, option_map, Option, Some, inl, inr, arith}
use Rattle.std.proofs.lemmas.Bool.{cases_Bool, le-ltb, lt-ltb, ltb-false, ltb-true}
use Rattle.std.proofs.lemmas.List.{take_more, length-append, length-map, map-append, length-take-le}
use Rattle.std.specs.Cmp.Lexicographic.{nat_list_eq_equiv}
use Rattle.std.specs.List.{position_or_len}
use Rattle.std.specs.Map.{lookup}
use Rattle.std.specs.Option.{unwrap_or}
use Rattle.sql_ast.specs.Names.{same_name}
use Rattle.sql_meaning.specs.Scopes.{is_named}
use Rattle.sql_meaning.specs.declared.column_index.Occurrence.{Occurrence}
use Rattle.sql_meaning.specs.declared.column_index.Occurrence.TheVariants.{Nowhere, Once, Several}
use Rattle.sql_meaning.specs.Occurrences.{Indexes, Noted, first_place, occurrence, one_further, one_more, then_at, told_of}

more_more : (o : Occurrence) (n : ℕ) → one_more (then_at o n) ≡ then_at (one_more o) (suc n)
more_more Nowhere n = refl
more_more (Once p) n = refl
more_more (Several p) n = refl

more_further : (o : Occurrence) (n : ℕ) → one_further (then_at o n) ≡ then_at (one_further o) (suc n)
more_further Nowhere n = refl
more_further (Once p) n = refl
more_further (Several p) n = refl

step : (b d : Bool) (o : Occurrence) (n : ℕ) → cond b (one_more (cond d (then_at o n) o)) (one_further (cond d (then_at o n) o)) ≡ cond d (then_at (cond b (one_more o) (one_further o)) (suc n)) (cond b (one_more o) (one_further o))
step true true o n = more_more o n
step true false o n = refl
step false true o n = more_further o n
step false false o n = refl

alone : (d : Bool) → cond d (one_more Nowhere) (one_further Nowhere) ≡ cond d (then_at Nowhere 0) Nowhere
alone true = refl
alone false = refl

-- a name among columns, and one more at the end
pub occurrence_push : (name : List ℕ) (columns : List (Option (List ℕ))) (column : Option (List ℕ))
    → occurrence name (columns ++ column ∷ []) ≡ cond (is_named name column) (then_at (occurrence name columns) (length columns)) (occurrence name columns)
occurrence_push name [] column = alone (is_named name column)
occurrence_push name (c ∷ columns) column =
    ap (λ (o : Occurrence). cond (is_named name c) (one_more o) (one_further o)) (occurrence_push name columns column)
    ∙ step (is_named name c) (is_named name column) (occurrence name columns) (length columns)

first_further : (o : Occurrence) → first_place (one_further o) ≡ option_map suc (first_place o)
first_further Nowhere = refl
first_further (Once p) = refl
first_further (Several p) = refl

first_more : (o : Occurrence) → first_place (one_more o) ≡ Some 0
first_more Nowhere = refl
first_more (Once p) = refl
first_more (Several p) = refl

pub position_more : {X : Type 0} (p : X → Bool) (x : X) (xs : List X) → position p (x ∷ xs) ≡ cond (p x) (Some 0) (option_map suc (position p xs))
position_more p x xs = elim (cases_Bool (p x)) [
  | inl e ↦ rw e (rw (lt-ltb 0 (length (x ∷ xs)) (omega arith)) refl)
  | inr e ↦ rw e (elim (cases_Bool (nat_lt (position_or_len p xs) (length xs))) [
    | inl h ↦ rw (h, lt-ltb (1 + position_or_len p xs) (length (x ∷ xs)) (let q = ltb-true _ _ h in omega arith)) (ap Some (omega arith))
    | inr h ↦ rw (h, le-ltb (1 + position_or_len p xs) (length (x ∷ xs)) (let q = ltb-false _ _ h in omega arith)) refl
  ])
]

-- the first column of a name
pub place_of_first : (name : List ℕ) (columns : List (Option (List ℕ))) → first_place (occurrence name columns) ≡ position (is_named name) columns
place_of_first name [] = refl
place_of_first name (column ∷ columns) = by (is_named name column) (place_of_first name columns) ∙ sym (position_more (is_named name) column columns)
  where
    by : (b : Bool) → first_place (occurrence name columns) ≡ position (is_named name) columns
        → first_place (cond b (one_more (occurrence name columns)) (one_further (occurrence name columns))) ≡ cond b (Some 0) (option_map suc (position (is_named name) columns))
    by true same = first_more (occurrence name columns)
    by false same = first_further (occurrence name columns) ∙ ap (option_map suc) same

-- equal names have the same entry
same_entry : (name other : List ℕ) → same_name name other ≡ true → (entries : List (List ℕ × Occurrence)) → lookup (same_name name) entries ≡ lookup (same_name other) entries
same_entry name other same [] = refl
same_entry name other same (entry ∷ entries) =
    ap₂ (λ (b : Bool) (o : Option Occurrence). cond b (Some entry.1) o) (nat_list_eq_equiv.congr name other entry.0 same) (same_entry name other same entries)

-- what is noted of a name that equals the one noted last
pub told_alike : (entries : List (List ℕ × Occurrence)) (name other : List ℕ) (place : ℕ)
    → cond (same_name name other) (then_at (told_of entries name) place) (told_of entries other) ≡ cond (same_name name other) (then_at (told_of entries other) place) (told_of entries other)
told_alike entries name other place = by (same_name name other) (λ same. ap (λ (o : Option Occurrence). unwrap_or o Nowhere) (same_entry name other same entries))
  where
    by : (b : Bool) → (b ≡ true → told_of entries name ≡ told_of entries other) → cond b (then_at (told_of entries name) place) (told_of entries other) ≡ cond b (then_at (told_of entries other) place) (told_of entries other)
    by true alike = ap (λ (o : Occurrence). then_at o place) (alike refl)
    by false alike = refl

-- a name among the columns up to the next
pub occurrence_next : {A : Type 0} (column : A → Option (List ℕ)) (xs : List A) (i : ℕ) (x : A) → i < length xs → (name : List ℕ)
    → occurrence name (map column (take (i + 1) xs))
    ≡ cond (is_named name (column (get_or xs i x))) (then_at (occurrence name (map column (take i xs))) i) (occurrence name (map column (take i xs)))
occurrence_next column xs i x low name =
    let seen : length (map column (take i xs)) ≡ i = length-map (take i xs) column ∙ length-take-le i xs (omega arith) in
    ap (λ ys. occurrence name (map column ys)) (take_more xs i x low)
    ∙ ap (occurrence name) (map-append column (take i xs) (get_or xs i x ∷ []))
    ∙ occurrence_push name (map column (take i xs)) (column (get_or xs i x))
    ∙ ap (λ (n : ℕ). cond (is_named name (column (get_or xs i x))) (then_at (occurrence name (map column (take i xs))) n) (occurrence name (map column (take i xs)))) seen

-- an index of columns, and one more column that is noted after them
pub indexed_next : (entries next : List (List ℕ × Occurrence)) (columns : List (Option (List ℕ))) (column : Option (List ℕ)) (place : ℕ)
    → Indexes columns (entries, place) → Noted entries column place next → Indexes (columns ++ column ∷ []) (next, place + 1)
indexed_next entries next columns column place index noted = (told, wide)
  where
    told : (name : List ℕ) → told_of next name ≡ occurrence name (columns ++ column ∷ [])
    told name =
        noted name
        ∙ ap₂ (λ (o : Occurrence) (n : ℕ). cond (is_named name column) (then_at o n) o) (index.0 name) index.1
        ∙ sym (occurrence_push name columns column)

    wide : place + 1 ≡ length (columns ++ column ∷ [])
    wide = let more = length-append columns (column ∷ []) in let same = index.1 in omega (arith, more, same)

-- the same of the columns of a list up to the next
pub indexed_more : (before columns : List (Option (List ℕ))) (i first : ℕ) (column : Option (List ℕ)) (entries next : List (List ℕ × Occurrence)) → i < length columns → column ≡ get_or columns i column
    → Indexes (before ++ take i columns) (entries, first + i) → Noted entries column (first + i) next → Indexes (before ++ take (i + 1) columns) (next, first + (i + 1))
indexed_more before columns i first column entries next low is index noted =
    subst (λ (r : List (Option (List ℕ)) × ℕ). Indexes r.0 (next, r.1)) (ap₂ (λ (cs : List (Option (List ℕ))) (n : ℕ). (cs, n)) (sym up_to) (omega arith))
    (indexed_next entries next (before ++ take i columns) column (first + i) index noted)
  where
    up_to : before ++ take (i + 1) columns ≡ (before ++ take i columns) ++ column ∷ []
    up_to =
        ap (λ (cs : List (Option (List ℕ))). before ++ cs) (take_more columns i column low)
        ∙ sym (append_assoc before (take i columns) (get_or columns i column ∷ []))
        ∙ ap (λ (c : Option (List ℕ)). (before ++ take i columns) ++ c ∷ []) (sym is)
