-- Laws of names, their lists and sets.
use Rattle.std.proofs.Common.{◌≡◌, refl, sym, ap, ◌∙◌, ℕ, Bool, true, false, not, ◌||◌, List, [], ◌∷◌, ◌++◌}
use Rattle.std.specs.Prelude.{if◌then◌else◌}
use Rattle.std.specs.List.{list_any}
use Rattle.std.specs.Cmp.Lexicographic.{nat_list_eq_equiv}
use Rattle.sql_ast.specs.Names.{same_name, contains, has_twins}

pub or_middle : (a b c d : Bool) → ((a || (b || false)) || (c || d)) ≡ ((a || c) || (b || d))
or_middle true b c d = refl
or_middle false true true d = refl
or_middle false true false d = refl
or_middle false false c d = refl

pub or_last : (a b c : Bool) → ((a || (b || false)) || c) ≡ (a || (b || c))
or_last true b c = refl
or_last false true c = refl
or_last false false c = refl

pub or_assoc_left : (a b c : Bool) → ((a || b) || c) ≡ (a || (b || c))
or_assoc_left true b c = refl
or_assoc_left false b c = refl

-- two tests that agree pass the same lists
pub any_same : {A : Type 0} (p q : A → Bool) → ((x : A) → p x ≡ q x) → (xs : List A) → list_any p xs ≡ list_any q xs
any_same p q same [] = refl
any_same p q same (x ∷ xs) = ap (λ b. b || list_any p xs) (same x) ∙ ap (λ b. q x || b) (any_same p q same xs)

-- equal names are in the same lists
pub contains_congr : (names : List (List ℕ)) (a b : List ℕ) → same_name a b ≡ true → contains names a ≡ contains names b
contains_congr [] a b same = refl
contains_congr (n ∷ ns) a b same =
    ap (λ t. t || contains ns a) (nat_list_eq_equiv.symm n a ∙ (nat_list_eq_equiv.congr a b n same ∙ nat_list_eq_equiv.symm b n))
    ∙ ap (λ t. same_name n b || t) (contains_congr ns a b same)

pub contains_append : (xs ys : List (List ℕ)) (m : List ℕ) → contains (xs ++ ys) m ≡ (contains xs m || contains ys m)
contains_append [] ys m = refl
contains_append (x ∷ xs) ys m = ap (λ t. same_name x m || t) (contains_append xs ys m) ∙ sym (or_assoc_left (same_name x m) (contains xs m) (contains ys m))

-- a list with a name that it has, again
pub known_again : (names : List (List ℕ)) (n m : List ℕ) → contains names n ≡ true → (t : Bool) → same_name n m ≡ t → (contains names m || t) ≡ contains names m
known_again names n m has true same = ap (λ b. b || true) (sym (contains_congr names n m same) ∙ has) ∙ sym (sym (contains_congr names n m same) ∙ has)
known_again names n m has false same = or_false (contains names m)
  where
    or_false : (b : Bool) → (b || false) ≡ b
    or_false true = refl
    or_false false = refl

-- a name added to a set where it is new, and the names after it
pub added : (set : List (List ℕ)) (n : List ℕ) (ns : List (List ℕ)) (m : List ℕ) →
    (contains (if contains set n then set else set ++ n ∷ []) m || contains ns m) ≡ (contains set m || (same_name n m || contains ns m))
added set n ns m = by_cases (contains set n) refl
  where
    by_cases : (t : Bool) → contains set n ≡ t → (contains (if contains set n then set else set ++ n ∷ []) m || contains ns m) ≡ (contains set m || (same_name n m || contains ns m))
    by_cases true has = ap (λ t. contains (if t then set else set ++ n ∷ []) m || contains ns m) has ∙ (ap (λ t. t || contains ns m) (sym (known_again set n m has _ refl)) ∙ or_assoc_left (contains set m) (same_name n m) (contains ns m))
    by_cases false has = ap (λ t. contains (if t then set else set ++ n ∷ []) m || contains ns m) has ∙ (ap (λ t. t || contains ns m) (contains_append set (n ∷ []) m) ∙ or_last (contains set m) (same_name n m) (contains ns m))

-- names that stand in a list, or are twins, once one more name is in the list
pub one_more : (seen : List (List ℕ)) (n : List ℕ) (ns : List (List ℕ)) → list_any (contains (seen ++ n ∷ [])) ns ≡ (list_any (contains seen) ns || contains ns n)
one_more seen n [] = refl
one_more seen n (m ∷ ms) =
    ap (λ t. t || list_any (contains (seen ++ n ∷ [])) ms) (contains_append seen (n ∷ []) m)
    ∙ (ap (λ t. (contains seen m || (same_name n m || false)) || t) (one_more seen n ms)
    ∙ (or_middle (contains seen m) (same_name n m) (list_any (contains seen) ms) (contains ms n)
    ∙ ap (λ t. (contains seen m || list_any (contains seen) ms) || (t || contains ms n)) (nat_list_eq_equiv.symm n m)))

pub twins_more : (seen : List (List ℕ)) (n : List ℕ) (ns : List (List ℕ)) → (list_any (contains (seen ++ n ∷ [])) ns || has_twins ns) ≡ (list_any (contains seen) ns || (contains ns n || has_twins ns))
twins_more seen n ns = ap (λ t. t || has_twins ns) (one_more seen n ns) ∙ or_assoc_left (list_any (contains seen) ns) (contains ns n) (has_twins ns)

pub none_seen : (ns : List (List ℕ)) → list_any (contains []) ns ≡ false
none_seen [] = refl
none_seen (n ∷ ns) = none_seen ns
