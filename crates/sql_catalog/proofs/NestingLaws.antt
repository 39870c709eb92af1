-- Laws of tests of lists, and of one round of the search for views that nest deep.
use Rattle.std.proofs.Common.{◌≡◌, refl, sym, ap, ◌∙◌, ℕ, Bool, true, false, ◌||◌, ◌&&◌, List, [], ◌∷◌, filter, not, ◌↔◌, IsTrue, cond}
use Rattle.std.specs.List.{list_any}
use Rattle.std.specs.Cmp.Lexicographic.{nat_list_eq_equiv}
use Rattle.sql_catalog.specs.declared.reader.Reader.{Reader}
use Rattle.sql_ast.specs.Names.{same_name, contains}
use Rattle.sql_catalog.specs.Nesting.{reader_names, read_by}
use Rattle.sql_catalog.proofs.NameLaws.{any_same}

-- ---- lists and tests

abbrev pub kept : {A : Type 0} → A → Bool → List A → List A
kept x s xs = cond s (x ∷ xs) xs

pub filter_same : {A : Type 0} (p q : A → Bool) → ((x : A) → p x ≡ q x) → (xs : List A) → filter p xs ≡ filter q xs
filter_same p q same [] = refl
filter_same p q same (x ∷ xs) = ap (λ s. kept x s (filter p xs)) (same x) ∙ ap (kept x (q x)) (filter_same p q same xs)

pub or_swapped : (a b c d : Bool) → ((a || b) || (c || d)) ≡ ((a || c) || (b || d))
or_swapped true b c d = refl
or_swapped false true true d = refl
or_swapped false true false d = refl
or_swapped false false c d = refl

pub and_true : (b : Bool) → (b && true) ≡ b
and_true true = refl
and_true false = refl

pub and_false : (b : Bool) → (b && false) ≡ false
and_false true = refl
and_false false = refl

pub any_or : {A : Type 0} (p q : A → Bool) (xs : List A) → list_any (λ x. p x || q x) xs ≡ (list_any p xs || list_any q xs)
any_or p q [] = refl
any_or p q (x ∷ xs) = ap (λ b. (p x || q x) || b) (any_or p q xs) ∙ or_swapped (p x) (q x) (list_any p xs) (list_any q xs)

pub any_none : {A : Type 0} (xs : List A) → list_any (λ _. false) xs ≡ false
any_none [] = refl
any_none (x ∷ xs) = any_none xs

pub any_kept : {A : Type 0} (p : A → Bool) (x : A) (xs : List A) (s : Bool) → list_any p (kept x s xs) ≡ ((s && p x) || list_any p xs)
any_kept p x xs true = refl
any_kept p x xs false = refl

pub any_filter : {A : Type 0} (t p : A → Bool) (xs : List A) → list_any p (filter t xs) ≡ list_any (λ x. t x && p x) xs
any_filter t p [] = refl
any_filter t p (x ∷ xs) = any_kept p x (filter t xs) (t x) ∙ ap (λ b. (t x && p x) || b) (any_filter t p xs)

-- ---- one round: the views that read one of the names of those that pass a test

pub one_name : (w : Reader) (reads : List (List ℕ)) → list_any (λ n. same_name w.name n) reads ≡ contains reads w.name
one_name w reads = any_same (λ n. same_name w.name n) (λ n. same_name n w.name) (λ n. nat_list_eq_equiv.symm w.name n) reads

pub one_kept : (w : Reader) (ws : List Reader) (reads : List (List ℕ)) (s : Bool) → list_any (contains (reader_names (kept w s ws))) reads ≡ ((contains reads w.name && s) || list_any (contains (reader_names ws)) reads)
one_kept w ws reads true =
    any_or (λ n. same_name w.name n) (contains (reader_names ws)) reads
    ∙ (ap (λ b. b || list_any (contains (reader_names ws)) reads) (one_name w reads)
    ∙ ap (λ b. b || list_any (contains (reader_names ws)) reads) (sym (and_true (contains reads w.name))))
one_kept w ws reads false = ap (λ b. b || list_any (contains (reader_names ws)) reads) (sym (and_false (contains reads w.name)))

pub among : (p : Reader → Bool) (reads : List (List ℕ)) (ws : List Reader) → list_any (contains (reader_names (filter p ws))) reads ≡ list_any (λ (w : Reader). contains reads w.name && p w) ws
among p reads [] = any_none reads
among p reads (w ∷ ws) = one_kept w (filter p ws) reads (p w) ∙ ap (λ b. (contains reads w.name && p w) || b) (among p reads ws)

pub read_among : (p : Reader → Bool) (all : List Reader) (reads : List (List ℕ)) → list_any (contains (reader_names (filter p all))) reads ≡ list_any p (filter (λ (w : Reader). contains reads w.name) all)
read_among p all reads = among p reads all ∙ sym (any_filter (λ (w : Reader). contains reads w.name) p all)

pub one_round : (p : Reader → Bool) (all : List Reader) → filter (λ (v : Reader). list_any (contains (reader_names (filter p all))) v.reads) all ≡ filter (λ (v : Reader). list_any p (read_by all v)) all
one_round p all = filter_same (λ (v : Reader). list_any (contains (reader_names (filter p all))) v.reads) (λ (v : Reader). list_any p (read_by all v)) (λ v. read_among p all v.reads) all

-- ---- whether one passes: whether the list of those that do has an element

pub nil_apart : {A B : Type 0} (x : A) (xs : List A) → x ∷ xs ≡ [] → B
nil_apart x xs e = absurd (cc)

pub false_apart : {B : Type 0} → false ≡ true → B
false_apart e = absurd (cc)

pub one_found : (b : Bool) (x : Reader) (xs : List Reader) (more : Bool) (s : Bool) →
    (IsTrue b ↔ (reader_names (kept x s xs) ≡ [])) → ((IsTrue b ↔ (reader_names xs ≡ [])) → not b ≡ more) → not b ≡ (s || more)
one_found true x xs more true iff rest = nil_apart x.name (reader_names xs) (iff.0 refl)
one_found false x xs more true iff rest = refl
one_found b x xs more false iff rest = rest iff

pub found : (p : Reader → Bool) (xs : List Reader) (b : Bool) → (IsTrue b ↔ (reader_names (filter p xs) ≡ [])) → not b ≡ list_any p xs
found p [] true iff = refl
found p [] false iff = false_apart (iff.1 refl)
found p (x ∷ xs) b iff = one_found b x (filter p xs) (list_any p xs) (p x) iff (found p xs b)

pub all_kept : (xs : List Reader) → filter (λ (v : Reader). true) xs ≡ xs
all_kept [] = refl
all_kept (x ∷ xs) = ap (λ ys. x ∷ ys) (all_kept xs)
