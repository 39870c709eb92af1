-- What holds of each element of a list, and of the one that is found.
use Rattle.std.proofs.Common.{◌≡◌, ◌∙◌, Bool, true, false, cond, ℕ, List, [], ◌∷◌, ◌++◌, find, map, Some, refl, sym, ap, subst}
use Rattle.std.specs.Prelude.{⊤, All}
use Rattle.std.specs.List.{list_any}
use Rattle.std.specs.Cmp.Lexicographic.{nat_list_eq_equiv}
use Rattle.std.proofs.lemmas.Bool.{or_left, or_parts, or_right}
use Rattle.std.proofs.lemmas.List.Elements.{All-cons, All-head, All-nil, All-tail}
use Rattle.std.proofs.lemmas.Option.{same_Some}
use Rattle.sql_ast.specs.Names.{contains, same_name}

-- P of each
abbrev pub Each : {A : Type 0} → (A → Type 0) → List A → Type 0
Each P [] = ⊤
Each P (x ∷ xs) = P x × Each P xs

pub each_append : {A : Type 0} (P : A → Type 0) (xs ys : List A) → Each P xs → Each P ys → Each P (xs ++ ys)
each_append P [] ys h k = k
each_append P (x ∷ xs) ys h k = (h.0, each_append P xs ys h.1 k)

pub each_left : {A : Type 0} (P : A → Type 0) (xs ys : List A) → Each P (xs ++ ys) → Each P xs
each_left P [] ys h = tt
each_left P (x ∷ xs) ys h = (h.0, each_left P xs ys h.1)

pub each_right : {A : Type 0} (P : A → Type 0) (xs ys : List A) → Each P (xs ++ ys) → Each P ys
each_right P [] ys h = h
each_right P (x ∷ xs) ys h = each_right P xs ys h.1

pub each_all : {A : Type 0} (P : A → Type 0) → ((x : A) → P x) → (xs : List A) → Each P xs
each_all P h [] = tt
each_all P h (x ∷ xs) = (h x, each_all P h xs)

pub each_more : {A : Type 0} (P Q : A → Type 0) → ((x : A) → P x → Q x) → (xs : List A) → Each P xs → Each Q xs
each_more P Q f [] h = tt
each_more P Q f (x ∷ xs) h = (f x h.0, each_more P Q f xs h.1)

pub all_of_each : {A : Type 0} (P : A → Type 0) (xs : List A) → Each P xs → All P xs
all_of_each P [] h = All-nil P
all_of_each P (x ∷ xs) h = All-cons P x xs h.0 (all_of_each P xs h.1)

pub each_of_all : {A : Type 0} (P : A → Type 0) (xs : List A) → All P xs → Each P xs
each_of_all P [] h = tt
each_of_all P (x ∷ xs) h = (All-head P x xs h, each_of_all P xs (All-tail P x xs h))

-- P of each name that stands in a list
pub each_in : (P : List ℕ → Type 0) (xs : List (List ℕ)) → ((name : List ℕ) → contains xs name ≡ true → P name) → Each P xs
each_in P [] h = tt
each_in P (x ∷ xs) h = (h x (or_left (same_name x x) (contains xs x) (nat_list_eq_equiv.refl x)), each_in P xs (λ name e. h name (or_right (same_name x name) (contains xs name) e)))

pub none_each : {A B : Type 0} (q : B → Bool) (f : A → B) (xs : List A) → list_any q (map f xs) ≡ false → Each (λ x. q (f x) ≡ false) xs
none_each q f [] h = tt
none_each q f (x ∷ xs) h = let p = or_parts (q (f x)) (list_any q (map f xs)) h in (p.0, none_each q f xs p.1)

-- ---- what is found

-- it passes the test
pub found_passes : {A : Type 0} (p : A → Bool) (xs : List A) (x : A) → find p xs ≡ Some x → p x ≡ true
found_passes p [] x h = absurd (cc)
found_passes p (y ∷ ys) x h =
    elim (p y) as (λ b. p y ≡ b → cond b (Some y) (find p ys) ≡ Some x → p x ≡ true) [
      | true ↦ (λ e k. ap p (sym (same_Some y x k)) ∙ e)
      | false ↦ (λ e k. found_passes p ys x k)
    ] refl h

-- what holds of each holds of it
pub found_each : {A : Type 0} (P : A → Type 0) (p : A → Bool) (xs : List A) (x : A) → Each P xs → find p xs ≡ Some x → P x
found_each P p [] x each h = absurd (cc)
found_each P p (y ∷ ys) x each h =
    elim (p y) as (λ b. cond b (Some y) (find p ys) ≡ Some x → P x) [
      | true ↦ (λ k. subst P (same_Some y x k) each.0)
      | false ↦ (λ k. found_each P p ys x each.1 k)
    ] h

pub found_all : {A : Type 0} (P : A → Type 0) (p : A → Bool) (xs : List A) (x : A) → All P xs → find p xs ≡ Some x → P x
found_all P p xs x all h = found_each P p xs x (each_of_all P xs all) h

-- it doesn't pass a test that none passes
pub found_any : {A B : Type 0} (q : B → Bool) (f : A → B) (p : A → Bool) (xs : List A) (x : A) → find p xs ≡ Some x → list_any q (map f xs) ≡ false → q (f x) ≡ false
found_any q f p xs x h none = found_each (λ z. q (f z) ≡ false) p xs x (none_each q f xs none) h
