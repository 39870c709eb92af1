-- A turn of a loop over a list, whose parts take slots in turn.
use Rattle.std.proofs.Common.{◌≡◌, ◌<◌, ◌+◌, ℕ, List, [], ◌∷◌, ◌++◌, length, drop, get_or, map, Option, Result, Ok, Err, refl, ap, ap₂, sym, ◌∙◌, append_assoc}
use Rattle.std.specs.Prelude.{IfOk, IsOkAnd, OnOk}
use Rattle.std.proofs.lemmas.List.{drop_more}
use Rattle.sql_meaning.specs.ResolvedTrees.{Value, Arms, Choices, Test}
use Rattle.sql_meaning.specs.ResolvedTrees as tree
use Rattle.qgm_terms.specs.Terms.{Term, Cond}
use Rattle.qgm_terms.specs.Terms as t
use Rattle.qgm_translation.specs.Leaves.{Leaf, Slots, after, leaves, test_leaves}
use Rattle.qgm_translation.specs.Maps.{Frame, Map}
use Rattle.qgm_translation.specs.Sources.{Sources}
use Rattle.qgm_translation.specs.Terms.{cond, term}
use Rattle.qgm_build_terms.specs.Parts.{arms_in, choices_in, open_term}
use Rattle.qgm_build_terms.proofs.Afters.{after_append}

pub next_there : {X : Type 0} (xs : List X) (i : ℕ) (x : X) → i < length xs → x ≡ get_or xs i x → drop i xs ≡ x ∷ drop (i + 1) xs
next_there {X} xs i x low is = drop_more xs i x low ∙ ap (λ (y : X). y ∷ drop (i + 1) xs) (sym is)

map_one : {Y Z : Type 0} (f : Z → Y) (xs : List Z) (z : Z) → map f (xs ++ z ∷ []) ≡ map f xs ++ f z ∷ []
map_one f [] z = refl
map_one f (x ∷ xs) z = ap (λ ys. f x ∷ ys) (map_one f xs z)

-- one more part, of these leaves
pub step_slots : {X : Type 0} (L : List X → List Leaf) (xs : List X) (i : ℕ) (x : X) (ls : List Leaf) (a b end : Slots) → i < length xs → x ≡ get_or xs i x
    → L (x ∷ drop (i + 1) xs) ≡ ls ++ L (drop (i + 1) xs) → b ≡ after ls a → after (L (drop i xs)) a ≡ end → after (L (drop (i + 1) xs)) b ≡ end
step_slots {X} L xs i x ls a b end low is e f so_far =
    ap (after (L (drop (i + 1) xs))) f ∙ sym (after_append ls (L (drop (i + 1) xs)) a) ∙ ap (λ zs. after zs a) (sym e)
    ∙ ap (λ (ys : List X). after (L ys) a) (sym (next_there xs i x low is)) ∙ so_far

-- one more part, of these leaves and then those
pub step_both : {X : Type 0} (L : List X → List Leaf) (xs : List X) (i : ℕ) (x : X) (ls ks : List Leaf) (a b c end : Slots) → i < length xs → x ≡ get_or xs i x
    → L (x ∷ drop (i + 1) xs) ≡ ls ++ (ks ++ L (drop (i + 1) xs)) → b ≡ after ls a → c ≡ after ks b → after (L (drop i xs)) a ≡ end → after (L (drop (i + 1) xs)) c ≡ end
step_both L xs i x ls ks a b c end low is e f g so_far =
    step_slots L xs i x (ls ++ ks) a c end low is (e ∙ sym (append_assoc ls ks (L (drop (i + 1) xs)))) (g ∙ ap (after ks) f ∙ sym (after_append ls ks a)) so_far

-- one more item of what is made
pub step_items : {X Y Z : Type 0} (f : Z → Y) (P : Slots → List X → List Y) (xs : List X) (i : ℕ) (x : X) (z : Z) (a b : Slots) (old new : List Z) (end : List Y) → i < length xs → x ≡ get_or xs i x
    → new ≡ old ++ z ∷ [] → P a (x ∷ drop (i + 1) xs) ≡ f z ∷ P b (drop (i + 1) xs) → map f old ++ P a (drop i xs) ≡ end → map f new ++ P b (drop (i + 1) xs) ≡ end
step_items {X} f P xs i x z a b old new end low is pushed e so_far =
    ap (λ zs. map f zs ++ P b (drop (i + 1) xs)) pushed ∙ ap (λ ys. ys ++ P b (drop (i + 1) xs)) (map_one f old z)
    ∙ append_assoc (map f old) (f z ∷ []) (P b (drop (i + 1) xs)) ∙ ap (λ ys. map f old ++ ys) (sym e)
    ∙ ap (λ (ys : List X). map f old ++ P a ys) (sym (next_there xs i x low is)) ∙ so_far

-- one more link of a chain
pub step_chain : {X T : Type 0} (C : Slots → T → List X → T) (xs : List X) (i : ℕ) (x : X) (a b : Slots) (old new end : T) → i < length xs → x ≡ get_or xs i x
    → C a old (x ∷ drop (i + 1) xs) ≡ C b new (drop (i + 1) xs) → C a old (drop i xs) ≡ end → C b new (drop (i + 1) xs) ≡ end
step_chain {X} C xs i x a b old new end low is e so_far = sym e ∙ ap (λ (ys : List X). C a old ys) (sym (next_there xs i x low is)) ∙ so_far

-- a part that is there, by two things that hold of it
pub is_there : {X E : Type 0} (part : Result X E) (P A B : X → Type 0) (T : Type 0) → IsOkAnd part P → IfOk part A → IfOk part B → ((x : X) → P x → A x → B x → T) → T
is_there (Ok x) P A B T h a b f = f x h a b
is_there (Err e) P A B T h a b f = absurd h

-- what is made of a part, which leaves these slots
pub made_of_one : {X Z E A C : Type 0} (r : Result Z E) (part : Result X E) (of : Z → C) (f : X → A) (F : Slots → A → C) (s t : Slots) (a : A)
    → IfOk r (λ z. IsOkAnd part (λ x. of z ≡ F s (f x))) → IfOk part (λ x. f x ≡ a) → OnOk part (s ≡ t) → IfOk r (λ z. of z ≡ F t a)
made_of_one (Ok z) (Ok x) of f F s t a h e g = h ∙ ap₂ F g e
made_of_one (Ok z) (Err d) of f F s t a h e g = absurd h
made_of_one (Err d) part of f F s t a h e g = tt

-- what is made of two, of which the first leaves these slots to the second
pub made_of_two : {X Y Z E A B C : Type 0} (r : Result Z E) (left : Result X E) (right : Result Y E) (of : Z → C) (f : X → A) (g : Y → B) (F : A → B → C) (G : Slots → B) (s t : Slots) (a : A)
    → IfOk r (λ z. IsOkAnd left (λ x. IsOkAnd right (λ y. of z ≡ F (f x) (g y)))) → IfOk left (λ x. f x ≡ a) → OnOk left (s ≡ t) → IfOk right (λ y. g y ≡ G s) → IfOk r (λ z. of z ≡ F a (G t))
made_of_two (Ok z) (Ok x) (Ok y) of f g F G s t a h e i k = h ∙ ap₂ F e (k ∙ ap G i)
made_of_two (Ok z) (Ok x) (Err d) of f g F G s t a h e i k = absurd h
made_of_two (Ok z) (Err d) right of f g F G s t a h e i k = absurd h
made_of_two (Err d) left right of f g F G s t a h e i k = tt

-- what is left after a part that is there
pub slots_left : {X Y E Q R T : Type 0} (r : Result Y E) (part : Result X E) (P : Y → X → Type 0) → IfOk r (λ y. IsOkAnd part (P y)) → OnOk part Q → OnOk r R → (Q → R → T) → OnOk r T
slots_left (Ok y) (Ok x) P h q r f = f q r
slots_left (Ok y) (Err e) P h q r f = absurd h
slots_left (Err e) part P h q r f = tt

pub still_there : {X E : Type 0} (part : Result X E) (P Q : X → Type 0) → ((x : X) → P x → Q x) → IsOkAnd part P → IsOkAnd part Q
still_there (Ok x) P Q f h = f x h
still_there (Err e) P Q f h = absurd h

-- a condition with its result
pub arm_read : (sources : Sources) (fr : Frame) (m : Map) (a b c : Slots) (p : Test) (x : Value) (xs : Arms) (q : Cond) (y : Option Term) → q ≡ cond sources fr m a p → b ≡ after (test_leaves fr p) a
    → y ≡ open_term x (term sources fr m b x) → c ≡ after (leaves fr x) b → arms_in sources fr m a (tree.one_arm p x xs) ≡ (record { when = q; result = y }) ∷ arms_in sources fr m c xs
arm_read sources fr m a b c p x xs q y e f g h =
    ap (λ z. (record { when = cond sources fr m a p; result = open_term x (term sources fr m z x) }) ∷ arms_in sources fr m (after (leaves fr x) z) xs) (sym f)
    ∙ ap₂ (λ (p : Cond) (y : Option Term). (record { when = p; result = y }) ∷ arms_in sources fr m (after (leaves fr x) b) xs) (sym e) (sym g)
    ∙ ap (λ z. (record { when = q; result = y }) ∷ arms_in sources fr m z xs) (sym h)

-- a value of a CASE with its result
pub choice_read : (sources : Sources) (fr : Frame) (m : Map) (a b c : Slots) (of : Term) (x y : Value) (xs : Choices) (v : Term) (q : Cond) (z : Option Term) → v ≡ term sources fr m a x → b ≡ after (leaves fr x) a
    → q ≡ t.compare t.equal of v → z ≡ open_term y (term sources fr m b y) → c ≡ after (leaves fr y) b
    → choices_in sources fr m a of (tree.one_choice x y xs) ≡ (record { when = q; result = z }) ∷ choices_in sources fr m c of xs
choice_read sources fr m a b c of x y xs v q z d e f g h =
    ap (λ w. (record { when = t.compare t.equal of (term sources fr m a x); result = open_term y (term sources fr m w y) }) ∷ choices_in sources fr m (after (leaves fr y) w) of xs) (sym e)
    ∙ ap₂ (λ (p : Cond) (y2 : Option Term). (record { when = p; result = y2 }) ∷ choices_in sources fr m (after (leaves fr y) b) of xs) (ap (t.compare t.equal of) (sym d) ∙ sym f) (sym g)
    ∙ ap (λ w. (record { when = q; result = z }) ∷ choices_in sources fr m w of xs) (sym h)

pub appended : {A : Type 0} (xs ys zs : List A) → (xs ++ ys) ++ zs ≡ xs ++ (ys ++ zs)
appended xs ys zs = append_assoc xs ys zs
