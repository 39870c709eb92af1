-- Rows that count for nothing in some and every, and the keys that tell so.
use Rattle.std.proofs.Common.{ℕ, suc, zero, ◌≡◌, ◌++◌, ◌∷◌, ◌&&◌, not, Bool, true, false, List, [], All, get_or, refl, sym, ap, subst, ◌∙◌, inl, inr, arith}
use Rattle.std.specs.Ordering.{int_cmp, is_eq, is_ne, nat_cmp}
use Rattle.std.specs.Cmp.Lexicographic.{slice_cmp}
use Rattle.std.specs.declared.cmp.Ordering.{Ordering}
use Rattle.std.specs.declared.cmp.Ordering.TheVariants as ordering
use Rattle.sql_value.specs.Cells.{cell_compare}
use Rattle.sql_value.specs.Truths as t
use Rattle.sql_value.specs.Truths.{truth_of}
use Rattle.sql_value.specs.declared.cell.Cell.{Cell}
use Rattle.sql_value.specs.declared.cell.Cell.TheVariants.{Int, Text, Null, Err}
use Rattle.sql_value.specs.declared.truth.Truth.{Truth}
use Rattle.list_laws.specs.Lists.{In}
use Rattle.qgm_meaning.specs.Values.{Bag, Environment, bound, compared, truth}
use Rattle.qgm_terms.specs.Shown as shown
use Rattle.qgm_terms.specs.Terms.{Cond, Sign, Term, equal, unequal, same}
use Rattle.qgm_terms.specs.Terms as terms
use Rattle.box_exec.specs.Levels.{is_none, is_yes}
use Rattle.box_exec.specs.Equalities.{AreEither, is_plain, other_of, own_of}
use Rattle.box_exec.specs.Idle.{HashesIdle, Idles, Tells, is_wholly, of_type, parted}
use Rattle.box_exec.specs.Lists as lists
use Rattle.box_exec.specs.declared.key.Equality.TheVariants.{Same, Numbers, Texts}
use Rattle.box_exec.specs.declared.key.Key.{Key}
use Rattle.box_exec.specs.declared.lookup.Hashed.{Hashed}
use Rattle.box_exec.proofs.Equalities.{eq-either, in-order}
use Rattle.box_exec.proofs.Units.{and-done, and-last, or-done, or-last, wholly-is, wholly-of}
use Rattle.box_exec.proofs.Steps.{truth_anded, truth_ored}

-- ---- what comparisons tell

ne-of : (o : Ordering) → not (is_eq o) ≡ true → is_ne o ≡ true
ne-of ordering.Less h = refl
ne-of ordering.Equal h = absurd (let z : ⊥ = cc in z)
ne-of ordering.Greater h = refl

unequal-eq : (b : Bool) → not b ≡ true → b ≡ false
unequal-eq true h = absurd (let z : ⊥ = cc in z)
unequal-eq false h = refl

wholly-false : (b : Bool) → b ≡ false → is_wholly false (truth_of b) ≡ true
wholly-false b e = ap (λ (c : Bool). is_wholly false (truth_of c)) e

wholly-true : (b : Bool) → b ≡ true → is_wholly true (truth_of b) ≡ true
wholly-true b e = ap (λ (c : Bool). is_wholly true (truth_of c)) e

-- in one order
same-tells : (x y : Cell) → is_plain Same x ≡ true → is_plain Same y ≡ true → is_eq (cell_compare x y) ≡ false → is_wholly false (compared same x y) ≡ true
same-tells (Int m) (Int n) h k d = wholly-false (is_eq (int_cmp m n)) d
same-tells (Int m) (Text t) h k d = refl
same-tells (Int m) Null h k d = refl
same-tells (Int m) (Err e) h k d = absurd (let z : ⊥ = cc in z)
same-tells (Text s) (Int n) h k d = refl
same-tells (Text s) (Text t) h k d = wholly-false (is_eq (slice_cmp nat_cmp s t)) d
same-tells (Text s) Null h k d = refl
same-tells (Text s) (Err e) h k d = absurd (let z : ⊥ = cc in z)
same-tells Null (Int n) h k d = refl
same-tells Null (Text t) h k d = refl
same-tells Null Null h k d = absurd (let z : ⊥ = cc in z)
same-tells Null (Err e) h k d = absurd (let z : ⊥ = cc in z)
same-tells (Err e) y h k d = absurd (let z : ⊥ = cc in z)

number-tells : (x y : Cell) → is_plain Numbers x ≡ true → is_plain Numbers y ≡ true → is_eq (cell_compare x y) ≡ false → (is_wholly false (compared equal x y) ≡ true) × (is_wholly true (compared unequal x y) ≡ true)
number-tells (Int m) (Int n) h k d = (wholly-false (is_eq (int_cmp m n)) d, wholly-true (is_ne (int_cmp m n)) (ne-of (int_cmp m n) (ap not d)))
number-tells (Int m) (Text t) h k d = absurd (let z : ⊥ = cc in z)
number-tells (Int m) Null h k d = absurd (let z : ⊥ = cc in z)
number-tells (Int m) (Err e) h k d = absurd (let z : ⊥ = cc in z)
number-tells (Text s) y h k d = absurd (let z : ⊥ = cc in z)
number-tells Null y h k d = absurd (let z : ⊥ = cc in z)
number-tells (Err e) y h k d = absurd (let z : ⊥ = cc in z)

text-tells : (x y : Cell) → is_plain Texts x ≡ true → is_plain Texts y ≡ true → is_eq (cell_compare x y) ≡ false → (is_wholly false (compared equal x y) ≡ true) × (is_wholly true (compared unequal x y) ≡ true)
text-tells (Text s) (Text t) h k d = (wholly-false (is_eq (slice_cmp nat_cmp s t)) d, wholly-true (is_ne (slice_cmp nat_cmp s t)) (ne-of (slice_cmp nat_cmp s t) (ap not d)))
text-tells (Text s) (Int n) h k d = absurd (let z : ⊥ = cc in z)
text-tells (Text s) Null h k d = absurd (let z : ⊥ = cc in z)
text-tells (Text s) (Err e) h k d = absurd (let z : ⊥ = cc in z)
text-tells (Int n) y h k d = absurd (let z : ⊥ = cc in z)
text-tells Null y h k d = absurd (let z : ⊥ = cc in z)
text-tells (Err e) y h k d = absurd (let z : ⊥ = cc in z)

either : (x y : Cell) → is_eq (cell_compare x y) ≡ false → is_eq (cell_compare y x) ≡ false
either x y d = sym (eq-either x y) ∙ d

pub same-told : Tells false same Same
same-told x y h k d = let u = unequal-eq (is_eq (cell_compare x y)) d in (same-tells x y h k u, same-tells y x k h (either x y u))

pub equal-told : (texts : Bool) → Tells false equal (of_type texts)
equal-told true x y h k d = let u = unequal-eq (is_eq (cell_compare x y)) d in ((text-tells x y h k u).0, (text-tells y x k h (either x y u)).0)
equal-told false x y h k d = let u = unequal-eq (is_eq (cell_compare x y)) d in ((number-tells x y h k u).0, (number-tells y x k h (either x y u)).0)

pub unequal-told : (texts : Bool) → Tells true unequal (of_type texts)
unequal-told true x y h k d = let u = unequal-eq (is_eq (cell_compare x y)) d in ((text-tells x y h k u).1, (text-tells y x k h (either x y u)).1)
unequal-told false x y h k d = let u = unequal-eq (is_eq (cell_compare x y)) d in ((number-tells x y h k u).1, (number-tells y x k h (either x y u)).1)

-- ---- keys of conditions

pub idles-compare : (holds : Bool) (q : ℕ) (sign : Sign) (a b : Term) (key : Key) → Tells holds sign key.by → AreEither q a b key → Idles holds q (terms.compare sign a b) key
idles-compare holds q sign a b key tells sides s cells env own other apart =
    let told = tells (own_of q (shown.term key.own.now) cells) (other_of (shown.term key.other.now) env) own other apart in
    in-order (λ x y. is_wholly holds (compared sign x y) ≡ true) q a b key s cells env sides told.0 told.1

swapped : (a b : Bool) → (a && b) ≡ true → (b && a) ≡ true
swapped true b h = ap (λ (c : Bool). c && true) h
swapped false b h = absurd (let z : ⊥ = cc in z)

wholly-turned : (holds : Bool) (p : Truth) → is_wholly (not holds) p ≡ true → is_wholly holds (t.negated p) ≡ true
wholly-turned true p h = swapped (is_none p.t) (is_yes p.f) h
wholly-turned false p h = swapped (is_yes p.t) (is_none p.f) h

pub idles-not : (holds : Bool) (q : ℕ) (c : Cond) (key : Key) → Idles (not holds) q c key → Idles holds q (terms.not c) key
idles-not holds q c key h s cells env own other apart = wholly-turned holds (truth s c (bound q cells env)) (h s cells env own other apart)

-- ---- parts of an AND that is false, and of an OR that is true

module _ (s : ℕ → Bag) (env : Environment) where
  all-false : (p : Truth) (ps : List Cond) → p ≡ truth_of false → lists.all_of s p ps env ≡ truth_of false
  all-false p [] e = e
  all-false p (c ∷ ps) e = all-false (t.and p (truth s c env)) ps (ap (λ (x : Truth). t.and x (truth s c env)) e ∙ and-done (truth s c env))

  all-false-in : (p : Truth) (ps : List Cond) (c : Cond) → In c ps → truth s c env ≡ truth_of false → lists.all_of s p ps env ≡ truth_of false
  all-false-in p [] c i e = elim i [ ]
  all-false-in p (d ∷ ps) c i e = elim i [
    | inl it ↦ all-false (t.and p (truth s d env)) ps (ap (t.and p) (ap (λ (x : Cond). truth s x env) it ∙ e) ∙ and-last p)
    | inr j ↦ all-false-in (t.and p (truth s d env)) ps c j e
  ]

  any-true : (p : Truth) (ps : List Cond) → p ≡ truth_of true → lists.any_of s p ps env ≡ truth_of true
  any-true p [] e = e
  any-true p (c ∷ ps) e = any-true (t.or p (truth s c env)) ps (ap (λ (x : Truth). t.or x (truth s c env)) e ∙ or-done (truth s c env))

  any-true-in : (p : Truth) (ps : List Cond) (c : Cond) → In c ps → truth s c env ≡ truth_of true → lists.any_of s p ps env ≡ truth_of true
  any-true-in p [] c i e = elim i [ ]
  any-true-in p (d ∷ ps) c i e = elim i [
    | inl it ↦ any-true (t.or p (truth s d env)) ps (ap (t.or p) (ap (λ (x : Cond). truth s x env) it ∙ e) ∙ or-last p)
    | inr j ↦ any-true-in (t.or p (truth s d env)) ps c j e
  ]

pub idles-first : (holds : Bool) (q : ℕ) (a : Cond) (ps : List Cond) (key : Key) → Idles holds q a key → Idles holds q (parted holds a ps) key
idles-first false q a ps key h s cells env own other apart =
    let e = bound q cells env in
    wholly-of false (truth s (terms.anded a ps) e) (truth_anded s a ps e ∙ all-false s e (truth s a e) ps (wholly-is false (truth s a e) (h s cells env own other apart)))
idles-first true q a ps key h s cells env own other apart =
    let e = bound q cells env in
    wholly-of true (truth s (terms.ored a ps) e) (truth_ored s a ps e ∙ any-true s e (truth s a e) ps (wholly-is true (truth s a e) (h s cells env own other apart)))

pub idles-in : (holds : Bool) (q : ℕ) (a c : Cond) (ps : List Cond) (key : Key) → In c ps → Idles holds q c key → Idles holds q (parted holds a ps) key
idles-in false q a c ps key i h s cells env own other apart =
    let e = bound q cells env in
    wholly-of false (truth s (terms.anded a ps) e) (truth_anded s a ps e ∙ all-false-in s e (truth s a e) ps c i (wholly-is false (truth s c e) (h s cells env own other apart)))
idles-in true q a c ps key i h s cells env own other apart =
    let e = bound q cells env in
    wholly-of true (truth s (terms.ored a ps) e) (truth_ored s a ps e ∙ any-true-in s e (truth s a e) ps c i (wholly-is true (truth s c e) (h s cells env own other apart)))

-- ---- lists of keys

pub all-weaker : {X : Type 0} (P Q : X → Type 0) (xs : List X) → ((x : X) → P x → Q x) → All P xs → All Q xs
all-weaker P Q xs f h k d l = f (get_or xs k d) (h k d l)

pub all-joined : {X : Type 0} (P : X → Type 0) (xs ys : List X) → All P xs → All P ys → All P (xs ++ ys)
all-joined P [] ys h g k d l = g k d l
all-joined P (x ∷ xs) ys h g zero d l = h zero d (omega arith)
all-joined P (x ∷ xs) ys h g (suc i) d l = all-joined P xs ys (λ j e m. h (suc j) e (omega (arith, m))) g i d (omega (arith, l))

pub parts-all : (holds : Bool) (q : ℕ) (a : Cond) (ps : List Cond) (made : List Key) → All (λ k. Idles holds q a k) made → All (λ k. Idles holds q (parted holds a ps) k) made
parts-all holds q a ps made h = all-weaker (λ k. Idles holds q a k) (λ k. Idles holds q (parted holds a ps) k) made (λ k i. idles-first holds q a ps k i) h

pub parted-false : (holds : Bool) (a : Cond) (ps : List Cond) → holds ≡ false → parted holds a ps ≡ terms.anded a ps
parted-false true a ps h = absurd (let z : ⊥ = cc in z)
parted-false false a ps h = refl

pub parted-true : (holds : Bool) (a : Cond) (ps : List Cond) → holds ≡ true → parted holds a ps ≡ terms.ored a ps
parted-true true a ps h = refl
parted-true false a ps h = absurd (let z : ⊥ = cc in z)

-- ---- indexes

pub idle-alike : (holds holds' : Bool) (q q' : ℕ) (c c' : Cond) (rows rows' : Bag) (h : Hashed) → holds ≡ holds' → q ≡ q' → c ≡ c' → rows ≡ rows' → HashesIdle holds q c rows h → HashesIdle holds' q' c' rows' h
idle-alike holds holds' q q' c c' rows rows' h eh eq ec er is =
    subst (λ (b : Bool). HashesIdle b q' c' rows' h) eh
    (subst (λ (n : ℕ). HashesIdle holds n c' rows' h) eq (subst (λ (d : Cond). HashesIdle holds q d rows' h) ec (subst (λ (rs : Bag). HashesIdle holds q c rs h) er is)))
