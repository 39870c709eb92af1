-- The AND of comparisons column by column.
use Rattle.std.proofs.Common.{ℕ, zero, suc, ◌≡◌, ◌&&◌, ◌||◌, ◌+◌, ◌≤◌, ◌<◌, Bool, true, false, List, [], ◌∷◌, ◌++◌, map, length, Option, Some, None, slice_get, refl, sym, ap, ap₂, ◌∙◌, arith}
use Rattle.std.specs.List.{flat_map, list_all, list_any}
use Rattle.std.proofs.lemmas.Bool.{and_from, and_parts, or_from, or_parts}
use Rattle.sql_value.specs.declared.order_key.SqlType.{SqlType}
use Rattle.sql_value.specs.declared.order_key.SqlType.TheVariants.{Integer, Varchar}
use Rattle.qgm_terms.specs.Terms.{Cond, Term, always, and, anded, col, compare, same}
use Rattle.qgm_wellformed.specs.Types.{Lookup, agree, all_agree, is_known, known, term_type}
use Rattle.qgm_edit_laws.specs.Ranges.{columns_from}
use Rattle.qgm_edit_laws.proofs.AllColumns.{length-one}
use Rattle.qgm_edit_laws.specs.SameColumns.{all_same, sames}
use Rattle.qgm_edit_laws.proofs.ConjunctsOf.{all-both}
use Rattle.list_laws.proofs.Membership.{append-one}

pub all-anded : (p : Cond → Bool) → ((a b : Cond) → p (and a b) ≡ (p a && p b)) → (q : Cond) (cs : List Cond) → p (anded q cs) ≡ (p q && list_all p cs)
all-anded p h q [] = sym (yes (p q))
  where
    yes : (a : Bool) → (a && true) ≡ a
    yes true = refl
    yes false = refl
all-anded p h q (c ∷ cs) = all-anded p h (and q c) cs ∙ ap (λ z. z && list_all p cs) (h q c) ∙ assoc (p q) (p c) (list_all p cs)
  where
    assoc : (a b c : Bool) → ((a && b) && c) ≡ (a && (b && c))
    assoc true b c = refl
    assoc false b c = refl

pub any-anded : (p : Cond → Bool) → ((a b : Cond) → p (and a b) ≡ (p a || p b)) → (q : Cond) (cs : List Cond) → p q ≡ false → list_any p cs ≡ false → p (anded q cs) ≡ false
any-anded p h q [] a b = a
any-anded p h q (c ∷ cs) a b =
    let d = or_parts (p c) (list_any p cs) b in
    any-anded p h (and q c) cs (h q c ∙ or_from (p q) (p c) a d.0) d.1

pub all-each : {X Y : Type 0} (p : Y → Bool) (f : X → List Y) (xs : List X) → list_all p (flat_map f xs) ≡ list_all (λ x. list_all p (f x)) xs
all-each p f [] = refl
all-each p f (x ∷ xs) = all-both p (f x) (flat_map f xs) ∙ ap (λ z. list_all p (f x) && z) (all-each p f xs)

module _ (l r : ℕ) where
  -- what holds of each comparison holds of all
  pub all-sames : (p : Cond → Bool) (first w : ℕ) → ((k : ℕ) → first ≤ k → k < first + w → p (compare same (col l k) (col r k)) ≡ true) → list_all p (sames l r first w) ≡ true
  all-sames p first zero h = refl
  all-sames p first (suc w) h = and_from (p (compare same (col l first) (col r first))) (list_all p (sames l r (suc first) w)) (h first (omega arith) (omega arith)) (all-sames p (suc first) w (λ k a b. h k (omega arith) (omega arith)))

  pub all-whole : (p : Cond → Bool) → ((a b : Cond) → p (and a b) ≡ (p a && p b)) → (w : ℕ) → 1 ≤ w → ((k : ℕ) → 1 ≤ k → k ≤ w → p (compare same (col l k) (col r k)) ≡ true) → p (all_same l r w) ≡ true
  all-whole p h zero one each = absurd (omega arith)
  all-whole p h (suc w) one each =
      all-anded p h (compare same (col l 1) (col r 1)) (sames l r 2 w)
      ∙ and_from (p (compare same (col l 1) (col r 1))) (list_all p (sames l r 2 w)) (each 1 (omega arith) (omega arith)) (all-sames p 2 w (λ k a b. each k (omega arith) (omega arith)))

  any-sames : (p : Cond → Bool) (first w : ℕ) → ((k : ℕ) → p (compare same (col l k) (col r k)) ≡ false) → list_any p (sames l r first w) ≡ false
  any-sames p first zero h = refl
  any-sames p first (suc w) h = or_from (p (compare same (col l first) (col r first))) (list_any p (sames l r (suc first) w)) (h first) (any-sames p (suc first) w h)

  pub any-whole : (p : Cond → Bool) → ((a b : Cond) → p (and a b) ≡ (p a || p b)) → p always ≡ false → (w : ℕ) → ((k : ℕ) → p (compare same (col l k) (col r k)) ≡ false) → p (all_same l r w) ≡ false
  any-whole p h z zero each = z
  any-whole p h z (suc w) each = any-anded p h (compare same (col l 1) (col r 1)) (sames l r 2 w) (each 1) (any-sames p 2 w each)

-- columns of one quantifier
pub all-columns-from : (p : Term → Bool) (q first w : ℕ) → ((k : ℕ) → first ≤ k → k < first + w → p (col q k) ≡ true) → list_all p (columns_from q first w) ≡ true
all-columns-from p q first zero h = refl
all-columns-from p q first (suc w) h = and_from (p (col q first)) (list_all p (columns_from q (suc first) w)) (h first (omega arith) (omega arith)) (all-columns-from p q (suc first) w (λ k a b. h k (omega arith) (omega arith)))

pub any-columns-from : (p : Term → Bool) (q first w : ℕ) → ((k : ℕ) → p (col q k) ≡ false) → list_any p (columns_from q first w) ≡ false
any-columns-from p q first zero h = refl
any-columns-from p q first (suc w) h = or_from (p (col q first)) (list_any p (columns_from q (suc first) w)) (h first) (any-columns-from p q (suc first) w h)

-- ---- types

agree-known : (a : Option SqlType) (t : SqlType) → agree a (Some t) ≡ true → a ≡ Some t
agree-known None t h = absurd (let z : ⊥ = cc in z)
agree-known (Some Integer) Integer h = refl
agree-known (Some Integer) Varchar h = absurd (let z : ⊥ = cc in z)
agree-known (Some Varchar) Integer h = absurd (let z : ⊥ = cc in z)
agree-known (Some Varchar) Varchar h = refl

pub agree-all : (ks : List (Option SqlType)) (types : List SqlType) → all_agree ks (known types) ≡ true → ks ≡ known types
agree-all [] [] h = refl
agree-all [] (t ∷ types) h = absurd (let z : ⊥ = cc in z)
agree-all (a ∷ ks) [] h = absurd (let z : ⊥ = cc in z)
agree-all (a ∷ ks) (t ∷ types) h = let d = and_parts (agree a (Some t)) (all_agree ks (known types)) h in ap₂ (λ x xs. x ∷ xs) (agree-known a t d.0) (agree-all ks types d.1)

pub agree-self : (t : SqlType) → agree (Some t) (Some t) ≡ true
agree-self Integer = refl
agree-self Varchar = refl

pub get-behind : {X : Type 0} (pre : List X) (x : X) (xs : List X) → slice_get (pre ++ x ∷ xs) (length pre) ≡ Some x
get-behind [] x xs = refl
get-behind (y ∷ pre) x xs = get-behind pre x xs

pub map-both : {X Y : Type 0} (f : X → Y) (xs ys : List X) → map f (xs ++ ys) ≡ map f xs ++ map f ys
map-both f [] ys = refl
map-both f (x ∷ xs) ys = ap (λ z. f x ∷ z) (map-both f xs ys)

-- the type of each column is known
abbrev pub KnownAt : Lookup → ℕ → List SqlType → Type 0
KnownAt at q types = (pre : List SqlType) (t : SqlType) (rest : List SqlType) → types ≡ pre ++ t ∷ rest → at q (suc (length pre)) ≡ Some t

pub types-from : (at : Lookup) (q : ℕ) (types : List SqlType) → KnownAt at q types → (pre rest : List SqlType) → types ≡ pre ++ rest → map (λ x. term_type at x) (columns_from q (suc (length pre)) (length rest)) ≡ known rest
types-from at q types h pre [] e = refl
types-from at q types h pre (t ∷ rest) e =
    ap₂ (λ x xs. x ∷ xs) (h pre t rest e)
    (ap (λ z. map (λ x. term_type at x) (columns_from q (suc z) (length rest))) (sym (length-one pre t)) ∙ types-from at q types h (pre ++ t ∷ []) rest (e ∙ sym (append-one pre t rest)))

pub all-known : (types : List SqlType) → list_all is_known (known types) ≡ true
all-known [] = refl
all-known (t ∷ types) = all-known types

pub known-each : (at : Lookup) (xs : List Term) → list_all (λ x. is_known (term_type at x)) xs ≡ list_all is_known (map (λ x. term_type at x) xs)
known-each at [] = refl
known-each at (x ∷ xs) = ap (λ z. is_known (term_type at x) && z) (known-each at xs)

-- each place within a list is behind some of it
pub placed-at : {X : Type 0} (xs : List X) (k : ℕ) → 1 ≤ k → k ≤ length xs → (pre : List X) × ((x : X) × ((rest : List X) × ((xs ≡ pre ++ x ∷ rest) × (k ≡ suc (length pre)))))
placed-at [] k a b = absurd (omega (arith, a, b))
placed-at (x ∷ xs) zero a b = absurd (omega (arith, a))
placed-at (x ∷ xs) (suc zero) a b = ([], (x, (xs, (refl, refl))))
placed-at (x ∷ xs) (suc (suc k)) a b =
    let h = placed-at xs (suc k) (omega arith) (let p : length (x ∷ xs) ≡ suc (length xs) = refl in omega (arith, p, b)) in
    (x ∷ h.0, (h.1.0, (h.1.1.0, (ap (λ z. x ∷ z) h.1.1.1.0, ap suc h.1.1.1.1))))
