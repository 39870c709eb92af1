-- Types of the terms that feeding makes.
use Rattle.std.proofs.Common.{ℕ, zero, suc, ◌==◌, ◌≡◌, ◌&&◌, ◌||◌, ◌+◌, ◌<◌, cond, Bool, true, false, List, [], ◌∷◌, ◌++◌, map, length, get_or, Option, Some, None, refl, sym, ap, ap₂, subst, ◌∙◌, arith}
use Rattle.std.specs.Prelude.{slice_get}
use Rattle.std.specs.List.{list_all}
use Rattle.std.proofs.lemmas.Bool.{and_from, and_parts, or_left, or_parts, or_right}
use Rattle.sql_value.specs.declared.order_key.SqlType.{SqlType}
use Rattle.sql_value.specs.declared.order_key.SqlType.TheVariants.{Integer, Varchar}
use Rattle.qgm_core.specs.declared.kinds.BoxKind.{BoxKind}
use Rattle.qgm_core.specs.declared.kinds.BoxKind.TheVariants.{Base, Select, Group, SetOp, OuterJoin}
use Rattle.qgm_terms.specs.Terms as t
use Rattle.qgm_terms.specs.Terms.{Arms, Cond, Term, col, same}
use Rattle.qgm_terms.specs.Wanted.{any_in, any_in_arms, any_in_cond}
use Rattle.qgm_meaning.specs.Tags.{columns_from}
use Rattle.qgm_wellformed.specs.Types.{Lookup, agree, aggregate_type, arms_fit, cond_fits, integer_if, is_integer, is_known, joined_column, known, op_type, sign_fits, term_type, type_if, types_by}
use Rattle.qgm_edit_laws.specs.FormedAdds.{of_column}
use Rattle.rule_feed.specs.Feed.{all_of, conj, fed_arms, fed_cond, fed_term, how_many, joins, nodes_of, nodes_of_arms, nodes_of_cond, picked, put_cells, up}
use Rattle.list_laws.proofs.Membership.{eq-itself}
use Rattle.list_laws.proofs.Booleans.{clash}

abbrev pub Ts : Type 0
Ts = List (Option SqlType)

-- ---- lists of types

pub get-behind : (cs os : Ts) (m z : ℕ) → z ≡ length cs + m → slice_get (cs ++ os) z ≡ slice_get os m
get-behind [] os m z e = ap (slice_get os) (let k : z ≡ m = omega (arith, e) in k)
get-behind (a ∷ cs) os m zero e = absurd (omega (arith, e))
get-behind (a ∷ cs) os m (suc z) e = get-behind cs os m z (omega (arith, e))

pub get-before : (cs os : Ts) (m : ℕ) → m < length cs → slice_get (cs ++ os) m ≡ slice_get cs m
get-before [] os m h = absurd (omega arith)
get-before (a ∷ cs) os zero h = refl
get-before (a ∷ cs) os (suc m) h = get-before cs os m (omega arith)

pub known-at : (ts : Ts) (m : ℕ) → list_all is_known ts ≡ true → m < length ts → is_known (joined_column (slice_get ts m)) ≡ true
known-at [] m h o = absurd (omega arith)
known-at (a ∷ cs) zero h o = (and_parts (is_known a) (list_all is_known cs) h).0
known-at (a ∷ cs) (suc m) h o = known-at cs m (and_parts (is_known a) (list_all is_known cs) h).1 (omega arith)

pub known-map : (at : Lookup) (xs : List Term) → list_all is_known (map (term_type at) xs) ≡ list_all (λ x. is_known (term_type at x)) xs
known-map at [] = refl
known-map at (x ∷ xs) = ap (λ b. is_known (term_type at x) && b) (known-map at xs)

pub known-by : (at : Lookup) (k : BoxKind) (head : List Term) → list_all (λ x. is_known (term_type at x)) head ≡ true → list_all is_known (types_by at k head) ≡ true
known-by at (Base table) head h = all table.types
  where
    all : (ts : List SqlType) → list_all is_known (known ts) ≡ true
    all [] = refl
    all (t ∷ ts) = all ts
known-by at Select head h = known-map at head ∙ h
known-by at (Group keys) head h = known-map at head ∙ h
known-by at (SetOp operator types) head h = all types
  where
    all : (ts : List SqlType) → list_all is_known (known ts) ≡ true
    all [] = refl
    all (t ∷ ts) = all ts
known-by at OuterJoin head h = known-map at head ∙ h

-- all columns have the types, in order
pub all-columns : (at : Lookup) (q : ℕ) (ts : Ts) (k : ℕ) → ((m z : ℕ) → z ≡ m + k → at q z ≡ joined_column (slice_get ts m)) → map (term_type at) (columns_from q k (length ts)) ≡ ts
all-columns at q [] k h = refl
all-columns at q (a ∷ cs) k h = ap₂ (λ (y : Option SqlType) (ys : Ts). y ∷ ys) (h zero k (omega arith)) (all-columns at q cs (suc k) (λ m z e. h (suc m) z (omega (arith, e))))

pub length-types : (at : Lookup) (xs : List Term) → length (map (term_type at) xs) ≡ length xs
length-types at [] = refl
length-types at (x ∷ xs) = ap suc (length-types at xs)

pub all-types : (p : Term → Bool) (xs : List Term) → ((x : Term) → p x ≡ true) → list_all p xs ≡ true
all-types p [] h = refl
all-types p (x ∷ xs) h = and_from (p x) (list_all p xs) (h x) (all-types p xs h)

module _ (at ml : Lookup) (named : ℕ → Bool) (mq : ℕ) where
  -- the types of the named columns, from place k on
  abbrev pub tags : ℕ → ℕ → Ts
  tags k w = map (term_type ml) (picked named mq k w)

  pub picked-types : (w k : ℕ) → ((m : ℕ) → at mq m ≡ ml mq m) → map (term_type at) (picked named mq k w) ≡ tags k w
  picked-types zero k h = refl
  picked-types (suc w) k h = elim (named k) as (λ b. map (term_type at) (cond b (col mq k ∷ picked named mq (suc k) w) (picked named mq (suc k) w)) ≡ map (term_type ml) (cond b (col mq k ∷ picked named mq (suc k) w) (picked named mq (suc k) w))) [
    | true ↦ ap₂ (λ (y : Option SqlType) (ys : Ts). y ∷ ys) (h k) (picked-types w (suc k) h)
    | false ↦ picked-types w (suc k) h
  ]

  pub tags-known : (w k : ℕ) → ((m z : ℕ) → z ≡ m + k → m < w → is_known (ml mq z) ≡ true) → list_all is_known (tags k w) ≡ true
  tags-known zero k h = refl
  tags-known (suc w) k h =
      let rest : list_all is_known (tags (suc k) w) ≡ true = tags-known w (suc k) (λ m z e o. h (suc m) z (omega (arith, e)) (omega (arith, o))) in
      elim (named k) as (λ b. list_all is_known (map (term_type ml) (cond b (col mq k ∷ picked named mq (suc k) w) (picked named mq (suc k) w))) ≡ true) [
        | true ↦ and_from (is_known (ml mq k)) (list_all is_known (tags (suc k) w)) (h zero k (omega arith) (omega arith)) rest
        | false ↦ rest
      ]

  -- what stands for a named column has its type
  pub put-type : (q w k j m z : ℕ) → z ≡ m + k → ((l y : ℕ) → y ≡ l + j → at q y ≡ joined_column (slice_get (tags k w) l)) → named z ≡ true → m < w → term_type at (get_or (put_cells named q k j w) m t.null_int) ≡ ml mq z
  put-type q zero k j m z s h e o = absurd (omega arith)
  put-type q (suc w) k j zero z s h e o =
      let same : k ≡ z = omega (arith, s) in
      elim (named k) as (λ b. named k ≡ b → ((l y : ℕ) → y ≡ l + j → at q y ≡ joined_column (slice_get (map (term_type ml) (cond b (col mq k ∷ picked named mq (suc k) w) (picked named mq (suc k) w))) l))
      → term_type at (get_or (cond b (col q j ∷ put_cells named q (suc k) (suc j) w) (t.null_int ∷ put_cells named q (suc k) j w)) zero t.null_int) ≡ ml mq z) [
        | true ↦ λ f h. h zero j (omega arith) ∙ ap (ml mq) same
        | false ↦ λ f h. absurd (clash (named z) e (subst (λ y. named y ≡ false) same f))
      ] refl h
  put-type q (suc w) k j (suc m) z s h e o =
      elim (named k) as (λ b. ((l y : ℕ) → y ≡ l + j → at q y ≡ joined_column (slice_get (map (term_type ml) (cond b (col mq k ∷ picked named mq (suc k) w) (picked named mq (suc k) w))) l))
      → term_type at (get_or (cond b (col q j ∷ put_cells named q (suc k) (suc j) w) (t.null_int ∷ put_cells named q (suc k) j w)) (suc m) t.null_int) ≡ ml mq z) [
        | true ↦ λ h. put-type q w (suc k) (suc j) m z (omega (arith, s)) (λ l y u. h (suc l) y (omega (arith, u))) e (omega (arith, o))
        | false ↦ λ h. put-type q w (suc k) j m z (omega (arith, s)) h e (omega (arith, o))
      ] h

  agree-itself : (a : Option SqlType) → is_known a ≡ true → agree a a ≡ true
  agree-itself None h = h
  agree-itself (Some Integer) h = refl
  agree-itself (Some Varchar) h = refl

  -- the join compares what has one type
  pub joins-fit : (p i w k j : ℕ) → ((l y : ℕ) → y ≡ l + j → l < how_many named k w → at i y ≡ joined_column (slice_get (tags k w) l)) → ((m z : ℕ) → z ≡ m + k → m < w → (at p z ≡ ml mq z) × (is_known (ml mq z) ≡ true)) → list_all (cond_fits at) (joins named p i k j w) ≡ true
  joins-fit p i zero k j h g = refl
  joins-fit p i (suc w) k j h g =
      let rest : (m z : ℕ) → z ≡ m + suc k → m < w → (at p z ≡ ml mq z) × (is_known (ml mq z) ≡ true) = (λ m z e o. g (suc m) z (omega (arith, e)) (omega (arith, o))) in
      elim (named k) as (λ b. ((l y : ℕ) → y ≡ l + j → l < cond b (suc (how_many named (suc k) w)) (how_many named (suc k) w) → at i y ≡ joined_column (slice_get (map (term_type ml) (cond b (col mq k ∷ picked named mq (suc k) w) (picked named mq (suc k) w))) l))
      → list_all (cond_fits at) (cond b (t.compare same (col p k) (col i j) ∷ joins named p i (suc k) (suc j) w) (joins named p i (suc k) j w)) ≡ true) [
        | true ↦ λ h. (
            let z = g zero k (omega arith) (omega arith) in
            and_from (agree (at p k) (at i j)) (list_all (cond_fits at) (joins named p i (suc k) (suc j) w)) (ap₂ agree z.0 (h zero j (omega arith) (omega arith)) ∙ agree-itself (ml mq k) z.1)
            (joins-fit p i w (suc k) (suc j) (λ l y e o. h (suc l) y (omega (arith, e)) (omega (arith, o))) rest))
        | false ↦ λ h. joins-fit p i w (suc k) j h rest
      ] h

conj-fits : (at : Lookup) (x : Cond) (ys : List Cond) → cond_fits at x ≡ true → list_all (cond_fits at) ys ≡ true → cond_fits at (conj x ys) ≡ true
conj-fits at x [] h k = h
conj-fits at x (y ∷ ys) h k = let a = and_parts (cond_fits at y) (list_all (cond_fits at) ys) k in conj-fits at (t.and x y) ys (and_from (cond_fits at x) (cond_fits at y) h a.0) a.1

pub all-fits : (at : Lookup) (ys : List Cond) → list_all (cond_fits at) ys ≡ true → cond_fits at (all_of ys) ≡ true
all-fits at [] h = refl
all-fits at (y ∷ ys) h = let a = and_parts (cond_fits at y) (list_all (cond_fits at) ys) h in conj-fits at y ys a.0 a.1

-- ---- terms of b

and-true : (a b : Bool) → a ≡ true → (a && b) ≡ b
and-true a b h = ap (λ z. z && b) h

module _ (at now : Lookup) (i p n : ℕ) (k : Cond) (fit : cond_fits now k ≡ true) where
  -- the type of what stands for column j of r is the same
  abbrev pub Kept : ℕ → ℕ → Type 0
  Kept r j = now r (cond (r == i) (up n j) j) ≡ at r j

  mutual
    pub term-fed : (x : Term) → nodes_of i p x ≡ false → ((r j : ℕ) → any_in (of_column r j) x ≡ true → Kept r j) → term_type now (fed_term i n k x) ≡ term_type at x
    term-fed (t.int m) h f = refl
    term-fed (t.text s) h f = refl
    term-fed t.null_int h f = refl
    term-fed t.null_text h f = refl
    term-fed (t.col r j) h f = elim (r == i) as (λ b. now r (cond b (up n j) j) ≡ at r j → term_type now (cond b (col r (up n j)) (col r j)) ≡ at r j) [
      | true ↦ λ e. e
      | false ↦ λ e. e
    ] (f r j (and_from (r == r) (j == j) (eq-itself r) (eq-itself j)))
    term-fed (t.scalar r) h f = ap (λ b. now r (cond b (up n 1) 1)) (sym h) ∙ f r 1 (and_from (r == r) (1 == 1) (eq-itself r) refl)
    term-fed (t.both op x y) h f =
        let u = or_parts (nodes_of i p x) (nodes_of i p y) h in
        ap₂ (op_type op) (term-fed x u.0 (λ q k i. f q k (or_left (any_in (of_column q k) x) (any_in (of_column q k) y) i))) (term-fed y u.1 (λ q k i. f q k (or_right (any_in (of_column q k) x) (any_in (of_column q k) y) i)))
    term-fed (t.minus_of x) h f = ap (λ z. integer_if (is_integer z)) (term-fed x h f)
    term-fed (t.choose s x) h f =
        let u = or_parts (nodes_of_arms i p s) (nodes_of i p x) h in
        let e = term-fed x u.1 (λ q k i. f q k (or_right (any_in_arms (of_column q k) s) (any_in (of_column q k) x) i)) in
        ap₂ type_if (arms-fed s u.0 (λ q k i. f q k (or_left (any_in_arms (of_column q k) s) (any_in (of_column q k) x) i)) (term_type now (fed_term i n k x)) (term_type at x) e) e
    term-fed t.count_all h f = refl
    term-fed (t.fold a e x) h f = ap (aggregate_type a) (term-fed x h f)

    arms-fed : (s : Arms) → nodes_of_arms i p s ≡ false → ((r j : ℕ) → any_in_arms (of_column r j) s ≡ true → Kept r j) → (a b : Option SqlType) → a ≡ b → arms_fit now a (fed_arms i n k s) ≡ arms_fit at b s
    arms-fed t.no_arm h f a b e = refl
    arms-fed (t.arm c x s) h f a b e =
        let u = or_parts (nodes_of_cond i p c) (nodes_of i p x || nodes_of_arms i p s) h in
        let v = or_parts (nodes_of i p x) (nodes_of_arms i p s) u.1 in
        ap₂ ◌&&◌ (cond-fed c u.0 (λ q k i. f q k (or_left (any_in_cond (of_column q k) c) (any_in (of_column q k) x || any_in_arms (of_column q k) s) i)))
        (ap₂ ◌&&◌ (ap₂ agree (term-fed x v.0 (λ q k i. f q k (or_right (any_in_cond (of_column q k) c) (any_in (of_column q k) x || any_in_arms (of_column q k) s) (or_left (any_in (of_column q k) x) (any_in_arms (of_column q k) s) i)))) e)
        (arms-fed s v.1 (λ q k i. f q k (or_right (any_in_cond (of_column q k) c) (any_in (of_column q k) x || any_in_arms (of_column q k) s) (or_right (any_in (of_column q k) x) (any_in_arms (of_column q k) s) i))) a b e))

    pub cond-fed : (c : Cond) → nodes_of_cond i p c ≡ false → ((r j : ℕ) → any_in_cond (of_column r j) c ≡ true → Kept r j) → cond_fits now (fed_cond i n k c) ≡ cond_fits at c
    cond-fed t.always h f = refl
    cond-fed (t.compare sign x y) h f =
        let u = or_parts (nodes_of i p x) (nodes_of i p y) h in
        ap₂ (sign_fits sign) (term-fed x u.0 (λ q k i. f q k (or_left (any_in (of_column q k) x) (any_in (of_column q k) y) i))) (term-fed y u.1 (λ q k i. f q k (or_right (any_in (of_column q k) x) (any_in (of_column q k) y) i)))
    cond-fed (t.is_null x) h f = ap is_known (term-fed x h f)
    cond-fed (t.and c d) h f =
        let u = or_parts (nodes_of_cond i p c) (nodes_of_cond i p d) h in
        ap₂ ◌&&◌ (cond-fed c u.0 (λ q k i. f q k (or_left (any_in_cond (of_column q k) c) (any_in_cond (of_column q k) d) i))) (cond-fed d u.1 (λ q k i. f q k (or_right (any_in_cond (of_column q k) c) (any_in_cond (of_column q k) d) i)))
    cond-fed (t.or c d) h f =
        let u = or_parts (nodes_of_cond i p c) (nodes_of_cond i p d) h in
        ap₂ ◌&&◌ (cond-fed c u.0 (λ q k i. f q k (or_left (any_in_cond (of_column q k) c) (any_in_cond (of_column q k) d) i))) (cond-fed d u.1 (λ q k i. f q k (or_right (any_in_cond (of_column q k) c) (any_in_cond (of_column q k) d) i)))
    cond-fed (t.not c) h f = cond-fed c h f
    cond-fed (t.some r c) h f =
        let u = or_parts (r == p) (nodes_of_cond i p c) h in
        elim (r == i) as (λ b. cond_fits now (cond b (t.and k (fed_cond i n k c)) (fed_cond i n k c)) ≡ cond_fits at c) [
          | true ↦ and-true (cond_fits now k) (cond_fits now (fed_cond i n k c)) fit ∙ cond-fed c u.1 f
          | false ↦ cond-fed c u.1 f
        ]
    cond-fed (t.every r c) h f =
        let u = or_parts (r == p) (nodes_of_cond i p c) h in
        elim (r == i) as (λ b. cond_fits now (cond b (t.or (t.not k) (fed_cond i n k c)) (fed_cond i n k c)) ≡ cond_fits at c) [
          | true ↦ and-true (cond_fits now k) (cond_fits now (fed_cond i n k c)) fit ∙ cond-fed c u.1 f
          | false ↦ cond-fed c u.1 f
        ]
