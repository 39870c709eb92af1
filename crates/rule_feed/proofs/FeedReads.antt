-- What is found in cells and conditions after feeding.
use Rattle.std.specs.Prelude as prelude
use Rattle.std.proofs.Common.{ℕ, zero, suc, ◌==◌, ◌≡◌, ◌&&◌, ◌||◌, ◌+◌, ◌≤◌, ◌<◌, cond, Bool, true, false, List, [], ◌∷◌, map, length, get_or, refl, sym, ap, subst, ◌∙◌, eqb-true, ◌⊎◌, inl, inr, arith}
use Rattle.std.specs.List.{list_any}
use Rattle.std.proofs.lemmas.Bool.{and_from, and_parts, cases_Bool, or_cases, or_left, or_right}
use Rattle.qgm_terms.specs.Terms.{Term, int, text, null_int, null_text, col, both, minus_of, choose, count_all, fold, scalar, Arms, no_arm, arm, Cond, always, compare, is_null, and, or, not, some, every, same}
use Rattle.qgm_terms.specs.Substitution.{cell_at}
use Rattle.qgm_terms.specs.Wanted.{Wanted, any_in, any_in_arms, any_in_cond, reads_at, reads_at_cond}
use Rattle.qgm_meaning.specs.Searches.{looking, reads_at_arms}
use Rattle.qgm_meaning.specs.Tags.{columns_from}
use Rattle.rule_feed.specs.Feed.{all_of, conj, fed_arms, fed_cond, fed_term, how_many, joins, picked, put_cells, up}

module _ (i n : ℕ) (k : Cond) (column before : ℕ → ℕ → Bool) (cell node enter : ℕ → Bool) (hc : (r j : ℕ) → (r == i) ≡ false → column r j ≡ true → before r j ≡ true) (hi : (j : ℕ) → column i (up n j) ≡ true → before i j ≡ true) where
  abbrev found : Cond → Bool
  found = any_in_cond (looking column cell node enter)

  abbrev X : Type 0
  X = (enter i ≡ true) × (any_in_cond (looking column cell node enter) k ≡ true)

  -- it was there, or is found in the join
  abbrev pub Was : Bool → Type 0
  Was b = (b ≡ true) ⊎ ((enter i ≡ true) × (any_in_cond (looking column cell node enter) k ≡ true))

  parts : (a b c d : Bool) → (a || b) ≡ true → (a ≡ true → Was c) → (b ≡ true → Was d) → Was (c || d)
  parts a b c d t h l = elim (or_cases a b t) [
    | inl u ↦ elim (h u) [ inl z ↦ inl (or_left c d z) | inr z ↦ inr z ]
    | inr u ↦ elim (l u) [ inl z ↦ inl (or_right c d z) | inr z ↦ inr z ]
  ]

  within : (r : ℕ) (c : Cond) (b : Bool) → (node r || (enter r && any_in_cond (looking column cell node enter) c)) ≡ true → ((enter r ≡ true) → any_in_cond (looking column cell node enter) c ≡ true → Was b) → Was (node r || (enter r && b))
  within r c b t h = elim (or_cases (node r) (enter r && any_in_cond (looking column cell node enter) c) t) [
    | inl u ↦ inl (or_left (node r) (enter r && b) u)
    | inr u ↦ (
        let z = and_parts (enter r) (any_in_cond (looking column cell node enter) c) u in
        elim (h z.0 z.1) [ inl y ↦ inl (or_right (node r) (enter r && b) (and_from (enter r) b z.0 y)) | inr y ↦ inr y ])
  ]

  node-was : (b : Bool) (r : ℕ) (old : Bool) (c d : Cond) → (r == i) ≡ b → (any_in_cond (looking column cell node enter) d ≡ true → (any_in_cond (looking column cell node enter) k ≡ true) ⊎ (any_in_cond (looking column cell node enter) c ≡ true))
      → (any_in_cond (looking column cell node enter) c ≡ true → Was old) → (node r || (enter r && any_in_cond (looking column cell node enter) (cond b d c))) ≡ true → Was (node r || (enter r && old))
  node-was true r old c d e h rec t = within r d old t (λ en u. elim (h u) [ inl z ↦ inr (subst (λ y. enter y ≡ true) (eqb-true r i e) en, z) | inr z ↦ rec z ])
  node-was false r old c d e h rec t = within r c old t (λ en u. rec u)

  mutual
    term-was : (x : Term) → any_in (looking column cell node enter) (fed_term i n k x) ≡ true → Was (any_in (looking before cell node enter) x)
    term-was (int m) t = absurd (let z : ⊥ = cc in z)
    term-was (text s) t = absurd (let z : ⊥ = cc in z)
    term-was null_int t = absurd (let z : ⊥ = cc in z)
    term-was null_text t = absurd (let z : ⊥ = cc in z)
    term-was (col r j) t = elim (cases_Bool (r == i)) [
      | inl u ↦ inl (subst (λ z. before z j ≡ true) (sym (eqb-true r i u)) (hi j (subst (λ z. column z (up n j) ≡ true) (eqb-true r i u) (sym (ap (λ (b : Bool). any_in (looking column cell node enter) (cond b (col r (up n j)) (col r j))) u) ∙ t))))
      | inr u ↦ inl (hc r j u (sym (ap (λ (b : Bool). any_in (looking column cell node enter) (cond b (col r (up n j)) (col r j))) u) ∙ t))
    ]
    term-was (both o x y) t =
        parts (any_in (looking column cell node enter) (fed_term i n k x)) (any_in (looking column cell node enter) (fed_term i n k y)) (any_in (looking before cell node enter) x) (any_in (looking before cell node enter) y) t (term-was x) (term-was y)
    term-was (minus_of x) t = term-was x t
    term-was (choose s x) t =
        parts (any_in_arms (looking column cell node enter) (fed_arms i n k s)) (any_in (looking column cell node enter) (fed_term i n k x)) (any_in_arms (looking before cell node enter) s) (any_in (looking before cell node enter) x) t (arms-was s) (term-was x)
    term-was count_all t = absurd (let z : ⊥ = cc in z)
    term-was (fold f d x) t = term-was x t
    term-was (scalar r) t = inl t

    arms-was : (s : Arms) → any_in_arms (looking column cell node enter) (fed_arms i n k s) ≡ true → Was (any_in_arms (looking before cell node enter) s)
    arms-was no_arm t = absurd (let z : ⊥ = cc in z)
    arms-was (arm c x s) t =
        parts (any_in_cond (looking column cell node enter) (fed_cond i n k c)) (any_in (looking column cell node enter) (fed_term i n k x) || any_in_arms (looking column cell node enter) (fed_arms i n k s))
        (any_in_cond (looking before cell node enter) c) (any_in (looking before cell node enter) x || any_in_arms (looking before cell node enter) s) t (cond-was c)
        (λ u. parts (any_in (looking column cell node enter) (fed_term i n k x)) (any_in_arms (looking column cell node enter) (fed_arms i n k s)) (any_in (looking before cell node enter) x) (any_in_arms (looking before cell node enter) s) u (term-was x) (arms-was s))

    cond-was : (c : Cond) → any_in_cond (looking column cell node enter) (fed_cond i n k c) ≡ true → Was (any_in_cond (looking before cell node enter) c)
    cond-was always t = absurd (let z : ⊥ = cc in z)
    cond-was (compare s x y) t =
        parts (any_in (looking column cell node enter) (fed_term i n k x)) (any_in (looking column cell node enter) (fed_term i n k y)) (any_in (looking before cell node enter) x) (any_in (looking before cell node enter) y) t (term-was x) (term-was y)
    cond-was (is_null x) t = term-was x t
    cond-was (and c d) t =
        parts (any_in_cond (looking column cell node enter) (fed_cond i n k c)) (any_in_cond (looking column cell node enter) (fed_cond i n k d)) (any_in_cond (looking before cell node enter) c) (any_in_cond (looking before cell node enter) d) t (cond-was c) (cond-was d)
    cond-was (or c d) t =
        parts (any_in_cond (looking column cell node enter) (fed_cond i n k c)) (any_in_cond (looking column cell node enter) (fed_cond i n k d)) (any_in_cond (looking before cell node enter) c) (any_in_cond (looking before cell node enter) d) t (cond-was c) (cond-was d)
    cond-was (not c) t = cond-was c t
    cond-was (some r c) t = node-was (r == i) r (any_in_cond (looking before cell node enter) c) (fed_cond i n k c) (and k (fed_cond i n k c)) refl (λ u. or_cases (any_in_cond (looking column cell node enter) k) (any_in_cond (looking column cell node enter) (fed_cond i n k c)) u) (cond-was c) t
    cond-was (every r c) t = node-was (r == i) r (any_in_cond (looking before cell node enter) c) (fed_cond i n k c) (or (not k) (fed_cond i n k c)) refl (λ u. or_cases (any_in_cond (looking column cell node enter) k) (any_in_cond (looking column cell node enter) (fed_cond i n k c)) u) (cond-was c) t

  pub terms-was : (xs : List Term) → list_any (any_in (looking column cell node enter)) (map (fed_term i n k) xs) ≡ true → Was (list_any (any_in (looking before cell node enter)) xs)
  terms-was [] t = absurd (let z : ⊥ = cc in z)
  terms-was (x ∷ xs) t =
      parts (any_in (looking column cell node enter) (fed_term i n k x)) (list_any (any_in (looking column cell node enter)) (map (fed_term i n k) xs)) (any_in (looking before cell node enter) x) (list_any (any_in (looking before cell node enter)) xs) t (term-was x) (terms-was xs)

  pub conds-was : (xs : List Cond) → list_any (any_in_cond (looking column cell node enter)) (map (fed_cond i n k) xs) ≡ true → Was (list_any (any_in_cond (looking before cell node enter)) xs)
  conds-was [] t = absurd (let z : ⊥ = cc in z)
  conds-was (x ∷ xs) t =
      parts (any_in_cond (looking column cell node enter) (fed_cond i n k x)) (list_any (any_in_cond (looking column cell node enter)) (map (fed_cond i n k) xs)) (any_in_cond (looking before cell node enter) x) (list_any (any_in_cond (looking before cell node enter)) xs) t (cond-was x) (conds-was xs)

-- ---- the join

pub conj-any : (s : Wanted) (ys : List Cond) (x : Cond) → any_in_cond s (conj x ys) ≡ true → (any_in_cond s x ≡ true) ⊎ (list_any (any_in_cond s) ys ≡ true)
conj-any s [] x t = inl t
conj-any s (y ∷ ys) x t = elim (conj-any s ys (and x y) t) [
  | inl a ↦ elim (or_cases (any_in_cond s x) (any_in_cond s y) a) [ inl z ↦ inl z | inr z ↦ inr (or_left (any_in_cond s y) (list_any (any_in_cond s) ys) z) ]
  | inr a ↦ inr (or_right (any_in_cond s y) (list_any (any_in_cond s) ys) a)
]

pub all_of-any : (s : Wanted) (ys : List Cond) → any_in_cond s (all_of ys) ≡ true → list_any (any_in_cond s) ys ≡ true
all_of-any s [] t = t
all_of-any s (y ∷ ys) t = elim (conj-any s ys y t) [ inl a ↦ or_left (any_in_cond s y) (list_any (any_in_cond s) ys) a | inr a ↦ or_right (any_in_cond s y) (list_any (any_in_cond s) ys) a ]

-- a column of p that is named and in range, or one of i from place j on
pub joins-any : (s : Wanted) (named : ℕ → Bool) (p i w k j : ℕ) → list_any (any_in_cond s) (joins named p i k j w) ≡ true
    → ((m : ℕ) × ((s.column p m ≡ true) × ((named m ≡ true) × ((k ≤ m) × (m < k + w))))) ⊎ ((m : ℕ) × ((s.column i m ≡ true) × ((j ≤ m) × (m < j + how_many named k w))))
joins-any s named p i zero k j t = absurd (let z : ⊥ = cc in z)
joins-any s named p i (suc w) k j t = elim (named k) as (λ b. named k ≡ b → list_any (any_in_cond s) (cond b (compare same (col p k) (col i j) ∷ joins named p i (suc k) (suc j) w) (joins named p i (suc k) j w)) ≡ true
    → ((m : ℕ) × ((s.column p m ≡ true) × ((named m ≡ true) × ((k ≤ m) × (m < k + suc w))))) ⊎ ((m : ℕ) × ((s.column i m ≡ true) × ((j ≤ m) × (m < j + cond b (suc (how_many named (suc k) w)) (how_many named (suc k) w)))))) [
      | true ↦ λ e t. elim (or_cases (s.column p k || s.column i j) (list_any (any_in_cond s) (joins named p i (suc k) (suc j) w)) t) [
        | inl a ↦ elim (or_cases (s.column p k) (s.column i j) a) [ inl z ↦ inl (k, (z, (e, (omega arith, omega arith)))) | inr z ↦ inr (j, (z, (omega arith, omega arith))) ]
        | inr a ↦ elim (joins-any s named p i w (suc k) (suc j) a) [
          | inl z ↦ (let u = z.1.1.1.0 in let v = z.1.1.1.1 in inl (z.0, (z.1.0, (z.1.1.0, (omega (arith, u), omega (arith, v))))))
          | inr z ↦ (let u = z.1.1.0 in let v = z.1.1.1 in inr (z.0, (z.1.0, (omega (arith, u), omega (arith, v)))))
        ]
      ]
      | false ↦ λ e t. elim (joins-any s named p i w (suc k) j t) [
        | inl z ↦ (let u = z.1.1.1.0 in let v = z.1.1.1.1 in inl (z.0, (z.1.0, (z.1.1.0, (omega (arith, u), omega (arith, v))))))
        | inr z ↦ inr z
      ]
    ] refl t

-- ---- cells that are put in

pub put-any : (P : Term → Bool) (named : ℕ → Bool) (q w k j m : ℕ) → P null_int ≡ false → P (get_or (put_cells named q k j w) m null_int) ≡ true → (l : ℕ) × ((P (col q l) ≡ true) × ((j ≤ l) × (l < j + how_many named k w)))
put-any P named q zero k j m h t = absurd (let z : ⊥ = cc in z)
put-any P named q (suc w) k j m h t = elim (named k) as (λ b. P (get_or (cond b (col q j ∷ put_cells named q (suc k) (suc j) w) (null_int ∷ put_cells named q (suc k) j w)) m null_int) ≡ true → (l : ℕ) × ((P (col q l) ≡ true) × ((j ≤ l) × (l < j + cond b (suc (how_many named (suc k) w)) (how_many named (suc k) w))))) [
  | true ↦ λ t. at m t (λ m t. put-any P named q w (suc k) (suc j) m h t)
  | false ↦ λ t. at-null m t (λ m t. put-any P named q w (suc k) j m h t)
] t
  where
    at : (m : ℕ) → P (get_or (col q j ∷ put_cells named q (suc k) (suc j) w) m null_int) ≡ true → ((m : ℕ) → P (get_or (put_cells named q (suc k) (suc j) w) m null_int) ≡ true → (l : ℕ) × ((P (col q l) ≡ true) × ((suc j ≤ l) × (l < suc j + how_many named (suc k) w)))) → (l : ℕ) × ((P (col q l) ≡ true) × ((j ≤ l) × (l < j + suc (how_many named (suc k) w))))
    at zero t rec = (j, (t, (omega arith, omega arith)))
    at (suc m) t rec = (let z = rec m t in let u = z.1.1.0 in let v = z.1.1.1 in (z.0, (z.1.0, (omega (arith, u), omega (arith, v)))))

    at-null : (m : ℕ) → P (get_or (null_int ∷ put_cells named q (suc k) j w) m null_int) ≡ true → ((m : ℕ) → P (get_or (put_cells named q (suc k) j w) m null_int) ≡ true → (l : ℕ) × ((P (col q l) ≡ true) × ((j ≤ l) × (l < j + how_many named (suc k) w)))) → (l : ℕ) × ((P (col q l) ≡ true) × ((j ≤ l) × (l < j + how_many named (suc k) w)))
    at-null zero t rec = absurd (let z : ⊥ = cc in z)
    at-null (suc m) t rec = rec m t

pub put-cell : (P : Term → Bool) (named : ℕ → Bool) (q w m : ℕ) → P null_int ≡ false → P (cell_at m (put_cells named q 1 1 w)) ≡ true → (l : ℕ) × ((P (col q l) ≡ true) × ((1 ≤ l) × (l ≤ how_many named 1 w)))
put-cell P named q w zero h t = absurd (let z : ⊥ = cc in z)
put-cell P named q w (suc m) h t = (let z = put-any P named q w 1 1 m h t in let v = z.1.1.1 in (z.0, (z.1.0, (z.1.1.0, omega (arith, v)))))

columns-any : (P : Term → Bool) (q v k m : ℕ) → P null_int ≡ false → P (get_or (columns_from q k v) m null_int) ≡ true → (P (col q (k + m)) ≡ true) × (m < v)
columns-any P q zero k m h t = absurd (let z : ⊥ = cc in z)
columns-any P q (suc v) k zero h t = (subst (λ z. P (col q z) ≡ true) (let e : k ≡ k + 0 = omega arith in e) t, omega arith)
columns-any P q (suc v) k (suc m) h t = (let z = columns-any P q v (suc k) m h t in let l = z.1 in (subst (λ y. P (col q y) ≡ true) (let e : suc k + m ≡ k + suc m = omega arith in e) z.0, omega (arith, l)))

-- of columns of q behind n others
pub columns-cell : (P : Term → Bool) (q v n m : ℕ) → P null_int ≡ false → P (cell_at m (columns_from q (suc n) v)) ≡ true → (P (col q (n + m)) ≡ true) × ((1 ≤ m) × (m ≤ v))
columns-cell P q v n zero h t = absurd (let z : ⊥ = cc in z)
columns-cell P q v n (suc m) h t = (let z = columns-any P q v (suc n) m h t in let l = z.1 in (subst (λ y. P (col q y) ≡ true) (let e : suc n + m ≡ n + suc m = omega arith in e) z.0, (omega arith, omega (arith, l))))

-- of all columns of q from place k on
pub columns-list : (P : Term → Bool) (q v k : ℕ) → list_any P (columns_from q k v) ≡ true → (m : ℕ) × ((P (col q m) ≡ true) × ((k ≤ m) × (m < k + v)))
columns-list P q zero k t = absurd (let z : ⊥ = cc in z)
columns-list P q (suc v) k t = elim (or_cases (P (col q k)) (list_any P (columns_from q (suc k) v)) t) [
  | inl a ↦ (k, (a, (omega arith, omega arith)))
  | inr a ↦ (let z = columns-list P q v (suc k) a in let u = z.1.1.0 in let l = z.1.1.1 in (z.0, (z.1.0, (omega (arith, u), omega (arith, l)))))
]

pub picked-list : (P : Term → Bool) (named : ℕ → Bool) (q w k : ℕ) → list_any P (picked named q k w) ≡ true → (m : ℕ) × ((P (col q m) ≡ true) × ((k ≤ m) × (m < k + w)))
picked-list P named q zero k t = absurd (let z : ⊥ = cc in z)
picked-list P named q (suc w) k t = elim (named k) as (λ b. list_any P (cond b (col q k ∷ picked named q (suc k) w) (picked named q (suc k) w)) ≡ true → (m : ℕ) × ((P (col q m) ≡ true) × ((k ≤ m) × (m < k + suc w)))) [
  | true ↦ λ t. elim (or_cases (P (col q k)) (list_any P (picked named q (suc k) w)) t) [
    | inl a ↦ (k, (a, (omega arith, omega arith)))
    | inr a ↦ (let z = picked-list P named q w (suc k) a in let u = z.1.1.0 in let l = z.1.1.1 in (z.0, (z.1.0, (omega (arith, u), omega (arith, l)))))
  ]
  | false ↦ λ t. (let z = picked-list P named q w (suc k) t in let u = z.1.1.0 in let l = z.1.1.1 in (z.0, (z.1.0, (omega (arith, u), omega (arith, l)))))
] t

pub length-picked : (named : ℕ → Bool) (q w k : ℕ) → length (picked named q k w) ≡ how_many named k w
length-picked named q zero k = refl
length-picked named q (suc w) k = elim (named k) as (λ b. length (cond b (col q k ∷ picked named q (suc k) w) (picked named q (suc k) w)) ≡ cond b (suc (how_many named (suc k) w)) (how_many named (suc k) w)) [
  | true ↦ ap suc (length-picked named q w (suc k))
  | false ↦ length-picked named q w (suc k)
]

-- ---- a column of i that is found is read

module _ (i : ℕ) (Q : ℕ → Bool) where
  abbrev pub Read : (ℕ → Bool) → Type 0
  Read at = (j : ℕ) × ((Q j ≡ true) × (at j ≡ true))

  either : (a b : Bool) (f g h : ℕ → Bool) → (a || b) ≡ true → (a ≡ true → Read f) → (b ≡ true → Read g) → ((j : ℕ) → f j ≡ true → h j ≡ true) → ((j : ℕ) → g j ≡ true → h j ≡ true) → Read h
  either a b f g h t l r u v = elim (or_cases a b t) [ inl z ↦ (let y = l z in (y.0, (y.1.0, u y.0 y.1.1))) | inr z ↦ (let y = r z in (y.0, (y.1.0, v y.0 y.1.1))) ]

  mutual
    term-read : (x : Term) → any_in (looking (λ r j. (r == i) && Q j) (λ r. false) (λ r. false) (λ r. prelude.not (r == i))) x ≡ true → Read (λ j. reads_at i j x)
    term-read (int m) t = absurd (let z : ⊥ = cc in z)
    term-read (text s) t = absurd (let z : ⊥ = cc in z)
    term-read null_int t = absurd (let z : ⊥ = cc in z)
    term-read null_text t = absurd (let z : ⊥ = cc in z)
    term-read (col r j) t = (let u = and_parts (r == i) (Q j) t in (j, (u.1, and_from (r == i) (j == j) u.0 (Rattle.list_laws.proofs.Membership.eq-itself j))))
    term-read (both o x y) t =
        either (any_in (looking (λ r j. (r == i) && Q j) (λ r. false) (λ r. false) (λ r. prelude.not (r == i))) x) (any_in (looking (λ r j. (r == i) && Q j) (λ r. false) (λ r. false) (λ r. prelude.not (r == i))) y)
        (λ j. reads_at i j x) (λ j. reads_at i j y) (λ j. reads_at i j x || reads_at i j y) t (term-read x) (term-read y) (λ j h. or_left (reads_at i j x) (reads_at i j y) h) (λ j h. or_right (reads_at i j x) (reads_at i j y) h)
    term-read (minus_of x) t = term-read x t
    term-read (choose s x) t =
        either (any_in_arms (looking (λ r j. (r == i) && Q j) (λ r. false) (λ r. false) (λ r. prelude.not (r == i))) s) (any_in (looking (λ r j. (r == i) && Q j) (λ r. false) (λ r. false) (λ r. prelude.not (r == i))) x)
        (λ j. reads_at_arms i j s) (λ j. reads_at i j x) (λ j. reads_at_arms i j s || reads_at i j x) t (arms-read s) (term-read x) (λ j h. or_left (reads_at_arms i j s) (reads_at i j x) h) (λ j h. or_right (reads_at_arms i j s) (reads_at i j x) h)
    term-read count_all t = absurd (let z : ⊥ = cc in z)
    term-read (fold f d x) t = term-read x t
    term-read (scalar r) t = absurd (let z : ⊥ = cc in z)

    arms-read : (s : Arms) → any_in_arms (looking (λ r j. (r == i) && Q j) (λ r. false) (λ r. false) (λ r. prelude.not (r == i))) s ≡ true → Read (λ j. reads_at_arms i j s)
    arms-read no_arm t = absurd (let z : ⊥ = cc in z)
    arms-read (arm c x s) t =
        either (any_in_cond (looking (λ r j. (r == i) && Q j) (λ r. false) (λ r. false) (λ r. prelude.not (r == i))) c)
        (any_in (looking (λ r j. (r == i) && Q j) (λ r. false) (λ r. false) (λ r. prelude.not (r == i))) x || any_in_arms (looking (λ r j. (r == i) && Q j) (λ r. false) (λ r. false) (λ r. prelude.not (r == i))) s)
        (λ j. reads_at_cond i j c) (λ j. reads_at i j x || reads_at_arms i j s) (λ j. reads_at_cond i j c || (reads_at i j x || reads_at_arms i j s)) t (cond-read c)
        (λ u. either (any_in (looking (λ r j. (r == i) && Q j) (λ r. false) (λ r. false) (λ r. prelude.not (r == i))) x) (any_in_arms (looking (λ r j. (r == i) && Q j) (λ r. false) (λ r. false) (λ r. prelude.not (r == i))) s)
        (λ j. reads_at i j x) (λ j. reads_at_arms i j s) (λ j. reads_at i j x || reads_at_arms i j s) u (term-read x) (arms-read s) (λ j h. or_left (reads_at i j x) (reads_at_arms i j s) h) (λ j h. or_right (reads_at i j x) (reads_at_arms i j s) h))
        (λ j h. or_left (reads_at_cond i j c) (reads_at i j x || reads_at_arms i j s) h) (λ j h. or_right (reads_at_cond i j c) (reads_at i j x || reads_at_arms i j s) h)

    cond-read : (c : Cond) → any_in_cond (looking (λ r j. (r == i) && Q j) (λ r. false) (λ r. false) (λ r. prelude.not (r == i))) c ≡ true → Read (λ j. reads_at_cond i j c)
    cond-read always t = absurd (let z : ⊥ = cc in z)
    cond-read (compare s x y) t =
        either (any_in (looking (λ r j. (r == i) && Q j) (λ r. false) (λ r. false) (λ r. prelude.not (r == i))) x) (any_in (looking (λ r j. (r == i) && Q j) (λ r. false) (λ r. false) (λ r. prelude.not (r == i))) y)
        (λ j. reads_at i j x) (λ j. reads_at i j y) (λ j. reads_at i j x || reads_at i j y) t (term-read x) (term-read y) (λ j h. or_left (reads_at i j x) (reads_at i j y) h) (λ j h. or_right (reads_at i j x) (reads_at i j y) h)
    cond-read (is_null x) t = term-read x t
    cond-read (and c d) t =
        either (any_in_cond (looking (λ r j. (r == i) && Q j) (λ r. false) (λ r. false) (λ r. prelude.not (r == i))) c) (any_in_cond (looking (λ r j. (r == i) && Q j) (λ r. false) (λ r. false) (λ r. prelude.not (r == i))) d)
        (λ j. reads_at_cond i j c) (λ j. reads_at_cond i j d) (λ j. reads_at_cond i j c || reads_at_cond i j d) t (cond-read c) (cond-read d) (λ j h. or_left (reads_at_cond i j c) (reads_at_cond i j d) h) (λ j h. or_right (reads_at_cond i j c) (reads_at_cond i j d) h)
    cond-read (or c d) t =
        either (any_in_cond (looking (λ r j. (r == i) && Q j) (λ r. false) (λ r. false) (λ r. prelude.not (r == i))) c) (any_in_cond (looking (λ r j. (r == i) && Q j) (λ r. false) (λ r. false) (λ r. prelude.not (r == i))) d)
        (λ j. reads_at_cond i j c) (λ j. reads_at_cond i j d) (λ j. reads_at_cond i j c || reads_at_cond i j d) t (cond-read c) (cond-read d) (λ j h. or_left (reads_at_cond i j c) (reads_at_cond i j d) h) (λ j h. or_right (reads_at_cond i j c) (reads_at_cond i j d) h)
    cond-read (not c) t = cond-read c t
    cond-read (some r c) t = (let u = and_parts (prelude.not (r == i)) (any_in_cond (looking (λ r j. (r == i) && Q j) (λ r. false) (λ r. false) (λ r. prelude.not (r == i))) c) t in let y = cond-read c u.1 in (y.0, (y.1.0, and_from (prelude.not (r == i)) (reads_at_cond i y.0 c) u.0 y.1.1)))
    cond-read (every r c) t = (let u = and_parts (prelude.not (r == i)) (any_in_cond (looking (λ r j. (r == i) && Q j) (λ r. false) (λ r. false) (λ r. prelude.not (r == i))) c) t in let y = cond-read c u.1 in (y.0, (y.1.0, and_from (prelude.not (r == i)) (reads_at_cond i y.0 c) u.0 y.1.1)))

  pub terms-read : (xs : List Term) → list_any (any_in (looking (λ r j. (r == i) && Q j) (λ r. false) (λ r. false) (λ r. prelude.not (r == i)))) xs ≡ true → Read (λ j. list_any (reads_at i j) xs)
  terms-read [] t = absurd (let z : ⊥ = cc in z)
  terms-read (x ∷ xs) t =
      either (any_in (looking (λ r j. (r == i) && Q j) (λ r. false) (λ r. false) (λ r. prelude.not (r == i))) x) (list_any (any_in (looking (λ r j. (r == i) && Q j) (λ r. false) (λ r. false) (λ r. prelude.not (r == i)))) xs)
      (λ j. reads_at i j x) (λ j. list_any (reads_at i j) xs) (λ j. reads_at i j x || list_any (reads_at i j) xs) t (term-read x) (terms-read xs) (λ j h. or_left (reads_at i j x) (list_any (reads_at i j) xs) h) (λ j h. or_right (reads_at i j x) (list_any (reads_at i j) xs) h)

  pub conds-read : (xs : List Cond) → list_any (any_in_cond (looking (λ r j. (r == i) && Q j) (λ r. false) (λ r. false) (λ r. prelude.not (r == i)))) xs ≡ true → Read (λ j. list_any (reads_at_cond i j) xs)
  conds-read [] t = absurd (let z : ⊥ = cc in z)
  conds-read (x ∷ xs) t =
      either (any_in_cond (looking (λ r j. (r == i) && Q j) (λ r. false) (λ r. false) (λ r. prelude.not (r == i))) x) (list_any (any_in_cond (looking (λ r j. (r == i) && Q j) (λ r. false) (λ r. false) (λ r. prelude.not (r == i)))) xs)
      (λ j. reads_at_cond i j x) (λ j. list_any (reads_at_cond i j) xs) (λ j. reads_at_cond i j x || list_any (reads_at_cond i j) xs) t (cond-read x) (conds-read xs) (λ j h. or_left (reads_at_cond i j x) (list_any (reads_at_cond i j) xs) h) (λ j h. or_right (reads_at_cond i j x) (list_any (reads_at_cond i j) xs) h)
