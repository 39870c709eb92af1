-- Columns and their types, and cells that name columns of one quantifier behind those of another.
use Rattle.std.proofs.Common.{ℕ, zero, suc, ◌==◌, ◌≡◌, ◌≤◌, ◌<◌, ◌+◌, ◌&&◌, cond, not, get_or, Bool, true, false, List, [], ◌∷◌, ◌++◌, map, length, take, drop, Option, refl, sym, ap, ap₂, subst, ◌∙◌, eqb-true, inl, inr, arith}
use Rattle.std.specs.Prelude.{slice_get}
use Rattle.std.specs.List.{list_any}
use Rattle.std.proofs.lemmas.Bool.{and_parts, eq-eqb}
use Rattle.sql_value.specs.declared.order_key.SqlType.{SqlType}
use Rattle.qgm_wellformed.specs.Shapes.{is_aggregate, is_none}
use Rattle.qgm_wellformed.specs.Types.{Lookup, joined_column, term_type}
use Rattle.qgm_edit_laws.proofs.AnyPut as put
use Rattle.qgm_edit_laws.proofs.AnyPut.{cell-any}
use Rattle.qgm_edit_laws.proofs.ShapedPut.{heads-same, term-same}
use Rattle.qgm_meaning.specs.Searches.{names}
use Rattle.qgm_meaning.specs.Tags.{columns_from}
use Rattle.qgm_terms.specs.Substitution.{cell_at, substituted}
use Rattle.qgm_terms.specs.Terms as t
use Rattle.qgm_terms.specs.Terms.{Term}
use Rattle.qgm_terms.specs.Wanted.{has_aggregate, reads, reads_at, wanted}
use Rattle.qgm_terms.specs.declared.sought.Sought.TheVariants.{Aggregate, NodeOf}
use Rattle.rule_magic.specs.Boxes.{later}
use Rattle.rule_magic.proofs.AbsorbFacts.{read-columns}
use Rattle.rule_magic.proofs.PairFormed.{read-at-columns}
use Rattle.list_laws.proofs.Booleans.{clash}

-- ---- columns and their types

-- columns of a quantifier have the types that its box has there
pub columns-typed : (L : Lookup) (q : ℕ) (pre ts post : List (Option SqlType)) → ((k : ℕ) → L q (suc k) ≡ joined_column (slice_get (pre ++ (ts ++ post)) k)) → map (term_type L) (columns_from q (suc (length pre)) (length ts)) ≡ ts
columns-typed L q pre [] post h = refl
columns-typed L q pre (x ∷ ts) post h =
    ap₂ (λ (y : Option SqlType) (ys : List (Option SqlType)). y ∷ ys) (h (length pre) ∙ at pre (ts ++ post))
    (ap (λ k. map (term_type L) (columns_from q (suc k) (length ts))) (sym (one-more pre)) ∙ columns-typed L q (pre ++ x ∷ []) ts post (λ k. h k ∙ ap (λ (z : List (Option SqlType)). joined_column (slice_get z k)) (sym (moved pre (ts ++ post)))))
  where
    at : (pre zs : List (Option SqlType)) → joined_column (slice_get (pre ++ x ∷ zs) (length pre)) ≡ x
    at [] zs = refl
    at (p ∷ pre) zs = at pre zs

    one-more : (pre : List (Option SqlType)) → length (pre ++ x ∷ []) ≡ suc (length pre)
    one-more [] = refl
    one-more (p ∷ pre) = ap suc (one-more pre)

    moved : (pre zs : List (Option SqlType)) → (pre ++ x ∷ []) ++ zs ≡ pre ++ x ∷ zs
    moved [] zs = refl
    moved (p ∷ pre) zs = ap (λ (z : List (Option SqlType)). p ∷ z) (moved pre zs)

-- column by column the same
pub pointwise : (V L : Lookup) (r q i j v : ℕ) → map (term_type V) (columns_from r i v) ≡ map (term_type L) (columns_from q j v) → (k : ℕ) → k < v → term_type V (get_or (columns_from r i v) k t.null_int) ≡ L q (j + k)
pointwise V L r q i j zero e k l = absurd (omega (arith, l))
pointwise V L r q i j (suc v) e zero l = head-of e ∙ ap (L q) (omega arith)
  where
    head-of : map (term_type V) (columns_from r i (suc v)) ≡ map (term_type L) (columns_from q j (suc v)) → V r i ≡ L q j
    head-of e = cc e
pointwise V L r q i j (suc v) e (suc k) l = pointwise V L r q (suc i) (suc j) v (tail-of e) k (omega (arith, l)) ∙ ap (L q) (omega arith)
  where
    tail-of : map (term_type V) (columns_from r i (suc v)) ≡ map (term_type L) (columns_from q j (suc v)) → map (term_type V) (columns_from r (suc i) v) ≡ map (term_type L) (columns_from q (suc j) v)
    tail-of e = cc e

-- no aggregate and no node stands in a column
pub cell-none : (P : Term → Bool) (q i v k : ℕ) → P t.null_int ≡ false → ((j : ℕ) → P (t.col q j) ≡ false) → P (get_or (columns_from q i v) k t.null_int) ≡ false
cell-none P q i zero k n c = n
cell-none P q i (suc v) zero n c = c i
cell-none P q i (suc v) (suc k) n c = cell-none P q (suc i) v k n c

pub cell-at-none : (P : Term → Bool) (q i v k : ℕ) → P t.null_int ≡ false → ((j : ℕ) → P (t.col q j) ≡ false) → P (cell_at k (columns_from q i v)) ≡ false
cell-at-none P q i v zero n c = n
cell-at-none P q i v (suc k) n c = cell-none P q i v k n c

pub take-map : {X Y : Type 0} (f : X → Y) (k : ℕ) (xs : List X) → take k (map f xs) ≡ map f (take k xs)
take-map f zero xs = refl
take-map f (suc k) [] = refl
take-map f (suc k) (x ∷ xs) = ap (λ (z : List _). f x ∷ z) (take-map f k xs)

pub drop-map : {X Y : Type 0} (f : X → Y) (k : ℕ) (xs : List X) → drop k (map f xs) ≡ map f (drop k xs)
drop-map f zero xs = refl
drop-map f (suc k) [] = refl
drop-map f (suc k) (x ∷ xs) = drop-map f k xs

pub none-list : {X : Type 0} (xs : List X) → is_none xs ≡ true → xs ≡ []
none-list [] h = refl
none-list (x ∷ xs) h = absurd (let z : ⊥ = cc in z)

-- ---- what names columns of q names those behind

module _ (q r w v : ℕ) where
  abbrev cells : List Term
  cells = later r w v

  pub aggregate-behind : (x : Term) → has_aggregate (substituted q cells x) ≡ has_aggregate x
  aggregate-behind = term-same q cells (wanted Aggregate) (λ k. cell-at-none has_aggregate r (suc w) v k refl (λ j. refl))

  pub aggregates-behind : (xs : List Term) → list_any has_aggregate (map (substituted q cells) xs) ≡ list_any has_aggregate xs
  aggregates-behind = heads-same q cells (wanted Aggregate) (λ k. cell-at-none has_aggregate r (suc w) v k refl (λ j. refl))

  pub folds-behind : (x : Term) → is_aggregate (substituted q cells x) ≡ is_aggregate x
  folds-behind (t.int n) = refl
  folds-behind (t.text s) = refl
  folds-behind t.null_int = refl
  folds-behind t.null_text = refl
  folds-behind (t.col p k) = by (p == q)
    where
      by : (b : Bool) → is_aggregate (cond b (cell_at k cells) (t.col p k)) ≡ false
      by true = cell-at-none is_aggregate r (suc w) v k refl (λ j. refl)
      by false = refl
  folds-behind (t.scalar p) = refl
  folds-behind (t.both o x y) = refl
  folds-behind (t.minus_of x) = refl
  folds-behind (t.choose s x) = refl
  folds-behind t.count_all = refl
  folds-behind (t.fold f e x) = ap not (aggregate-behind x)

  pub names-behind : (p : ℕ) (xs : List Term) → list_any (names p) (map (substituted q cells) xs) ≡ list_any (names p) xs
  names-behind p = heads-same q cells (wanted (NodeOf p)) (λ k. cell-at-none (names p) r (suc w) v k refl (λ j. refl))

  -- where q alone is read and nothing is named
  module _ (xs : List Term) (own : (p : ℕ) → list_any (reads p) xs ≡ true → p ≡ q) (own_at : (p j : ℕ) → list_any (reads_at p j) xs ≡ true → p ≡ q) (none : list_any (names q) xs ≡ false) where
    pub reads-behind : (p : ℕ) → list_any (reads p) (map (substituted q cells) xs) ≡ true → (r == p) ≡ true
    reads-behind p h = elim (put.heads-put q cells (λ r j. r == p) (λ r. false) (λ r. false) (λ r. not (r == p)) ((p == q) ≡ false)
        (λ r k f e. subst (λ z. (z == q) ≡ false) (eqb-true r p e) f) (λ r f e. absurd (let z : ⊥ = cc in z)) (λ r f e. absurd (let z : ⊥ = cc in z)) xs none h) [
          | inl y ↦ absurd (clash (p == q) (eq-eqb p q (own p y.0)) y.1)
          | inr y ↦ read-columns p r (suc w) v (cell-any (reads p) cells y.0 refl y.1.1)
        ]

    pub reads-at-behind : (p j : ℕ) → list_any (reads_at p j) (map (substituted q cells) xs) ≡ true → ((r == p) ≡ true) × (suc w ≤ j) × (j < suc w + v)
    reads-at-behind p j h = elim (put.heads-put q cells (λ r k. (r == p) && (k == j)) (λ r. false) (λ r. false) (λ r. not (r == p)) ((p == q) ≡ false)
        (λ r k f e. subst (λ z. (z == q) ≡ false) (eqb-true r p (and_parts (r == p) (k == j) e).0) f) (λ r f e. absurd (let z : ⊥ = cc in z)) (λ r f e. absurd (let z : ⊥ = cc in z)) xs none h) [
          | inl y ↦ absurd (clash (p == q) (eq-eqb p q (own_at p j y.0)) y.1)
          | inr y ↦ read-at-columns p j r (suc w) v (cell-any (reads_at p j) cells y.0 refl y.1.1)
        ]
