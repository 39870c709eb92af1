-- Expressions and conditions of a graph whose columns and nodes pass tests, and are of types.
use Rattle.std.specs.Prelude.{◌⊎◌}
use Rattle.std.proofs.Common.{inl, inr, ◌≡◌, ℕ, ◌==◌, ◌&&◌, ◌||◌, not, Bool, true, false, List, [], ◌∷◌, ◌++◌, refl, ap, ap₂, sym, subst}
use Rattle.std.specs.List.{list_all}
use Rattle.sql_value.specs.declared.order_key.SqlType.{SqlType}
use Rattle.sql_value.specs.declared.order_key.SqlType.TheVariants.{Integer, Varchar}
use Rattle.qgm_terms.specs.Named.{columns, columns_in, columns_in_cond, names, names_in, names_in_cond, nodes, nodes_in, nodes_in_cond}
use Rattle.qgm_terms.specs.Gathered.{Search, gathered, gathered_arms, gathered_cond, listed, listed_cond}
use Rattle.qgm_terms.specs.Terms as t
use Rattle.qgm_terms.specs.Terms.{Term, Arms, Cond, Sign}
use Rattle.qgm_terms.specs.Wanted.{found, has_aggregate, has_aggregate_cond, reads, reads_cond, wanted}
use Rattle.qgm_terms.specs.declared.named.Column.{Column}
use Rattle.qgm_terms.specs.declared.named.QuantNode.{QuantNode}
use Rattle.qgm_terms.specs.declared.named.QuantNode.TheVariants as node
use Rattle.qgm_terms.specs.declared.sought.Sought.TheVariants as sought
use Rattle.qgm_translation.specs.Typing.{op_type as op_of}

-- what is compared by a sign has a type
abbrev pub Signed : Sign → SqlType → Type 0
Signed t.equal x = Unit {0}
Signed t.unequal x = Unit {0}
Signed t.below x = Unit {0}
Signed t.at_most x = Unit {0}
Signed t.above x = Unit {0}
Signed t.at_least x = Unit {0}
Signed t.same x = Unit {0}
Signed t.like x = x ≡ Varchar

abbrev pub node_of : QuantNode → ℕ
node_of (node.Scalar q) = q
node_of (node.Some q) = q
node_of (node.Every q) = q

-- K: column k of q is of a type; N: a node stands there; J: column 1 of a quantifier, within some or every of it, is of a type
module _ (K : ℕ → ℕ → SqlType → Type 0) (N : QuantNode → Type 0) (J : ℕ → SqlType → Type 0) where
  -- some and every ask for nothing, or compare column 1
  abbrev mutual
    pub Is : Term → SqlType → Type 0
    Is (t.int n) a = a ≡ Integer
    Is (t.text x) a = a ≡ Varchar
    Is t.null_int a = a ≡ Integer
    Is t.null_text a = a ≡ Varchar
    Is (t.col q k) a = K q k a
    Is (t.scalar q) a = N (node.Scalar q) × J q a
    Is (t.both op x y) a = (a ≡ op_of op) × Is x a × Is y a
    Is (t.minus_of x) a = (a ≡ Integer) × Is x Integer
    Is (t.choose s x) a = ArmsAre s a × Is x a
    Is t.count_all a = ⊥
    Is (t.fold f e x) a = ⊥

    pub ArmsAre : Arms → SqlType → Type 0
    ArmsAre t.no_arm a = Unit {0}
    ArmsAre (t.arm c x s) a = Fit c × Is x a × ArmsAre s a

    pub Fit : Cond → Type 0
    Fit t.always = Unit {0}
    Fit (t.compare sign x y) = (a : SqlType) × (Is x a × Is y a × Signed sign a)
    Fit (t.is_null x) = (a : SqlType) × Is x a
    Fit (t.and c d) = Fit c × Fit d
    Fit (t.or c d) = Fit c × Fit d
    Fit (t.not c) = Fit c
    Fit (t.some q c) = N (node.Some q) × Inner q c
    Fit (t.every q c) = N (node.Every q) × Inner q c

    pub Inner : ℕ → Cond → Type 0
    Inner q t.always = Unit {0}
    Inner q (t.compare sign x y) = (a : SqlType) × (Is x a × (y ≡ t.col q 1) × J q a × Signed sign a)
    Inner q (t.is_null x) = ⊥
    Inner q (t.and c d) = ⊥
    Inner q (t.or c d) = ⊥
    Inner q (t.not c) = ⊥
    Inner q (t.some r c) = ⊥
    Inner q (t.every r c) = ⊥

  -- the cells of a head have these types
  abbrev pub Heads : List Term → List SqlType → Type 0
  Heads [] types = types ≡ []
  Heads (x ∷ xs) [] = ⊥
  Heads (x ∷ xs) (a ∷ types) = Is x a × Heads xs types

  pub heads-append : (xs ys : List Term) (a b : List SqlType) → Heads xs a → Heads ys b → Heads (xs ++ ys) (a ++ b)
  heads-append [] ys a b h k = subst (λ (z : List SqlType). Heads ys (z ++ b)) (sym h) k
  heads-append (x ∷ xs) ys [] b h k = absurd h
  heads-append (x ∷ xs) ys (u ∷ a) b h k = (h.0, heads-append xs ys a b h.1 k)

  abbrev pub FitAll : List Cond → Type 0
  FitAll [] = Unit {0}
  FitAll (c ∷ cs) = Fit c × FitAll cs

  pub fit-append : (cs ds : List Cond) → FitAll cs → FitAll ds → FitAll (cs ++ ds)
  fit-append [] ds h k = k
  fit-append (c ∷ cs) ds h k = (h.0, fit-append cs ds h.1 k)

  -- an aggregate of an argument of type u has type a
  abbrev pub Folds : t.Aggregate → SqlType → SqlType → Type 0
  Folds t.single u a = a ≡ u
  Folds t.count u a = a ≡ Integer
  Folds t.sum u a = (u ≡ Integer) × (a ≡ Integer)
  Folds t.avg u a = (u ≡ Integer) × (a ≡ Integer)
  Folds t.least u a = a ≡ u
  Folds t.greatest u a = a ≡ u

  -- a cell of a group: an aggregate, or a key
  abbrev pub CellIs : Term → SqlType → Type 0
  CellIs (t.int n) a = Is (t.int n) a
  CellIs (t.text x) a = Is (t.text x) a
  CellIs t.null_int a = Is t.null_int a
  CellIs t.null_text a = Is t.null_text a
  CellIs (t.col q k) a = Is (t.col q k) a
  CellIs (t.scalar q) a = Is (t.scalar q) a
  CellIs (t.both op x y) a = Is (t.both op x y) a
  CellIs (t.minus_of x) a = Is (t.minus_of x) a
  CellIs (t.choose s x) a = Is (t.choose s x) a
  CellIs t.count_all a = a ≡ Integer
  CellIs (t.fold f e x) a = (u : SqlType) × (Is x u × Folds f u a)

  abbrev pub Cells : List Term → List SqlType → Type 0
  Cells [] types = types ≡ []
  Cells (x ∷ xs) [] = ⊥
  Cells (x ∷ xs) (a ∷ types) = CellIs x a × Cells xs types

  pub cells-append : (xs ys : List Term) (a b : List SqlType) → Cells xs a → Cells ys b → Cells (xs ++ ys) (a ++ b)
  cells-append [] ys a b h k = subst (λ (z : List SqlType). Cells ys (z ++ b)) (sym h) k
  cells-append (x ∷ xs) ys [] b h k = absurd h
  cells-append (x ∷ xs) ys (u ∷ a) b h k = (h.0, cells-append xs ys a b h.1 k)

  -- ---- names

  pub all-append : {X : Type 0} (p : X → Bool) (xs ys : List X) → list_all p xs ≡ true → list_all p ys ≡ true → list_all p (xs ++ ys) ≡ true
  all-append p [] ys h k = k
  all-append p (x ∷ xs) ys h k = parts (p x) (list_all p xs) h (λ g. all-append p xs ys g k)
    where
      parts : (a b : Bool) → (a && b) ≡ true → (b ≡ true → list_all p (xs ++ ys) ≡ true) → (a && list_all p (xs ++ ys)) ≡ true
      parts true b h f = f h
      parts false b h f = absurd (cc h)

  -- ---- what is gathered of an expression passes where what its parts give does

  module _ {A : Type 0} (empty : A) (with : A → A → A) (s : Search A) (Ok : A → Type 0) (none : Ok empty) (both : (x y : A) → Ok x → Ok y → Ok (with x y)) (column : (q k : ℕ) (a : SqlType) → K q k a → Ok (s.at_column q k))
      (scalar : (q : ℕ) (a : SqlType) → N (node.Scalar q) → J q a → Ok (s.at_scalar q)) (some_none : (q : ℕ) → N (node.Some q) → Ok (s.at_some q empty))
      (some : (q : ℕ) (a : SqlType) (x : A) → N (node.Some q) → J q a → Ok x → Ok (s.at_some q (with x (s.at_column q 1)))) (every_none : (q : ℕ) → N (node.Every q) → Ok (s.at_every q empty))
      (every : (q : ℕ) (a : SqlType) (x : A) → N (node.Every q) → J q a → Ok x → Ok (s.at_every q (with x (s.at_column q 1)))) where
    mutual
      pub term-ok : (x : Term) (a : SqlType) → Is x a → Ok (gathered empty with s x)
      term-ok (t.int n) a h = none
      term-ok (t.text x) a h = none
      term-ok t.null_int a h = none
      term-ok t.null_text a h = none
      term-ok (t.col q k) a h = column q k a h
      term-ok (t.scalar q) a h = scalar q a h.0 h.1
      term-ok (t.both op x y) a h = both (gathered empty with s x) (gathered empty with s y) (term-ok x a h.1) (term-ok y a h.2)
      term-ok (t.minus_of x) a h = term-ok x Integer h.1
      term-ok (t.choose xs x) a h = both (gathered_arms empty with s xs) (gathered empty with s x) (arms-ok xs a h.0) (term-ok x a h.1)
      term-ok t.count_all a h = absurd h
      term-ok (t.fold f e x) a h = absurd h

      arms-ok : (xs : Arms) (a : SqlType) → ArmsAre xs a → Ok (gathered_arms empty with s xs)
      arms-ok t.no_arm a h = none
      arms-ok (t.arm c x xs) a h =
          both (gathered_cond empty with s c) (with (gathered empty with s x) (gathered_arms empty with s xs)) (cond-ok c h.0) (both (gathered empty with s x) (gathered_arms empty with s xs) (term-ok x a h.1) (arms-ok xs a h.2))

      pub cond-ok : (c : Cond) → Fit c → Ok (gathered_cond empty with s c)
      cond-ok t.always h = none
      cond-ok (t.compare sign x y) h = both (gathered empty with s x) (gathered empty with s y) (term-ok x h.0 h.1.0) (term-ok y h.0 h.1.1)
      cond-ok (t.is_null x) h = term-ok x h.0 h.1
      cond-ok (t.and c d) h = both (gathered_cond empty with s c) (gathered_cond empty with s d) (cond-ok c h.0) (cond-ok d h.1)
      cond-ok (t.or c d) h = both (gathered_cond empty with s c) (gathered_cond empty with s d) (cond-ok c h.0) (cond-ok d h.1)
      cond-ok (t.not c) h = cond-ok c h
      cond-ok (t.some q c) h = some-ok q c h.0 h.1
      cond-ok (t.every q c) h = every-ok q c h.0 h.1

      some-ok : (q : ℕ) (c : Cond) → N (node.Some q) → Inner q c → Ok (s.at_some q (gathered_cond empty with s c))
      some-ok q t.always g h = some_none q g
      some-ok q (t.compare sign x y) g h =
          subst (λ (z : Term). Ok (s.at_some q (with (gathered empty with s x) (gathered empty with s z)))) (sym h.1.1) (some q h.0 (gathered empty with s x) g h.1.2 (term-ok x h.0 h.1.0))
      some-ok q (t.is_null x) g h = absurd h
      some-ok q (t.and c d) g h = absurd h
      some-ok q (t.or c d) g h = absurd h
      some-ok q (t.not c) g h = absurd h
      some-ok q (t.some r c) g h = absurd h
      some-ok q (t.every r c) g h = absurd h

      every-ok : (q : ℕ) (c : Cond) → N (node.Every q) → Inner q c → Ok (s.at_every q (gathered_cond empty with s c))
      every-ok q t.always g h = every_none q g
      every-ok q (t.compare sign x y) g h =
          subst (λ (z : Term). Ok (s.at_every q (with (gathered empty with s x) (gathered empty with s z)))) (sym h.1.1) (every q h.0 (gathered empty with s x) g h.1.2 (term-ok x h.0 h.1.0))
      every-ok q (t.is_null x) g h = absurd h
      every-ok q (t.and c d) g h = absurd h
      every-ok q (t.or c d) g h = absurd h
      every-ok q (t.not c) g h = absurd h
      every-ok q (t.some r c) g h = absurd h
      every-ok q (t.every r c) g h = absurd h

  -- what a search lists of an expression and of a condition passes
  module _ {X : Type 0} (s : Search (List X)) (p : X → Bool) (column : (q k : ℕ) (a : SqlType) → K q k a → list_all p (s.at_column q k) ≡ true) (scalar : (q : ℕ) (a : SqlType) → N (node.Scalar q) → J q a → list_all p (s.at_scalar q) ≡ true)
      (some : (q : ℕ) (xs : List X) → N (node.Some q) → list_all p xs ≡ true → list_all p (s.at_some q xs) ≡ true) (every : (q : ℕ) (xs : List X) → N (node.Every q) → list_all p xs ≡ true → list_all p (s.at_every q xs) ≡ true)
      (inner : (q : ℕ) (a : SqlType) → J q a → (N (node.Some q) ⊎ N (node.Every q)) → list_all p (s.at_column q 1) ≡ true) where
    pub listed-pass : (x : Term) (a : SqlType) → Is x a → list_all p (listed s x) ≡ true
    listed-pass =
        term-ok [] (λ x y. x ++ y) s (λ xs. list_all p xs ≡ true) refl (λ x y. all-append p x y) column scalar (λ q n. some q [] n refl)
        (λ q a x n j h. some q (x ++ s.at_column q 1) n (all-append p x (s.at_column q 1) h (inner q a j (inl n)))) (λ q n. every q [] n refl)
        (λ q a x n j h. every q (x ++ s.at_column q 1) n (all-append p x (s.at_column q 1) h (inner q a j (inr n))))

    pub listed-fit : (c : Cond) → Fit c → list_all p (listed_cond s c) ≡ true
    listed-fit =
        cond-ok [] (λ x y. x ++ y) s (λ xs. list_all p xs ≡ true) refl (λ x y. all-append p x y) column scalar (λ q n. some q [] n refl)
        (λ q a x n j h. some q (x ++ s.at_column q 1) n (all-append p x (s.at_column q 1) h (inner q a j (inl n)))) (λ q n. every q [] n refl)
        (λ q a x n j h. every q (x ++ s.at_column q 1) n (all-append p x (s.at_column q 1) h (inner q a j (inr n))))

  -- the names pass
  module _ (Q : ℕ → Bool) (column : (q k : ℕ) (a : SqlType) → K q k a → Q q ≡ true) (asked : (n : QuantNode) → N n → Q (node_of n) ≡ true) where
    one : (q : ℕ) → Q q ≡ true → list_all Q (q ∷ []) ≡ true
    one q h = ap (λ b. b && true) h

    either : (q : ℕ) (a : SqlType) → J q a → (N (node.Some q) ⊎ N (node.Every q)) → list_all Q (q ∷ []) ≡ true
    either q a j (inl n) = one q (asked (node.Some q) n)
    either q a j (inr n) = one q (asked (node.Every q) n)

    pub names-pass : (x : Term) (a : SqlType) → Is x a → list_all Q (names_in x) ≡ true
    names-pass =
        listed-pass names Q (λ q k a h. one q (column q k a h)) (λ q a n j. one q (asked (node.Scalar q) n)) (λ q xs n h. ap₂ ◌&&◌ (asked (node.Some q) n) h) (λ q xs n h. ap₂ ◌&&◌ (asked (node.Every q) n) h) either

    pub names-fit : (c : Cond) → Fit c → list_all Q (names_in_cond c) ≡ true
    names-fit =
        listed-fit names Q (λ q k a h. one q (column q k a h)) (λ q a n j. one q (asked (node.Scalar q) n)) (λ q xs n h. ap₂ ◌&&◌ (asked (node.Some q) n) h) (λ q xs n h. ap₂ ◌&&◌ (asked (node.Every q) n) h) either

  -- the columns pass, and column 1 of what is asked for
  module _ (p : Column → Bool) (column : (q k : ℕ) (a : SqlType) → K q k a → p (record { quant = q; place = k }) ≡ true) (inner : (q : ℕ) (a : SqlType) → J q a → p (record { quant = q; place = 1 }) ≡ true) where
    one-column : (q k : ℕ) → p (record { quant = q; place = k }) ≡ true → list_all p (record { quant = q; place = k } ∷ []) ≡ true
    one-column q k h = ap (λ b. b && true) h

    pub columns-pass : (x : Term) (a : SqlType) → Is x a → list_all p (columns_in x) ≡ true
    columns-pass = listed-pass columns p (λ q k a h. one-column q k (column q k a h)) (λ q a n j. refl) (λ q xs n h. h) (λ q xs n h. h) (λ q a j n. one-column q 1 (inner q a j))

    pub columns-fit : (c : Cond) → Fit c → list_all p (columns_in_cond c) ≡ true
    columns-fit = listed-fit columns p (λ q k a h. one-column q k (column q k a h)) (λ q a n j. refl) (λ q xs n h. h) (λ q xs n h. h) (λ q a j n. one-column q 1 (inner q a j))

  -- the nodes pass
  module _ (p : QuantNode → Bool) (asked : (n : QuantNode) → N n → p n ≡ true) where
    pub nodes-pass : (x : Term) (a : SqlType) → Is x a → list_all p (nodes_in x) ≡ true
    nodes-pass =
        listed-pass nodes p (λ q k a h. refl) (λ q a n j. ap (λ b. b && true) (asked (node.Scalar q) n)) (λ q xs n h. ap₂ ◌&&◌ (asked (node.Some q) n) h) (λ q xs n h. ap₂ ◌&&◌ (asked (node.Every q) n) h) (λ q a j n. refl)

    pub nodes-fit : (c : Cond) → Fit c → list_all p (nodes_in_cond c) ≡ true
    nodes-fit =
        listed-fit nodes p (λ q k a h. refl) (λ q a n j. ap (λ b. b && true) (asked (node.Scalar q) n)) (λ q xs n h. ap₂ ◌&&◌ (asked (node.Some q) n) h) (λ q xs n h. ap₂ ◌&&◌ (asked (node.Every q) n) h) (λ q a j n. refl)

  or-none : (a b : Bool) → a ≡ false → b ≡ false → (a || b) ≡ false
  or-none a b h k = ap₂ ◌||◌ h k

  -- no aggregate stands within
  pub aggregates-none : (x : Term) (a : SqlType) → Is x a → has_aggregate x ≡ false
  aggregates-none =
      term-ok false (λ x y. x || y) (found (wanted sought.Aggregate)) (λ b. b ≡ false) refl or-none (λ q k a h. refl) (λ q a n j. refl) (λ q n. refl) (λ q a x n j h. or-none x false h refl) (λ q n. refl) (λ q a x n j h. or-none x false h refl)

  pub aggregates-nowhere : (c : Cond) → Fit c → has_aggregate_cond c ≡ false
  aggregates-nowhere =
      cond-ok false (λ x y. x || y) (found (wanted sought.Aggregate)) (λ b. b ≡ false) refl or-none (λ q k a h. refl) (λ q a n j. refl) (λ q n. refl) (λ q a x n j h. or-none x false h refl) (λ q n. refl) (λ q a x n j h. or-none x false h refl)

  -- no column of r is read, outside of a some or every of r
  module _ (r : ℕ) (column : (q k : ℕ) (a : SqlType) → K q k a → (q == r) ≡ false) where
    masked : (same x : Bool) → x ≡ false → (false || (not same && (x || same))) ≡ false
    masked true x h = refl
    masked false x h = or-none x false h refl

    empty-masked : (same : Bool) → (false || (not same && false)) ≡ false
    empty-masked true = refl
    empty-masked false = refl

    pub reads-none : (x : Term) (a : SqlType) → Is x a → reads r x ≡ false
    reads-none =
        term-ok false (λ x y. x || y) (found (wanted (sought.Row r))) (λ b. b ≡ false) refl or-none column (λ q a n j. refl) (λ q n. empty-masked (q == r)) (λ q a x n j h. masked (q == r) x h)
        (λ q n. empty-masked (q == r)) (λ q a x n j h. masked (q == r) x h)

    pub reads-nowhere : (c : Cond) → Fit c → reads_cond r c ≡ false
    reads-nowhere =
        cond-ok false (λ x y. x || y) (found (wanted (sought.Row r))) (λ b. b ≡ false) refl or-none column (λ q a n j. refl) (λ q n. empty-masked (q == r)) (λ q a x n j h. masked (q == r) x h)
        (λ q n. empty-masked (q == r)) (λ q a x n j h. masked (q == r) x h)
