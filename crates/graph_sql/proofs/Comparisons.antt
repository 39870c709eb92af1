-- Comparisons of two cells that are no errors: the truth of the graph, and the truth value of a test.
use Rattle.std.proofs.Common.{◌≡◌, ◌≢◌, ◌&&◌, ◌||◌, not, Bool, true, false, Option, Some, None, refl, ap, sym, ◌∙◌, ◌⊎◌, inl, inr}
use Rattle.std.proofs.lemmas.Bool.{and_parts, or_cases}
use Rattle.std.specs.Prelude.{option_map}
use Rattle.std.specs.Cmp.Lexicographic.{slice_cmp}
use Rattle.std.specs.Ordering.{nat_cmp, int_cmp, is_eq}
use Rattle.std.specs.declared.cmp.Ordering.{Ordering}
use Rattle.std.specs.declared.cmp.Ordering.TheVariants.{Less, Equal, Greater}
use Rattle.shared_types.specs.declared.compare.CmpOp.{CmpOp}
use Rattle.shared_types.specs.declared.compare.CmpOp.TheVariants.{Eq, Ne, Lt, Le, Gt, Ge}
use Rattle.qgm_terms.specs.Terms.{Sign, equal, unequal, below, at_most, above, at_least, same, like}
use Rattle.qgm_meaning.specs.Satisfies.{is_yes}
use Rattle.qgm_meaning.specs.Values.{Environment, compared}
use Rattle.row_bag.specs.AsSets.{is_decided}
use Rattle.sql_value.specs.Cells.{cell_compare, error_of}
use Rattle.sql_value.specs.Comparison as c
use Rattle.sql_value.specs.Comparison.{passes}
use Rattle.sql_value.specs.Like as l
use Rattle.sql_value.specs.Truths as t
use Rattle.sql_value.specs.declared.cell.Cell.{Cell}
use Rattle.sql_value.specs.declared.cell.Cell.TheVariants.{Int, Text, Null, Err}
use Rattle.sql_value.specs.declared.cell.Kind.{Kind}
use Rattle.sql_value.specs.declared.truth.Truth.{Truth}
use Rattle.graph_sql.specs.Logic.{Logic, is_null, Rows, cell_in, comparison, is_false, is_true, logic_in, logic_of, negation, unknown, valued}
use Rattle.graph_sql.specs.ReadingLaw.{asked, comparable, is_no_number, of_one_type}
use Rattle.graph_sql.specs.Readings.{are_not_same, are_same, compare_sql, is, is_not, null_sql, plain_sql, same_sql}
use Rattle.graph_sql.specs.Statement.{Expression}
use Rattle.graph_sql.specs.declared.reading.Comparison.TheVariants as k
use Rattle.graph_sql.specs.declared.reading.Reading.{Reading}
use Rattle.graph_sql.specs.declared.reading.Reading.TheVariants.{True, False, NotTrue, NotFalse}

-- ---- what is true, false, or neither

abbrev pub truth_by : Option Bool → Truth
truth_by None = t.unknown
truth_by (Some z) = t.truth_of z

abbrev pub logic_by : Option Bool → Logic
logic_by None = unknown
logic_by (Some z) = logic_of z

pub of-bool : (z : Bool) → is_true (logic_of z) ≡ z
of-bool true = refl
of-bool false = refl

valued-by : (o : Option Bool) → valued (truth_by o) ≡ logic_by o
valued-by None = refl
valued-by (Some true) = refl
valued-by (Some false) = refl

decided-by : (o : Option Bool) → (is_decided (truth_by o).t ≡ true) × (is_decided (truth_by o).f ≡ true)
decided-by None = (refl, refl)
decided-by (Some true) = (refl, refl)
decided-by (Some false) = (refl, refl)

no-error : {A : Type 0} (k : Kind) → error_of (Err k) ≡ None → A
no-error k h = absurd (let z : ⊥ = cc in z)

-- ---- the order of two values

abbrev order_in : Cell → Cell → Option Ordering
order_in (Int m) (Int n) = Some (int_cmp m n)
order_in (Text s) (Text u) = Some (slice_cmp nat_cmp s u)
order_in _ _ = None

by-order : (op : CmpOp) (a b : Cell) → error_of a ≡ None → error_of b ≡ None → c.compare op a b ≡ truth_by (option_map (passes op) (order_in a b))
by-order op (Err k) b h g = no-error k h
by-order op (Int m) (Err k) h g = no-error k g
by-order op (Text s) (Err k) h g = no-error k g
by-order op Null (Err k) h g = no-error k g
by-order op (Int m) (Int n) h g = refl
by-order op (Int m) (Text u) h g = refl
by-order op (Int m) Null h g = refl
by-order op (Text s) (Int n) h g = refl
by-order op (Text s) (Text u) h g = refl
by-order op (Text s) Null h g = refl
by-order op Null (Int n) h g = refl
by-order op Null (Text u) h g = refl
by-order op Null Null h g = refl

-- values of one type are in order
in-order : (a b : Cell) → error_of a ≡ None → error_of b ≡ None → of_one_type a b ≡ true → a ≢ Null → b ≢ Null → order_in a b ≢ None
in-order (Err k) b h g s n m = no-error k h
in-order (Int x) (Err k) h g s n m = no-error k g
in-order (Text x) (Err k) h g s n m = no-error k g
in-order Null b h g s n m = absurd (n refl)
in-order (Int x) Null h g s n m = absurd (m refl)
in-order (Text x) Null h g s n m = absurd (m refl)
in-order (Int x) (Int y) h g s n m = λ e. (let z : ⊥ = cc in z)
in-order (Int x) (Text y) h g s n m = absurd (let z : ⊥ = cc in z)
in-order (Text x) (Int y) h g s n m = absurd (let z : ⊥ = cc in z)
in-order (Text x) (Text y) h g s n m = λ e. (let z : ⊥ = cc in z)

mapped : (op : CmpOp) (o : Option Ordering) → o ≢ None → option_map (passes op) o ≢ None
mapped op None h = absurd (h refl)
mapped op (Some o) h = λ e. (let z : ⊥ = cc in z)

-- ---- a comparison, where this is what it gives

module _ (env : Environment) (x y : Expression Rows) (sign : Sign) (o : Option Bool) (graph : compared sign (cell_in x env) (cell_in y env) ≡ truth_by o)
    (own : comparison (is sign) (cell_in x env) (cell_in y env) ≡ logic_by o) (other : comparison (is_not sign) (cell_in x env) (cell_in y env) ≡ negation (logic_by o)) where
  yes-by : (o : Option Bool) → is_true (logic_by o) ≡ is_yes (truth_by o).t
  yes-by None = refl
  yes-by (Some true) = refl
  yes-by (Some false) = refl

  no-by : (o : Option Bool) → is_true (negation (logic_by o)) ≡ is_yes (truth_by o).f
  no-by None = refl
  no-by (Some true) = refl
  no-by (Some false) = refl

  false-by : (o : Option Bool) → is_false (logic_by o) ≡ is_yes (truth_by o).f
  false-by None = refl
  false-by (Some true) = refl
  false-by (Some false) = refl

  -- a value is true or false
  not-yes : (o : Option Bool) → o ≢ None → is_true (negation (logic_by o)) ≡ not (is_yes (truth_by o).t)
  not-yes None h = absurd (h refl)
  not-yes (Some true) h = refl
  not-yes (Some false) h = refl

  not-no : (o : Option Bool) → o ≢ None → is_true (logic_by o) ≡ not (is_yes (truth_by o).f)
  not-no None h = absurd (h refl)
  not-no (Some true) h = refl
  not-no (Some false) h = refl

  plain : (r : Reading) (sure : Bool) → (sure ≡ true → o ≢ None) → is_true (logic_in (plain_sql r sign sure x y) env) ≡ asked r (compared sign (cell_in x env) (cell_in y env))
  plain True sure h = ap is_true own ∙ yes-by o ∙ sym (ap (asked True) graph)
  plain False sure h = ap is_true other ∙ no-by o ∙ sym (ap (asked False) graph)
  plain NotTrue true h = ap is_true other ∙ not-yes o (h refl) ∙ sym (ap (asked NotTrue) graph)
  plain NotTrue false h = of-bool (not (is_true (comparison (is sign) (cell_in x env) (cell_in y env)))) ∙ ap (λ p. not (is_true p)) own ∙ ap not (yes-by o) ∙ sym (ap (asked NotTrue) graph)
  plain NotFalse true h = ap is_true own ∙ not-no o (h refl) ∙ sym (ap (asked NotFalse) graph)
  plain NotFalse false h = of-bool (not (is_false (comparison (is sign) (cell_in x env) (cell_in y env)))) ∙ ap (λ p. not (is_false p)) own ∙ ap not (false-by o) ∙ sym (ap (asked NotFalse) graph)

-- an operator that holds where another doesn't
turned-by : (op opp : CmpOp) → ((o : Ordering) → passes opp o ≡ not (passes op o)) → (o : Option Ordering) → valued (truth_by (option_map (passes opp) o)) ≡ negation (logic_by (option_map (passes op) o))
turned-by op opp e None = refl
turned-by op opp e (Some o) = ap (λ z. valued (t.truth_of z)) (e o) ∙ by (passes op o)
  where
    by : (z : Bool) → valued (t.truth_of (not z)) ≡ negation (logic_of z)
    by true = refl
    by false = refl

opposites-Eq : (o : Ordering) → passes Ne o ≡ not (passes Eq o)
opposites-Eq Less = refl
opposites-Eq Equal = refl
opposites-Eq Greater = refl

opposites-Ne : (o : Ordering) → passes Eq o ≡ not (passes Ne o)
opposites-Ne Less = refl
opposites-Ne Equal = refl
opposites-Ne Greater = refl

opposites-Lt : (o : Ordering) → passes Ge o ≡ not (passes Lt o)
opposites-Lt Less = refl
opposites-Lt Equal = refl
opposites-Lt Greater = refl

opposites-Le : (o : Ordering) → passes Gt o ≡ not (passes Le o)
opposites-Le Less = refl
opposites-Le Equal = refl
opposites-Le Greater = refl

opposites-Gt : (o : Ordering) → passes Le o ≡ not (passes Gt o)
opposites-Gt Less = refl
opposites-Gt Equal = refl
opposites-Gt Greater = refl

opposites-Ge : (o : Ordering) → passes Lt o ≡ not (passes Ge o)
opposites-Ge Less = refl
opposites-Ge Equal = refl
opposites-Ge Greater = refl

-- ---- LIKE

abbrev like_in : Cell → Cell → Option Bool
like_in (Text s) (Text u) = Some (l.fits u s)
like_in _ _ = None

by-like : (a b : Cell) → error_of a ≡ None → error_of b ≡ None → l.like a b ≡ truth_by (like_in a b)
by-like (Err k) b h g = no-error k h
by-like (Int m) (Err k) h g = no-error k g
by-like (Text s) (Err k) h g = no-error k g
by-like Null (Err k) h g = no-error k g
by-like (Int m) (Int n) h g = refl
by-like (Int m) (Text u) h g = refl
by-like (Int m) Null h g = refl
by-like (Text s) (Int n) h g = refl
by-like (Text s) (Text u) h g = refl
by-like (Text s) Null h g = refl
by-like Null (Int n) h g = refl
by-like Null (Text u) h g = refl
by-like Null Null h g = refl

in-like : (a b : Cell) → error_of a ≡ None → error_of b ≡ None → (is_no_number a && is_no_number b) ≡ true → a ≢ Null → b ≢ Null → like_in a b ≢ None
in-like (Err k) b h g s n m = no-error k h
in-like (Int x) b h g s n m = absurd (let z : ⊥ = cc in z)
in-like (Text x) (Err k) h g s n m = no-error k g
in-like Null b h g s n m = absurd (n refl)
in-like (Text x) Null h g s n m = absurd (m refl)
in-like (Text x) (Int y) h g s n m = absurd (let z : ⊥ = cc in z)
in-like (Text x) (Text y) h g s n m = λ e. (let z : ⊥ = cc in z)

-- ---- null-safe equality

same-by : (a b : Cell) → error_of a ≡ None → error_of b ≡ None → c.same a b ≡ t.truth_of (is_eq (cell_compare a b))
same-by (Err k) b h g = no-error k h
same-by (Int m) (Err k) h g = no-error k g
same-by (Text s) (Err k) h g = no-error k g
same-by Null (Err k) h g = no-error k g
same-by (Int m) (Int n) h g = refl
same-by (Int m) (Text u) h g = refl
same-by (Int m) Null h g = refl
same-by (Text s) (Int n) h g = refl
same-by (Text s) (Text u) h g = refl
same-by (Text s) Null h g = refl
same-by Null (Int n) h g = refl
same-by Null (Text u) h g = refl
same-by Null Null h g = refl

-- two cells of which one is not null are the same where they are equal
same-equal : (a b : Cell) → error_of a ≡ None → error_of b ≡ None → (a ≢ Null) ⊎ (b ≢ Null) → is_true (logic_by (option_map (passes Eq) (order_in a b))) ≡ is_eq (cell_compare a b)
same-equal (Err k) b h g n = no-error k h
same-equal (Int m) (Err k) h g n = no-error k g
same-equal (Text s) (Err k) h g n = no-error k g
same-equal Null (Err k) h g n = no-error k g
same-equal (Int m) (Int v) h g n = of-bool (is_eq (int_cmp m v))
same-equal (Int m) (Text u) h g n = refl
same-equal (Int m) Null h g n = refl
same-equal (Text s) (Int v) h g n = refl
same-equal (Text s) (Text u) h g n = of-bool (is_eq (slice_cmp nat_cmp s u))
same-equal (Text s) Null h g n = refl
same-equal Null (Int v) h g n = refl
same-equal Null (Text u) h g n = refl
same-equal Null Null h g n = elim n [ inl m ↦ absurd (m refl) | inr m ↦ absurd (m refl) ]

-- ---- all comparisons

module _ (env : Environment) (x y : Expression Rows) (h : error_of (cell_in x env) ≡ None) (g : error_of (cell_in y env) ≡ None) where
  abbrev a : Cell
  a = cell_in x env

  abbrev b : Cell
  b = cell_in y env

  ordered : (op : CmpOp) → valued (c.compare op a b) ≡ valued (truth_by (option_map (passes op) (order_in a b)))
  ordered op = ap valued (by-order op a b h g)

  own : (op : CmpOp) → valued (c.compare op a b) ≡ logic_by (option_map (passes op) (order_in a b))
  own op = ordered op ∙ valued-by (option_map (passes op) (order_in a b))

  other : (op opp : CmpOp) → ((o : Ordering) → passes opp o ≡ not (passes op o)) → valued (c.compare opp a b) ≡ negation (logic_by (option_map (passes op) (order_in a b)))
  other op opp e = ordered opp ∙ turned-by op opp e (order_in a b)

  sure-order : (op : CmpOp) (sure : Bool) → of_one_type a b ≡ true → (sure ≡ true → (a ≢ Null) × (b ≢ Null)) → sure ≡ true → option_map (passes op) (order_in a b) ≢ None
  sure-order op sure s n e = mapped op (order_in a b) (in-order a b h g s (n e).0 (n e).1)

  -- the two tests by which null-safe equality is read
  abbrev z : Bool
  z = is_eq (cell_compare a b)

  same-true : (one : Bool) → (one ≡ true → (a ≢ Null) ⊎ (b ≢ Null)) → is_true (logic_in (are_same one x y) env) ≡ z
  same-true true n = ap is_true (own Eq) ∙ same-equal a b h g (n refl)
  same-true false n = of-bool z

  same-false : (one two : Bool) → of_one_type a b ≡ true → (one ≡ true → (a ≢ Null) ⊎ (b ≢ Null)) → (two ≡ true → (a ≢ Null) × (b ≢ Null)) → is_true (logic_in (are_not_same one two x y) env) ≡ not z
  same-false one true s n m =
      let v : option_map (passes Eq) (order_in a b) ≢ None = sure-order Eq true s m refl in
      ap is_true (other Eq Ne opposites-Eq)
      ∙ opposite-by (option_map (passes Eq) (order_in a b)) v
      ∙ ap not (same-equal a b h g (inl (m refl).0))
    where
      opposite-by : (o : Option Bool) → o ≢ None → is_true (negation (logic_by o)) ≡ not (is_true (logic_by o))
      opposite-by None w = absurd (w refl)
      opposite-by (Some true) w = refl
      opposite-by (Some false) w = refl
  same-false true false s n m = of-bool (not (is_true (comparison k.Equal a b))) ∙ ap (λ p. not (is_true p)) (own Eq) ∙ ap not (same-equal a b h g (n refl))
  same-false false false s n m = of-bool (not z)

  yes-of : (w : Bool) → is_yes (t.truth_of w).t ≡ w
  yes-of true = refl
  yes-of false = refl

  no-of : (w : Bool) → is_yes (t.truth_of w).f ≡ not w
  no-of true = refl
  no-of false = refl

  not-not : (w : Bool) → not (not w) ≡ w
  not-not true = refl
  not-not false = refl

  are-same : (r : Reading) (one two : Bool) → of_one_type a b ≡ true → (one ≡ true → (a ≢ Null) ⊎ (b ≢ Null)) → (two ≡ true → (a ≢ Null) × (b ≢ Null))
      → is_true (logic_in (same_sql r one two x y) env) ≡ asked r (c.same a b)
  are-same True one two s n m = same-true one n ∙ sym (yes-of z) ∙ sym (ap (asked True) (same-by a b h g))
  are-same False one two s n m = same-false one two s n m ∙ sym (no-of z) ∙ sym (ap (asked False) (same-by a b h g))
  are-same NotTrue one two s n m = same-false one two s n m ∙ sym (ap not (yes-of z)) ∙ sym (ap (asked NotTrue) (same-by a b h g))
  are-same NotFalse one two s n m = same-true one n ∙ sym (not-not z) ∙ sym (ap not (no-of z)) ∙ sym (ap (asked NotFalse) (same-by a b h g))

  pub comparisons : (r : Reading) (sign : Sign) (v w : Bool) → comparable sign a b ≡ true → (v ≡ true → a ≢ Null) → (w ≡ true → b ≢ Null)
      → is_true (logic_in (compare_sql r sign v w x y) env) ≡ asked r (compared sign a b)
  comparisons r sign v w s n m = by sign s
    where
      two : (v && w) ≡ true → (a ≢ Null) × (b ≢ Null)
      two e = let p = and_parts v w e in (n p.0, m p.1)

      one : (v || w) ≡ true → (a ≢ Null) ⊎ (b ≢ Null)
      one e = elim (or_cases v w e) [ inl p ↦ inl (n p) | inr p ↦ inr (m p) ]

      by : (sign : Sign) → comparable sign a b ≡ true → is_true (logic_in (compare_sql r sign v w x y) env) ≡ asked r (compared sign a b)
      by equal s = plain env x y equal (option_map (passes Eq) (order_in a b)) (by-order Eq a b h g) (own Eq) (other Eq Ne opposites-Eq) r (v && w) (sure-order Eq (v && w) s two)
      by unequal s = plain env x y unequal (option_map (passes Ne) (order_in a b)) (by-order Ne a b h g) (own Ne) (other Ne Eq opposites-Ne) r (v && w) (sure-order Ne (v && w) s two)
      by below s = plain env x y below (option_map (passes Lt) (order_in a b)) (by-order Lt a b h g) (own Lt) (other Lt Ge opposites-Lt) r (v && w) (sure-order Lt (v && w) s two)
      by at_most s = plain env x y at_most (option_map (passes Le) (order_in a b)) (by-order Le a b h g) (own Le) (other Le Gt opposites-Le) r (v && w) (sure-order Le (v && w) s two)
      by above s = plain env x y above (option_map (passes Gt) (order_in a b)) (by-order Gt a b h g) (own Gt) (other Gt Le opposites-Gt) r (v && w) (sure-order Gt (v && w) s two)
      by at_least s = plain env x y at_least (option_map (passes Ge) (order_in a b)) (by-order Ge a b h g) (own Ge) (other Ge Lt opposites-Ge) r (v && w) (sure-order Ge (v && w) s two)
      by like s =
          let e : valued (l.like a b) ≡ logic_by (like_in a b) = ap valued (by-like a b h g) ∙ valued-by (like_in a b) in
          plain env x y like (like_in a b) (by-like a b h g) e (ap negation e) r (v && w) (λ u. in-like a b h g s (two u).0 (two u).1)
      by same s = are-same r (v || w) (v && w) s one two

pub decided : (sign : Sign) (a b : Cell) → error_of a ≡ None → error_of b ≡ None → (is_decided (compared sign a b).t ≡ true) × (is_decided (compared sign a b).f ≡ true)
decided equal a b h g = rw (by-order Eq a b h g) (decided-by (option_map (passes Eq) (order_in a b)))
decided unequal a b h g = rw (by-order Ne a b h g) (decided-by (option_map (passes Ne) (order_in a b)))
decided below a b h g = rw (by-order Lt a b h g) (decided-by (option_map (passes Lt) (order_in a b)))
decided at_most a b h g = rw (by-order Le a b h g) (decided-by (option_map (passes Le) (order_in a b)))
decided above a b h g = rw (by-order Gt a b h g) (decided-by (option_map (passes Gt) (order_in a b)))
decided at_least a b h g = rw (by-order Ge a b h g) (decided-by (option_map (passes Ge) (order_in a b)))
decided like a b h g = rw (by-like a b h g) (decided-by (like_in a b))
decided same a b h g = rw (same-by a b h g) (decided-by (Some (is_eq (cell_compare a b))))

-- ---- the test for null

nulls-true : (d : Cell) → error_of d ≡ None → is_null d ≡ is_yes (c.is_null d).t
nulls-true (Err k) h = no-error k h
nulls-true (Int m) h = refl
nulls-true (Text s) h = refl
nulls-true Null h = refl

nulls-false : (d : Cell) → error_of d ≡ None → not (is_null d) ≡ is_yes (c.is_null d).f
nulls-false (Err k) h = no-error k h
nulls-false (Int m) h = refl
nulls-false (Text s) h = refl
nulls-false Null h = refl

nulls-other : (d : Cell) → error_of d ≡ None → is_yes (c.is_null d).f ≡ not (is_yes (c.is_null d).t)
nulls-other (Err k) h = no-error k h
nulls-other (Int m) h = refl
nulls-other (Text s) h = refl
nulls-other Null h = refl

nulls-own : (d : Cell) → error_of d ≡ None → is_yes (c.is_null d).t ≡ not (is_yes (c.is_null d).f)
nulls-own (Err k) h = no-error k h
nulls-own (Int m) h = refl
nulls-own (Text s) h = refl
nulls-own Null h = refl

pub nulls : (r : Reading) (x : Expression Rows) (env : Environment) → error_of (cell_in x env) ≡ None → is_true (logic_in (null_sql r x) env) ≡ asked r (c.is_null (cell_in x env))
nulls True x env h = of-bool (is_null (cell_in x env)) ∙ nulls-true (cell_in x env) h
nulls False x env h = of-bool (not (is_null (cell_in x env))) ∙ nulls-false (cell_in x env) h
nulls NotTrue x env h = of-bool (not (is_null (cell_in x env))) ∙ nulls-false (cell_in x env) h ∙ nulls-other (cell_in x env) h
nulls NotFalse x env h = of-bool (is_null (cell_in x env)) ∙ nulls-true (cell_in x env) h ∙ nulls-own (cell_in x env) h

pub nulls-decided : (d : Cell) → error_of d ≡ None → (is_decided (c.is_null d).t ≡ true) × (is_decided (c.is_null d).f ≡ true)
nulls-decided (Err k) h = no-error k h
nulls-decided (Int m) h = (refl, refl)
nulls-decided (Text s) h = (refl, refl)
nulls-decided Null h = (refl, refl)
