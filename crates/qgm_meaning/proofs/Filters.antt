-- Conditions before what a box does and after it.
use Rattle.std.proofs.Common.{ℕ, suc, ◌≡◌, ◌≤◌, ◌&&◌, ◌||◌, nat_eq, cond, Bool, true, false, List, [], ◌∷◌, ◌++◌, take, length, Option, None, refl, sym, ap, ap₂, subst, ◌∙◌, ◌⊎◌, inl, inr}
use Rattle.std.proofs.lemmas.Bool.{and_from, and_parts, cases_Bool, or_left, or_right}
use mathlib.Core.Path.{fun_ext}
use Rattle.row_bag.specs.AsSets.{is_decided, stands}
use Rattle.row_bag.specs.Filters.{Decides, passing}
use Rattle.row_bag.proofs.Deciding.{decided-either}
use Rattle.row_bag.proofs.Filtering.{bind-passing, filter-laws, passing-append}
use Rattle.row_bag.proofs.Standing.{bind-standing, stands-once}
use Rattle.row_bag.specs.Bags.{Agree, Alike, bind, if_there, keep, row, unit}
use Rattle.row_bag.specs.Errors.{error_among, error_at, error_in}
use Rattle.row_bag.specs.Joins.{how_many, or_else}
use Rattle.row_bag.specs.Sets.{collapsed, error_or_bag, except, except_all, failed_cells, intersect, intersect_all, of_group, once, same_cells}
use Rattle.row_bag.specs.Verdict.{is_there}
use Rattle.row_bag.specs.declared.row.Row.{Row}
use Rattle.row_bag.proofs.Agreement.{alike-same, alike-trans}
use Rattle.row_bag.proofs.Binds.{bind-bind, bind-keep, keep-bind, keep-keep, unit-bind}
use Rattle.row_bag.proofs.Counts.{agree-from_alike}
use Rattle.row_bag.proofs.Levels.{least-commutative, least-no, least-yes, no-least}
use Rattle.row_bag.proofs.TupleBags.{same_cells-decides}
use Rattle.sql_value.specs.Cells.{worst_of}
use Rattle.sql_value.specs.Level.{least}
use Rattle.sql_value.specs.declared.cell.Cell.{Cell}
use Rattle.sql_value.specs.declared.cell.Kind.{Kind}
use Rattle.sql_value.specs.declared.level.Level.{Level}
use Rattle.sql_value.specs.declared.level.Level.TheVariants.{No, Cardinality, Division, Overflow, Yes}
use Rattle.qgm_core.specs.declared.kinds.SetOperator.TheVariants.{UnionAll, Union, IntersectAll, Intersect, ExceptAll, Except}
use Rattle.qgm_meaning.specs.Filters.{OuterPasses, Passable, SetsPass}
use Rattle.qgm_meaning.specs.Meaning.{fold_cells, groups, grouped_rows, key_cells, nothing}
use Rattle.qgm_meaning.specs.Values.{Bag, Environment, all_true, bound, head_cells}
use Rattle.qgm_terms.specs.Terms.{Term}
use Rattle.qgm_meaning.proofs.Alikes.{grouped_rows-alike}
use Rattle.qgm_meaning.proofs.Passed.{key-first, no-worst, passes}

itself : (cells : List Cell) → same_cells cells cells ≡ true
itself cells = (same_cells-decides cells cells).1 refl

-- ---- errors

-- a test that is decided at the tuples that stand there brings in no error
no-error : (held : List Cell → Option Kind) (level : List Cell → Level) (rows : Bag) → Decides same_cells level rows → error_among held rows ≡ None → error_among held (passing level rows) ≡ None
no-error held level [] d h = refl
no-error held level (r ∷ rows) d h =
    let parts = no-worst (if_there None (λ cells l. worst_of (error_at l) (held cells)) r.cells r.level) (error_among held rows) h in
    ap₂ worst_of (at r.cells r.level (λ t. decided-either (level r.cells) (d r.cells (or_left (same_cells r.cells r.cells && is_there r) (stands same_cells r.cells rows) (and_from (same_cells r.cells r.cells) (is_there r) (itself r.cells) t)))) parts.0)
    (no-error held level rows (λ c t. d c (or_right (same_cells r.cells c && is_there r) (stands same_cells c rows) t)) parts.1)
  where
    kept : (c : List Cell) (l : Level) → ((level c ≡ No) ⊎ (level c ≡ Yes)) → if_there None (λ cells l. worst_of (error_at l) (held cells)) c l ≡ None
        → if_there None (λ cells l. worst_of (error_at l) (held cells)) c (least l (least (level c) Yes)) ≡ None
    kept c l (inl e) t = ap (λ (m : Level). if_there None (λ cells l. worst_of (error_at l) (held cells)) c (least l (least m Yes))) e ∙ ap (if_there None (λ cells l. worst_of (error_at l) (held cells)) c) (least-no l)
    kept c l (inr e) t = ap (λ (m : Level). if_there None (λ cells l. worst_of (error_at l) (held cells)) c (least l (least m Yes))) e ∙ ap (if_there None (λ cells l. worst_of (error_at l) (held cells)) c) (least-yes l) ∙ t

    at : (c : List Cell) (l : Level) → (is_there (row c l) ≡ true → (level c ≡ No) ⊎ (level c ≡ Yes)) → if_there None (λ cells l. worst_of (error_at l) (held cells)) c l ≡ None
        → if_there None (λ cells l. worst_of (error_at l) (held cells)) c (least l (least (level c) Yes)) ≡ None
    at c No f t = ap (if_there None (λ cells l. worst_of (error_at l) (held cells)) c) (no-least (least (level c) Yes))
    at c Cardinality f t = kept c Cardinality (f refl) t
    at c Division f t = kept c Division (f refl) t
    at c Overflow f t = kept c Overflow (f refl) t
    at c Yes f t = kept c Yes (f refl) t

-- ---- set operations

stands-append : (c : List Cell) (xs ys : Bag) → stands same_cells c xs ≡ true → stands same_cells c (xs ++ ys) ≡ true
stands-append c [] ys h = cc h
stands-append c (x ∷ xs) ys h = elim (cases_Bool (same_cells x.cells c && is_there x)) [
  | inl t ↦ or_left (same_cells x.cells c && is_there x) (stands same_cells c (xs ++ ys)) t
  | inr t ↦ or_right (same_cells x.cells c && is_there x) (stands same_cells c (xs ++ ys)) (stands-append c xs ys (sym (ap (λ (b : Bool). b || stands same_cells c xs) t) ∙ h))
]

-- where neither operand holds an error
uncollapsed : (width : ℕ) (level : List Cell → Level) (xs ys : Bag) (whole passed : Bag) → Passable level xs ys → Agree same_cells (passing level whole) passed
    → Agree same_cells (passing level (collapsed error_in (failed_cells width) (xs ++ ys) whole)) (collapsed error_in (failed_cells width) (passing level xs ++ passing level ys) passed)
uncollapsed width level xs ys whole passed h a =
    let later : error_among error_in (passing level xs ++ passing level ys) ≡ None = ap (error_among error_in) (sym (passing-append level xs ys)) ∙ no-error error_in level (xs ++ ys) h.decided h.clean in
    subst (λ (o : Option Kind). Agree same_cells (passing level (error_or_bag (failed_cells width) o whole)) (collapsed error_in (failed_cells width) (passing level xs ++ passing level ys) passed)) (sym h.clean)
    (subst (λ (o : Option Kind). Agree same_cells (passing level whole) (error_or_bag (failed_cells width) o passed)) (sym later) a)

decided-first : (level : List Cell → Level) (xs ys : Bag) → Passable level xs ys → Decides same_cells level xs
decided-first level xs ys h = λ c s. h.decided c (stands-append c xs ys s)

pub sets-pass : SetsPass
sets-pass = λ form width level xs ys h. by form width level xs ys h
  where
    laws : Rattle.row_bag.specs.Filters.FilterLaws (List Cell) same_cells
    laws = filter-laws same_cells same_cells-decides

    by : SetsPass
    by UnionAll width level xs ys h = agree-from_alike same_cells (alike-same (passing-append level xs ys))
    by Union width level xs ys h = laws.of_union level xs ys
    by IntersectAll width level xs ys h = uncollapsed width level xs ys (intersect_all same_cells xs ys) (intersect_all same_cells (passing level xs) (passing level ys)) h (laws.of_intersect_all level xs ys (decided-first level xs ys h))
    by Intersect width level xs ys h = uncollapsed width level xs ys (intersect same_cells xs ys) (intersect same_cells (passing level xs) (passing level ys)) h (laws.of_intersect level xs ys (decided-first level xs ys h))
    by ExceptAll width level xs ys h = uncollapsed width level xs ys (except_all same_cells xs ys) (except_all same_cells (passing level xs) (passing level ys)) h (laws.of_except_all level xs ys (decided-first level xs ys h))
    by Except width level xs ys h = uncollapsed width level xs ys (except same_cells xs ys) (except same_cells (passing level xs) (passing level ys)) h (laws.of_except level xs ys (decided-first level xs ys h))

-- ---- groups

-- yes, or else no
abbrev sure : Level → Level
sure No = No
sure Cardinality = No
sure Division = No
sure Overflow = No
sure Yes = Yes

sure-plain : (l : Level) → (sure l ≡ Yes) ⊎ (sure l ≡ No)
sure-plain No = inr refl
sure-plain Cardinality = inr refl
sure-plain Division = inr refl
sure-plain Overflow = inr refl
sure-plain Yes = inl refl

sure-is : (l : Level) → is_decided l ≡ true → sure l ≡ l
sure-is No h = refl
sure-is Cardinality h = cc h
sure-is Division h = cc h
sure-is Overflow h = cc h
sure-is Yes h = refl

there-yes : (a b : List Cell) (l : Level) → is_there (row a (least l Yes)) ≡ is_there (row b l)
there-yes a b l = ap (λ (m : Level). is_there (row a m)) (least-yes l) ∙ by l
  where
    by : (l : Level) → is_there (row a l) ≡ is_there (row b l)
    by No = refl
    by Cardinality = refl
    by Division = refl
    by Overflow = refl
    by Yes = refl

-- what holds of the keys of rows that stand there holds of the keys that stand there
stands-keys : (key : List Cell → List Cell) (test : List Cell → Bool) (rows : Bag) → ((c : List Cell) → stands same_cells c rows ≡ true → test (key c) ≡ true)
    → (k : List Cell) → stands same_cells k (bind rows (λ c. unit (key c))) ≡ true → test k ≡ true
stands-keys key test [] h k s = cc s
stands-keys key test (r ∷ rows) h k s = elim (cases_Bool (same_cells (key r.cells) k && is_there (row (key r.cells) (least r.level Yes)))) [
  | inl t ↦
      let p = and_parts (same_cells (key r.cells) k) (is_there (row (key r.cells) (least r.level Yes))) t in
      let there : is_there r ≡ true = sym (there-yes (key r.cells) r.cells r.level) ∙ p.1 in
      subst (λ (c : List Cell). test c ≡ true) ((same_cells-decides (key r.cells) k).0 p.0)
      (h r.cells (or_left (same_cells r.cells r.cells && is_there r) (stands same_cells r.cells rows) (and_from (same_cells r.cells r.cells) (is_there r) (itself r.cells) there)))
  | inr t ↦ stands-keys key test rows (λ c u. h c (or_right (same_cells r.cells c && is_there r) (stands same_cells c rows) u)) k
      (sym (ap (λ (b : Bool). b || stands same_cells k (bind rows (λ c. unit (key c)))) t) ∙ s)
]

module _ (k : ℕ) (head : List Term) (q : ℕ) (env : Environment) (rows : Bag) (level : List Cell → Level) (long : suc k ≤ length head)
    (none : error_among (λ cells. error_in (key_cells (suc k) head q env cells)) rows ≡ None)
    (decided : (cells : List Cell) → stands same_cells cells rows ≡ true → is_decided (level (key_cells (suc k) head q env cells)) ≡ true) where
  abbrev key : List Cell → List Cell
  key c = key_cells (suc k) head q env c

  abbrev keys : Bag
  keys = bind rows (λ c. unit (key c))

  -- the row of a group
  made : List Cell → List Cell
  made c = c ++ fold_cells (suc k) head q env (of_group same_cells key c rows)

  made-first : (c : List Cell) → take (suc k) (key c ++ fold_cells (suc k) head q env (of_group same_cells key (key c) rows)) ≡ key c
  made-first c = key-first k head q env rows (λ c. sure (level c)) (λ c. sure-plain (level c)) long c (fold_cells (suc k) head q env (of_group same_cells key (key c) rows))

  whole : grouped_rows (suc k) head q env rows ≡ groups (suc k) head q env rows
  whole = ap (λ (o : Option Kind). error_or_bag (failed_cells (length head)) o (groups (suc k) head q env rows)) none

  after : Alike (passing (λ cells. level (take (suc k) cells)) (grouped_rows (suc k) head q env rows)) (passing (λ cells. sure (level (take (suc k) cells))) (grouped_rows (suc k) head q env rows))
  after =
      alike-trans (alike-same (ap (passing (λ cells. level (take (suc k) cells))) whole ∙ opened (λ cells. level (take (suc k) cells))))
      (alike-trans (bind-standing same_cells same_cells-decides (once same_cells keys) (given (λ cells. level (take (suc k) cells))) (given (λ cells. sure (level (take (suc k) cells))))
      (λ c s. alike-same (ap (λ (l : Level). keep l (unit (row_of c))) (sym (sure-is (level (take (suc k) (row_of c))) (at c (stands-once same_cells same_cells-decides c keys s)))))))
      (alike-same (sym (ap (passing (λ cells. sure (level (take (suc k) cells)))) whole ∙ opened (λ cells. sure (level (take (suc k) cells)))))))
    where
      row_of : List Cell → List Cell
      row_of c = c ++ fold_cells (suc k) head q env (of_group same_cells key c rows)

      given : (List Cell → Level) → List Cell → Bag
      given t c = keep (t (row_of c)) (unit (row_of c))

      opened : (t : List Cell → Level) → passing t (groups (suc k) head q env rows) ≡ bind (once same_cells keys) (given t)
      opened t = bind-passing t (once same_cells keys) (λ c. unit (row_of c)) ∙ ap (bind (once same_cells keys)) (fun_ext (λ c. unit-bind (row_of c) (λ cells. keep (t cells) (unit cells))))

      at : (c : List Cell) → stands same_cells c keys ≡ true → is_decided (level (take (suc k) (row_of c))) ≡ true
      at c s = stands-keys key (λ c. is_decided (level (take (suc k) (row_of c)))) rows (λ c u. ap (λ (cells : List Cell). is_decided (level cells)) (made-first c) ∙ decided c u) c s

  before : Alike (passing (λ cells. sure (level (key cells))) rows) (passing (λ cells. level (key cells)) rows)
  before = bind-standing same_cells same_cells-decides rows (λ c. keep (sure (level (key c))) (unit c)) (λ c. keep (level (key c)) (unit c)) (λ c s. alike-same (ap (λ (l : Level). keep l (unit c)) (sure-is (level (key c)) (decided c s))))

  pub groups-pass : Alike (passing (λ cells. level (take (suc k) cells)) (grouped_rows (suc k) head q env rows)) (grouped_rows (suc k) head q env (passing (λ cells. level (key cells)) rows))
  groups-pass =
      alike-trans after
      (alike-trans (passes k head q env rows (λ c. sure (level c)) (λ c. sure-plain (level c)) long none)
      (grouped_rows-alike (suc k) head q env before))

-- ---- outer joins

pick-bind : {A B : Type 0} (z : Bool) (us vs : List (Row A)) (f : A → List (Row B)) → bind (cond z us vs) f ≡ cond z (bind us f) (bind vs f)
pick-bind true us vs f = refl
pick-bind false us vs f = refl

pick-keep : {A : Type 0} (z : Bool) (l : Level) (us vs : List (Row A)) → cond z (keep l us) (keep l vs) ≡ keep l (cond z us vs)
pick-keep true l us vs = refl
pick-keep false l us vs = refl

abbrev outer : {A B C : Type 0} → List (Row A) → List (Row B) → (A → B → Level) → (A → B → C) → (A → C) → List (Row C)
outer l r on pair nulls = bind l (λ a. or_else (bind r (λ b. keep (on a b) (unit (pair a b)))) (unit (nulls a)))

outer-passing : {A B C : Type 0} (l : List (Row A)) (r : List (Row B)) (on : A → B → Level) (pair : A → B → C) (nulls : A → C) (t : C → Level) (s : A → Level) →
    ((a : A) (b : B) → t (pair a b) ≡ s a) → ((a : A) → t (nulls a) ≡ s a) → passing t (outer l r on pair nulls) ≡ outer (passing s l) r on pair nulls
outer-passing l r on pair nulls t s hp hn =
    bind-bind l (λ a. or_else (bind r (λ b. keep (on a b) (unit (pair a b)))) (unit (nulls a))) (λ c. keep (t c) (unit c))
    ∙ ap (bind l) (fun_ext (λ a.
    pick-bind (nat_eq (how_many (bind r (λ b. keep (on a b) (unit (pair a b))))) 0) (unit (nulls a)) (bind r (λ b. keep (on a b) (unit (pair a b)))) (λ c. keep (t c) (unit c))
    ∙ ap₂ (cond (nat_eq (how_many (bind r (λ b. keep (on a b) (unit (pair a b))))) 0))
    (unit-bind (nulls a) (λ c. keep (t c) (unit c)) ∙ ap (λ m. keep m (unit (nulls a))) (hn a))
    (bind-bind r (λ b. keep (on a b) (unit (pair a b))) (λ c. keep (t c) (unit c))
    ∙ ap (bind r) (fun_ext (λ b.
    sym (keep-bind (on a b) (unit (pair a b)) (λ c. keep (t c) (unit c)))
    ∙ ap (keep (on a b)) (unit-bind (pair a b) (λ c. keep (t c) (unit c)) ∙ ap (λ m. keep m (unit (pair a b))) (hp a b))
    ∙ keep-keep (on a b) (s a) (unit (pair a b)) ∙ ap (λ m. keep m (unit (pair a b))) (least-commutative (on a b) (s a)) ∙ sym (keep-keep (s a) (on a b) (unit (pair a b)))))
    ∙ sym (bind-keep (s a) r (λ b. keep (on a b) (unit (pair a b)))))
    ∙ pick-keep (nat_eq (how_many (bind r (λ b. keep (on a b) (unit (pair a b))))) 0) (s a) (unit (nulls a)) (bind r (λ b. keep (on a b) (unit (pair a b))))
    ∙ ap (keep (s a)) (sym (unit-bind a (λ a. or_else (bind r (λ b. keep (on a b) (unit (pair a b)))) (unit (nulls a)))))
    ∙ keep-bind (s a) (unit a) (λ a. or_else (bind r (λ b. keep (on a b) (unit (pair a b)))) (unit (nulls a)))))
    ∙ sym (bind-bind l (λ a. keep (s a) (unit a)) (λ a. or_else (bind r (λ b. keep (on a b) (unit (pair a b)))) (unit (nulls a))))

pub outer-passes : OuterPasses
outer-passes = λ n env p q left right level own h.
    outer-passing left right (λ a b. (all_true nothing n.parts.conds.items (bound q b (bound p a env))).t) (λ a b. head_cells nothing n.parts.head (bound q b (bound p a env))) (λ a. head_cells nothing n.parts.head (bound q [] (bound p a env))) level own h (λ a. h a [])
