-- Types where boxes change in conditions alone.
use Rattle.std.proofs.Common.{ℕ, suc, zero, ◌==◌, ◌≡◌, ◌&&◌, ◌||◌, ◌<◌, arith, cond, Bool, true, false, List, [], ◌∷◌, ◌++◌, length, map, Option, Some, None, get_or, refl, sym, ap, ap₂, ◌∙◌}
use Rattle.std.specs.Prelude.{slice_get}
use Rattle.std.specs.List.{list_all, list_any}
use Rattle.std.proofs.lemmas.Bool.{and_from, and_parts, or_left, or_parts, or_right}
use mathlib.Core.Path.{fun_ext}
use Rattle.sql_value.specs.declared.order_key.SqlType.{SqlType}
use Rattle.qgm_core.specs.Boxes.{is_box, is_quant, owns, range_in}
use Rattle.list_laws.specs.Lists.{first}
use Rattle.qgm_core.specs.declared.node.Node.{Node}
use Rattle.qgm_core.specs.declared.owned.OwnedQuant.{OwnedQuant}
use Rattle.qgm_terms.specs.Substitution.{column_substituted, substituted, substituted_arms, substituted_cond}
use Rattle.qgm_terms.specs.Terms as t
use Rattle.qgm_terms.specs.Terms.{Arms, Cond, Term}
use Rattle.qgm_terms.specs.Wanted.{any_in, any_in_arms, any_in_cond, reads_at, reads_at_cond, wanted}
use Rattle.qgm_terms.specs.declared.sought.Sought.TheVariants as sought
use Rattle.qgm_wellformed.specs.Columns.{over_box}
use Rattle.qgm_wellformed.specs.Types.{Lookup, agree, aggregate_type, arms_fit, column_type, cond_fits, integer_if, is_integer, is_known, joined_column, lookup_of, op_type, sign_fits, term_type, type_found, type_if, types_after, types_by, types_of}
use Rattle.qgm_wellformed.specs.declared.types.Typed.{Typed}
use Rattle.qgm_edit_laws.specs.Shaped as shaped
use Rattle.qgm_edit_laws.proofs.Edits.{length-map}
use Rattle.std.specs.Prelude as prelude
use Rattle.list_laws.proofs.Membership.{eq-itself}

-- ---- boxes that change in conditions alone

module _ (g : Node → Node) (id : (y : Node) → (g y).id ≡ y.id) (kind : (y : Node) → (g y).parts.kind ≡ y.parts.kind) (head : (y : Node) → (g y).parts.head ≡ y.parts.head) (quants : (y : Node) → (g y).quants ≡ y.quants) where
  range-split : (q : ℕ) (b : Bool) (o : Option Node) (n : Node) → range_in q (cond b (Some n) o) ≡ cond b (first (is_quant q) n.quants) (range_in q o)
  range-split q true o n = refl
  range-split q false o n = refl

  range-map : (q : ℕ) (ns : List Node) → range_in q (first (owns q) (map g ns)) ≡ range_in q (first (owns q) ns)
  range-map q [] = refl
  range-map q (n ∷ ns) =
      range-split q (owns q (g n)) (first (owns q) (map g ns)) (g n)
      ∙ ap₂ (λ (rs : List OwnedQuant) (o : Option OwnedQuant). cond (list_any (is_quant q) rs) (first (is_quant q) rs) o) (quants n) (range-map q ns)
      ∙ sym (range-split q (owns q n) (first (owns q) ns) n)

  type-split : (table : List Typed) (k : ℕ) (b : Bool) (o : Option Node) (n : Node) → type_found table k (cond b (Some n) o) ≡ cond b (type_found table k (Some n)) (type_found table k o)
  type-split table k true o n = refl
  type-split table k false o n = refl

  type-map : (table : List Typed) (k b : ℕ) (ns : List Node) → type_found table k (first (is_box b) (map g ns)) ≡ type_found table k (first (is_box b) ns)
  type-map table k b [] = refl
  type-map table k b (n ∷ ns) =
      type-split table k ((g n).id == b) (first (is_box b) (map g ns)) (g n)
      ∙ ap₂ (λ (i : ℕ) (o : Option SqlType). cond (i == b) (type_found table k (Some (record n { id = i }))) o) (id n) (type-map table k b ns)
      ∙ sym (type-split table k (n.id == b) (first (is_box b) ns) n)

  over-map : (table : List Typed) (k : ℕ) (bs : List Node) (o : Option OwnedQuant) → type_found table k (over_box (map g bs) o) ≡ type_found table k (over_box bs o)
  over-map table k bs None = refl
  over-map table k bs (Some r) = type-map table k r.over bs

  looked-map : (bs : List Node) (table : List Typed) → column_type (map g bs) table ≡ column_type bs table
  looked-map bs table = fun_ext (λ q. fun_ext (λ k. ap (λ o. type_found table k (over_box (map g bs) o)) (range-map q bs) ∙ over-map table k bs (range_in q (first (owns q) bs))))

  abbrev row : Lookup → Node → Typed
  row at n = record { id = n.id; types = types_by at n.parts.kind n.parts.head }

  abbrev row_of : ℕ → List (Option SqlType) → Typed
  row_of i ts = record { id = i; types = ts }

  rows-map : (at : Lookup) (ns : List Node) → map (row at) (map g ns) ≡ map (row at) ns
  rows-map at [] = refl
  rows-map at (n ∷ ns) = ap₂ (λ (x : Typed) (xs : List Typed). x ∷ xs) (ap₂ row_of (id n) (ap₂ (types_by at) (kind n) (head n))) (rows-map at ns)

  after-map : (k : ℕ) (bs : List Node) → types_after k (map g bs) ≡ types_after k bs
  after-map zero bs = refl
  after-map (suc k) bs =
      ap (λ at. map (row at) (map g bs)) (ap (column_type (map g bs)) (after-map k bs) ∙ looked-map bs (types_after k bs))
      ∙ rows-map (column_type bs (types_after k bs)) bs

  pub tables-map : (bs : List Node) → types_of (map g bs) ≡ types_of bs
  tables-map bs = ap (λ k. types_after k (map g bs)) (length-map g bs) ∙ after-map (length bs) bs

  pub lookup-map : (bs : List Node) → lookup_of (map g bs) ≡ lookup_of bs
  lookup-map bs = ap (column_type (map g bs)) (tables-map bs) ∙ looked-map bs (types_of bs)

-- ---- cells in place of columns of the same types

module _ (at : Lookup) (q : ℕ) (cells : List Term) where
  abbrev Good : ℕ → ℕ → Type 0
  Good r k = term_type at (column_substituted q cells r k) ≡ at r k

  mutual
    term-put : (x : Term) → any_in (wanted sought.Node) x ≡ false → ((r k : ℕ) → reads_at r k x ≡ true → Good r k) → term_type at (substituted q cells x) ≡ term_type at x
    term-put (t.int n) h f = refl
    term-put (t.text s) h f = refl
    term-put t.null_int h f = refl
    term-put t.null_text h f = refl
    term-put (t.col r k) h f = f r k (and_from (r == r) (k == k) (eq-itself r) (eq-itself k))
    term-put (t.scalar r) h f = refl
    term-put (t.both op x y) h f =
        let n = or_parts (any_in (wanted sought.Node) x) (any_in (wanted sought.Node) y) h in
        ap₂ (op_type op) (term-put x n.0 (λ r k i. f r k (or_left (reads_at r k x) (reads_at r k y) i))) (term-put y n.1 (λ r k i. f r k (or_right (reads_at r k x) (reads_at r k y) i)))
    term-put (t.minus_of x) h f = ap (λ z. integer_if (is_integer z)) (term-put x h f)
    term-put (t.choose s x) h f =
        let n = or_parts (any_in_arms (wanted sought.Node) s) (any_in (wanted sought.Node) x) h in
        let e = term-put x n.1 (λ r k i. f r k (or_right (any_in_arms (wanted (sought.Cell r k)) s) (reads_at r k x) i)) in
        ap₂ type_if (arms-put s n.0 (λ r k i. f r k (or_left (any_in_arms (wanted (sought.Cell r k)) s) (reads_at r k x) i)) (term_type at (substituted q cells x)) (term_type at x) e) e
    term-put t.count_all h f = refl
    term-put (t.fold a e x) h f = ap (aggregate_type a) (term-put x h f)

    arms-put : (s : Arms) → any_in_arms (wanted sought.Node) s ≡ false → ((r k : ℕ) → any_in_arms (wanted (sought.Cell r k)) s ≡ true → Good r k) → (a b : Option SqlType) → a ≡ b → arms_fit at a (substituted_arms q cells s) ≡ arms_fit at b s
    arms-put t.no_arm h f a b e = refl
    arms-put (t.arm c x s) h f a b e =
        let n = or_parts (any_in_cond (wanted sought.Node) c) (any_in (wanted sought.Node) x || any_in_arms (wanted sought.Node) s) h in
        let m = or_parts (any_in (wanted sought.Node) x) (any_in_arms (wanted sought.Node) s) n.1 in
        ap₂ ◌&&◌ (cond-put c n.0 (λ r k i. f r k (or_left (reads_at_cond r k c) (reads_at r k x || any_in_arms (wanted (sought.Cell r k)) s) i)))
        (ap₂ ◌&&◌ (ap₂ agree (term-put x m.0 (λ r k i. f r k (or_right (reads_at_cond r k c) (reads_at r k x || any_in_arms (wanted (sought.Cell r k)) s) (or_left (reads_at r k x) (any_in_arms (wanted (sought.Cell r k)) s) i)))) e)
        (arms-put s m.1 (λ r k i. f r k (or_right (reads_at_cond r k c) (reads_at r k x || any_in_arms (wanted (sought.Cell r k)) s) (or_right (reads_at r k x) (any_in_arms (wanted (sought.Cell r k)) s) i))) a b e))

    pub cond-put : (c : Cond) → any_in_cond (wanted sought.Node) c ≡ false → ((r k : ℕ) → reads_at_cond r k c ≡ true → Good r k) → cond_fits at (substituted_cond q cells c) ≡ cond_fits at c
    cond-put t.always h f = refl
    cond-put (t.compare sign x y) h f =
        let n = or_parts (any_in (wanted sought.Node) x) (any_in (wanted sought.Node) y) h in
        ap₂ (sign_fits sign) (term-put x n.0 (λ r k i. f r k (or_left (reads_at r k x) (reads_at r k y) i))) (term-put y n.1 (λ r k i. f r k (or_right (reads_at r k x) (reads_at r k y) i)))
    cond-put (t.is_null x) h f = ap is_known (term-put x h f)
    cond-put (t.and c d) h f =
        let n = or_parts (any_in_cond (wanted sought.Node) c) (any_in_cond (wanted sought.Node) d) h in
        ap₂ ◌&&◌ (cond-put c n.0 (λ r k i. f r k (or_left (reads_at_cond r k c) (reads_at_cond r k d) i))) (cond-put d n.1 (λ r k i. f r k (or_right (reads_at_cond r k c) (reads_at_cond r k d) i)))
    cond-put (t.or c d) h f =
        let n = or_parts (any_in_cond (wanted sought.Node) c) (any_in_cond (wanted sought.Node) d) h in
        ap₂ ◌&&◌ (cond-put c n.0 (λ r k i. f r k (or_left (reads_at_cond r k c) (reads_at_cond r k d) i))) (cond-put d n.1 (λ r k i. f r k (or_right (reads_at_cond r k c) (reads_at_cond r k d) i)))
    cond-put (t.not c) h f = cond-put c h f
    cond-put (t.some r c) h f = absurd (let z : ⊥ = cc in z)
    cond-put (t.every r c) h f = absurd (let z : ⊥ = cc in z)

  -- the type of a cell is that of its place
  pub cell-type : (xs : List Term) (i : ℕ) → i < length xs → term_type at (get_or xs i t.null_int) ≡ joined_column (slice_get (map (term_type at) xs) i)
  cell-type [] i h = absurd (omega arith)
  cell-type (x ∷ xs) zero h = refl
  cell-type (x ∷ xs) (suc i) h = cell-type xs i (omega arith)

pub all-without : (p : Cond → Bool) (xs : List Cond) (x : Cond) (ys : List Cond) → list_all p (xs ++ x ∷ ys) ≡ true → list_all p (xs ++ ys) ≡ true
all-without p [] x ys h = (and_parts (p x) (list_all p ys) h).1
all-without p (z ∷ xs) x ys h = let a = and_parts (p z) (list_all p (xs ++ x ∷ ys)) h in and_from (p z) (list_all p (xs ++ ys)) a.0 (all-without p xs x ys a.1)

pub all-one : (p : Cond → Bool) (xs : List Cond) (x : Cond) → list_all p xs ≡ true → p x ≡ true → list_all p (xs ++ x ∷ []) ≡ true
all-one p [] x h k = and_from (p x) true k refl
all-one p (z ∷ xs) x h k = let a = and_parts (p z) (list_all p xs) h in and_from (p z) (list_all p (xs ++ x ∷ [])) a.0 (all-one p xs x a.1 k)

pub all-mid : (p : Cond → Bool) (xs : List Cond) (x : Cond) (ys : List Cond) → list_all p (xs ++ x ∷ ys) ≡ true → p x ≡ true
all-mid p [] x ys h = (and_parts (p x) (list_all p ys) h).0
all-mid p (z ∷ xs) x ys h = all-mid p xs x ys (and_parts (p z) (list_all p (xs ++ x ∷ ys)) h).1
