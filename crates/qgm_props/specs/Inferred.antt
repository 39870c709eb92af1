-- What is inferred of the boxes of a graph, sentence by sentence.
use Rattle.std.specs.Prelude.{ℕ, zero, suc, pos, negsuc, ◌≡◌, ◌==◌, ◌&&◌, ◌||◌, nat_lt, nat_le, if◌then◌else◌, Bool, true, false, List, length, take}
use Rattle.std.specs.List.{list_any, list_all}
use Rattle.sql_value.specs.Arithmetic.{fits_i64}
use Rattle.qgm_core.specs.Boxes.{is_box, is_quant, width}
use Rattle.list_laws.specs.Lists.{first, holds}
use Rattle.qgm_core.specs.declared.kinds.BoxKind.{BoxKind}
use Rattle.qgm_core.specs.declared.kinds.BoxKind.TheVariants.{Base, Select, Group, SetOp, OuterJoin}
use Rattle.qgm_core.specs.declared.kinds.SetOperator.{SetOperator}
use Rattle.qgm_core.specs.declared.kinds.SetOperator.TheVariants.{UnionAll, Union, IntersectAll, Intersect, ExceptAll, Except}
use Rattle.qgm_core.specs.declared.node.Node.{Node}
use Rattle.qgm_core.specs.declared.owned.OwnedQuant.{OwnedQuant}
use Rattle.qgm_terms.specs.Terms as t
use Rattle.qgm_terms.specs.Terms.{Term, int, text, null_int, null_text, col, scalar, both, minus_of, choose, count_all, fold, Arms, no_arm, arm, Cond, always, compare, is_null, and, or, not, some, every}
use Rattle.qgm_terms.specs.declared.tree.Op.{Op}
use Rattle.qgm_terms.specs.declared.tree.Op.TheVariants.{Add, Sub, Mul, Div, Cat}
pub use Rattle.qgm_props.specs.Under.{of_over, of_quant, all_under, all_under_F, under_first, under_second, under_two, all_places, of_cell, at_place, no_cond, of_box}

-- facts of boxes by their numbers, and of columns, whose places count from 1
pub record Facts : Type 0 where
  -- no row is at an error level
  pub clean : ℕ → Bool
  -- the column holds no error, and no null
  pub error_free : ℕ → ℕ → Bool
  pub not_null : ℕ → ℕ → Bool
  -- how many rows there are
  pub at_most_one : ℕ → Bool
  pub exactly_one : ℕ → Bool

-- ---- words of expressions

-- a literal that is neither 0 nor -1: a divisor by which nothing fails
abbrev pub divides : Term → Bool
divides (int (pos zero)) = false
divides (int (pos (suc n))) = true
divides (int (negsuc zero)) = false
divides (int (negsuc (suc n))) = true
divides (text s) = false
divides null_int = false
divides null_text = false
divides (col q k) = false
divides (scalar q) = false
divides (both o x y) = false
divides (minus_of x) = false
divides (choose s x) = false
divides count_all = false
divides (fold f d x) = false

-- an operation on error-free operands, of which this is the right one, is error-free: concatenation, and division by such a literal; other arithmetic isn't
abbrev pub keeps_free : Op → Term → Bool
keeps_free Add y = false
keeps_free Sub y = false
keeps_free Mul y = false
keeps_free Div y = divides y
keeps_free Cat y = true

-- an aggregate of an error-free argument is error-free: COUNT, AVG, MIN and MAX, and the cell of at most one row; SUM never
abbrev pub fold_free : Bool → t.Aggregate → Bool
fold_free one t.single = one
fold_free one t.count = true
fold_free one t.sum = false
fold_free one t.avg = true
fold_free one t.least = true
fold_free one t.greatest = true

-- COUNT is never null
abbrev pub counts : t.Aggregate → Bool
counts t.single = false
counts t.count = true
counts t.sum = false
counts t.avg = false
counts t.least = false
counts t.greatest = false

abbrev pub is_count : Term → Bool
is_count count_all = true
is_count (fold f d x) = counts f
is_count (int n) = false
is_count (text s) = false
is_count null_int = false
is_count null_text = false
is_count (col q k) = false
is_count (scalar q) = false
is_count (both o x y) = false
is_count (minus_of x) = false
is_count (choose s x) = false

-- of boxes and facts that are known of them
module _ (boxes : List Node) (known : Facts) where
  -- ---- error-free expressions and conditions

  -- what is known of the box under a quantifier
  abbrev pub clean_under : ℕ → Bool
  clean_under = of_quant boxes known.clean

  abbrev pub error_free_under : ℕ → ℕ → Bool
  error_free_under q k = of_quant boxes (λ b. known.error_free b k) q

  abbrev pub not_null_under : ℕ → ℕ → Bool
  not_null_under q k = of_quant boxes (λ b. known.not_null b k) q

  abbrev pub single_under : ℕ → Bool
  single_under = of_quant boxes known.at_most_one

  abbrev mutual
    -- an expression; one tells whether an aggregate is of at most one row
    -- literals and nulls; error-free columns; a scalar of a clean box of at most one row whose column is; concatenation, CASE and division by a literal, of error-free parts; aggregates
    pub is_free : Bool → Term → Bool
    is_free one (int n) = fits_i64 n
    is_free one (text s) = true
    is_free one null_int = true
    is_free one null_text = true
    is_free one (col q k) = error_free_under q k
    is_free one (scalar q) = clean_under q && (single_under q && error_free_under q 1)
    is_free one (both o x y) = keeps_free o y && (is_free one x && is_free one y)
    is_free one (minus_of x) = false
    is_free one (choose s x) = arms_free one s && is_free one x
    is_free one count_all = true
    is_free one (fold f d x) = fold_free one f && is_free one x

    -- the conditions and the results of a CASE
    pub arms_free : Bool → Arms → Bool
    arms_free one no_arm = true
    arms_free one (arm p x s) = cond_free one p && (is_free one x && arms_free one s)

    -- a condition all of whose parts are; some and every of a clean box
    pub cond_free : Bool → Cond → Bool
    cond_free one always = true
    cond_free one (compare sign x y) = is_free one x && is_free one y
    cond_free one (is_null x) = is_free one x
    cond_free one (and p q) = cond_free one p && cond_free one q
    cond_free one (or p q) = cond_free one p && cond_free one q
    cond_free one (not p) = cond_free one p
    cond_free one (some q p) = clean_under q && cond_free one p
    cond_free one (every q p) = clean_under q && cond_free one p

  -- ---- error-free columns

  -- that of a union where both arms' columns are; of INTERSECT and EXCEPT where the box is clean too
  abbrev pub free_op : SetOperator → ℕ → List OwnedQuant → ℕ → Bool
  free_op UnionAll b rs k = under_two (λ b. known.error_free b k) rs
  free_op Union b rs k = under_two (λ b. known.error_free b k) rs
  free_op IntersectAll b rs k = known.clean b && under_two (λ b. known.error_free b k) rs
  free_op Intersect b rs k = known.clean b && under_two (λ b. known.error_free b k) rs
  free_op ExceptAll b rs k = known.clean b && under_two (λ b. known.error_free b k) rs
  free_op Except b rs k = known.clean b && under_two (λ b. known.error_free b k) rs

  -- that of a base; of a select or an outer join as its cell; of a clean group as its cell, whose aggregates are of its rows
  abbrev pub free_by : BoxKind → Node → ℕ → Bool
  free_by (Base table) n k = true
  free_by Select n k = at_place (is_free false) n.parts.head k
  free_by (Group keys) n k = known.clean n.id && at_place (is_free (under_first known.at_most_one n.quants)) n.parts.head k
  free_by (SetOp form types) n k = free_op form n.id n.quants k
  free_by OuterJoin n k = at_place (is_free false) n.parts.head k

  -- ---- clean boxes

  -- each column of both arms is error-free
  abbrev pub arms_error_free : ℕ → List OwnedQuant → Bool
  arms_error_free w rs = all_places w (λ k. under_two (λ b. known.error_free b k) rs)

  -- a union of clean arms; INTERSECT and EXCEPT of clean arms with error-free columns
  abbrev pub clean_op : SetOperator → ℕ → List OwnedQuant → Bool
  clean_op UnionAll w rs = under_two known.clean rs
  clean_op Union w rs = under_two known.clean rs
  clean_op IntersectAll w rs = under_two known.clean rs && arms_error_free w rs
  clean_op Intersect w rs = under_two known.clean rs && arms_error_free w rs
  clean_op ExceptAll w rs = under_two known.clean rs && arms_error_free w rs
  clean_op Except w rs = under_two known.clean rs && arms_error_free w rs

  -- a base; a select over clean F boxes with error-free conditions; a group of clean rows with error-free keys; an outer join of clean arms with error-free conditions
  abbrev pub clean_by : BoxKind → Node → Bool
  clean_by (Base table) n = true
  clean_by Select n = all_under_F known.clean n.quants && list_all (cond_free false) n.parts.conds.items
  clean_by (Group k) n = under_first known.clean n.quants && list_all (is_free false) (take k n.parts.head)
  clean_by (SetOp form types) n = clean_op form (length types) n.quants
  clean_by OuterJoin n = under_two known.clean n.quants && list_all (cond_free false) n.parts.conds.items

  -- ---- rows

  -- a group of some rows without keys; a select without conditions over F boxes of exactly one row; an outer join of exactly one row and at most one
  abbrev pub exactly_one_by : BoxKind → Node → Bool
  exactly_one_by (Base table) n = false
  exactly_one_by Select n = all_under_F known.exactly_one n.quants && no_cond n.parts.conds.items
  exactly_one_by (Group k) n = (k == 0) && under_first (λ b. true) n.quants
  exactly_one_by (SetOp form types) n = false
  exactly_one_by OuterJoin n = under_first known.exactly_one n.quants && under_second known.at_most_one n.quants

  -- a select over F boxes of at most one row; an outer join of at most one row and at most one
  abbrev pub at_most_one_by : BoxKind → Node → Bool
  at_most_one_by (Base table) n = false
  at_most_one_by Select n = all_under_F known.at_most_one n.quants
  at_most_one_by (Group k) n = false
  at_most_one_by (SetOp form types) n = false
  at_most_one_by OuterJoin n = under_two known.at_most_one n.quants

  -- ---- columns without null

  -- a literal, and a column that holds no null
  abbrev pub holds_value : Term → Bool
  holds_value (int n) = true
  holds_value (text s) = true
  holds_value null_int = false
  holds_value null_text = false
  holds_value (col q k) = not_null_under q k
  holds_value (scalar q) = false
  holds_value (both o x y) = false
  holds_value (minus_of x) = false
  holds_value (choose s x) = false
  holds_value count_all = false
  holds_value (fold f d x) = false

  -- the same where a column is one of the first quantifier
  abbrev pub holds_left : List OwnedQuant → Term → Bool
  holds_left rs (col q k) = list_any (is_quant q) (take 1 rs) && not_null_under q k
  holds_left rs (int n) = true
  holds_left rs (text s) = true
  holds_left rs null_int = false
  holds_left rs null_text = false
  holds_left rs (scalar q) = false
  holds_left rs (both o x y) = false
  holds_left rs (minus_of x) = false
  holds_left rs (choose s x) = false
  holds_left rs count_all = false
  holds_left rs (fold f d x) = false

  -- a declared column; such a cell; COUNT; of an outer join such a cell of the left box; never of a set operation
  abbrev pub not_null_by : BoxKind → Node → ℕ → Bool
  not_null_by (Base table) n k = holds k table.not_null
  not_null_by Select n k = at_place holds_value n.parts.head k
  not_null_by (Group keys) n k = if nat_le k keys then at_place holds_value n.parts.head k else at_place is_count n.parts.head k
  not_null_by (SetOp form types) n k = false
  not_null_by OuterJoin n k = at_place (holds_left n.quants) n.parts.head k

  -- ---- the facts of a box by the facts that are known; a box of exactly one row has at most one

  abbrev pub inferred_once : Facts
  inferred_once = record {
    clean = λ b. of_box false (λ n. clean_by n.parts.kind n) (first (is_box b) boxes);
    error_free = λ b k. of_box false (λ n. (nat_lt 0 k && nat_le k (width n)) && free_by n.parts.kind n k) (first (is_box b) boxes);
    not_null = λ b k. of_box false (λ n. (nat_lt 0 k && nat_le k (width n)) && not_null_by n.parts.kind n k) (first (is_box b) boxes);
    at_most_one = λ b. of_box false (λ n. known.exactly_one b || at_most_one_by n.parts.kind n) (first (is_box b) boxes);
    exactly_one = λ b. of_box false (λ n. exactly_one_by n.parts.kind n) (first (is_box b) boxes);
  }

-- ---- what is inferred

pub data Fact : Type 0 where
  clean : ℕ → Fact
  error_free : ℕ → ℕ → Fact
  not_null : ℕ → ℕ → Fact
  at_most_one : ℕ → Fact
  exactly_one : ℕ → Fact

abbrev pub says : Facts → Fact → Bool
says known (clean b) = known.clean b
says known (error_free b k) = known.error_free b k
says known (not_null b k) = known.not_null b k
says known (at_most_one b) = known.at_most_one b
says known (exactly_one b) = known.exactly_one b

-- no sentence infers more
abbrev pub Closed : List Node → Facts → Type 0
Closed boxes known = (fact : Fact) → says (inferred_once boxes known) fact ≡ true → says known fact ≡ true

-- a fact that is in every set of facts to which no sentence adds
abbrev pub Inferred : List Node → Fact → Type 0
Inferred boxes fact = (known : Facts) → Closed boxes known → says known fact ≡ true
