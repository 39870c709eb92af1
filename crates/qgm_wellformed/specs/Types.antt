-- The types of columns, and where types disagree.
use Rattle.std.specs.Prelude.{ℕ, ◌≡◌, ◌==◌, ◌-◌, nat_eq, nat_lt, ◌&&◌, zero, suc, if◌then◌else◌, Bool, true, false, List, [], ◌∷◌, map, length, Option, Some, None, slice_get}
use Rattle.std.specs.HashMap.{HashMap, get}
use Rattle.std.specs.List.{list_all}
use Rattle.sql_value.specs.declared.order_key.SqlType.{SqlType}
use Rattle.sql_value.specs.declared.order_key.SqlType.TheVariants.{Integer, Varchar}
use Rattle.qgm_core.specs.Free.{named_by}
use Rattle.list_laws.specs.Lists.{first}
use Rattle.qgm_core.specs.declared.kinds.BoxKind.{BoxKind}
use Rattle.qgm_core.specs.declared.kinds.BoxKind.TheVariants.{Base, Select, Group, SetOp, OuterJoin}
use Rattle.qgm_core.specs.declared.node.Node.{Node}
use Rattle.qgm_core.specs.declared.owned.OwnedQuant.{OwnedQuant}
use Rattle.qgm_terms.specs.Terms.{Aggregate, single, count, sum, avg, least, greatest, Sign, equal, unequal, below, at_most, above, at_least, same, like, Link, Choice}
use Rattle.qgm_terms.specs.Terms.{Term, int, text, null_int, null_text, col, scalar, both, minus_of, choose, count_all, fold, Arms, no_arm, arm, Cond, always, compare, is_null, and, or, not, some, every}
use Rattle.qgm_terms.specs.declared.tree.Op.{Op}
use Rattle.qgm_terms.specs.declared.tree.Op.TheVariants.{Add, Sub, Mul, Div, Cat}
use Rattle.qgm_wellformed.specs.Columns.{box_under}
use Rattle.qgm_wellformed.specs.Places.{ArePlaces}
use Rattle.qgm_wellformed.specs.declared.types.KnownTypes.{KnownTypes}
use Rattle.qgm_wellformed.specs.declared.types.Typed.{Typed}

-- ---- types

abbrev pub is_known : Option SqlType → Bool
is_known None = false
is_known (Some t) = true

abbrev pub is_unknown : Option SqlType → Bool
is_unknown None = true
is_unknown (Some t) = false

abbrev pub is_integer : Option SqlType → Bool
is_integer None = false
is_integer (Some Integer) = true
is_integer (Some Varchar) = false

abbrev pub is_varchar : Option SqlType → Bool
is_varchar None = false
is_varchar (Some Integer) = false
is_varchar (Some Varchar) = true

-- both types are known and the same
abbrev pub agree : Option SqlType → Option SqlType → Bool
agree a b = if is_integer a then is_integer b else is_varchar a && is_varchar b

-- as many types, place by place known and the same
abbrev pub all_agree : List (Option SqlType) → List (Option SqlType) → Bool
all_agree [] [] = true
all_agree [] (b ∷ bs) = false
all_agree (a ∷ rest) [] = false
all_agree (a ∷ rest) (b ∷ bs) = agree a b && all_agree rest bs

abbrev pub integer_if : Bool → Option SqlType
integer_if fits = if fits then Some Integer else None

abbrev pub varchar_if : Bool → Option SqlType
varchar_if fits = if fits then Some Varchar else None

abbrev pub type_if : Bool → Option SqlType → Option SqlType
type_if fits known = if fits then known else None

abbrev pub op_type : Op → Option SqlType → Option SqlType → Option SqlType
op_type Add a b = integer_if (is_integer a && is_integer b)
op_type Sub a b = integer_if (is_integer a && is_integer b)
op_type Mul a b = integer_if (is_integer a && is_integer b)
op_type Div a b = integer_if (is_integer a && is_integer b)
op_type Cat a b = varchar_if (is_varchar a && is_varchar b)

abbrev pub aggregate_type : Aggregate → Option SqlType → Option SqlType
aggregate_type single a = a
aggregate_type count a = integer_if (is_known a)
aggregate_type sum a = integer_if (is_integer a)
aggregate_type avg a = integer_if (is_integer a)
aggregate_type least a = a
aggregate_type greatest a = a

abbrev pub sign_fits : Sign → Option SqlType → Option SqlType → Bool
sign_fits equal a b = agree a b
sign_fits unequal a b = agree a b
sign_fits below a b = agree a b
sign_fits at_most a b = agree a b
sign_fits above a b = agree a b
sign_fits at_least a b = agree a b
sign_fits same a b = agree a b
sign_fits like a b = is_varchar a && is_varchar b

-- ---- expressions and conditions, by the types of columns

abbrev pub Lookup : Type 0
Lookup = ℕ → ℕ → Option SqlType

-- the type of an expression, none where types disagree
abbrev mutual
  pub term_type : Lookup → Term → Option SqlType
  term_type at (int n) = Some Integer
  term_type at (text s) = Some Varchar
  term_type at null_int = Some Integer
  term_type at null_text = Some Varchar
  term_type at (col q k) = at q k
  term_type at (scalar q) = at q 1
  term_type at (both op a b) = op_type op (term_type at a) (term_type at b)
  term_type at (minus_of a) = integer_if (is_integer (term_type at a))
  term_type at (choose s a) = type_if (arms_fit at (term_type at a) s) (term_type at a)
  term_type at count_all = Some Integer
  term_type at (fold f e a) = aggregate_type f (term_type at a)

  -- each result has the type of the last one
  pub arms_fit : Lookup → Option SqlType → Arms → Bool
  arms_fit at type no_arm = true
  arms_fit at type (arm c a s) = cond_fits at c && (agree (term_type at a) type && arms_fit at type s)

  -- what is compared has one type
  pub cond_fits : Lookup → Cond → Bool
  cond_fits at always = true
  cond_fits at (compare sign a b) = sign_fits sign (term_type at a) (term_type at b)
  cond_fits at (is_null a) = is_known (term_type at a)
  cond_fits at (and a b) = cond_fits at a && cond_fits at b
  cond_fits at (or a b) = cond_fits at a && cond_fits at b
  cond_fits at (not a) = cond_fits at a
  cond_fits at (some q a) = cond_fits at a
  cond_fits at (every q a) = cond_fits at a

-- of the operands behind a first one, of conditions with their results, of conditions
abbrev pub chain_type : Lookup → Option SqlType → List Link → Option SqlType
chain_type at first [] = first
chain_type at first (l ∷ ls) = chain_type at (op_type l.op first (term_type at l.right)) ls

abbrev pub choices_fit : Lookup → Option SqlType → List Choice → Bool
choices_fit at type [] = true
choices_fit at type (c ∷ cs) = cond_fits at c.when && (agree (term_type at c.then) type && choices_fit at type cs)

-- ---- the types of columns

abbrev pub is_typed : ℕ → Typed → Bool
is_typed b t = t.id == b

abbrev pub joined_column : Option (Option SqlType) → Option SqlType
joined_column None = None
joined_column (Some t) = t

abbrev pub type_in : ℕ → Option Typed → Option SqlType
type_in k None = None
type_in k (Some t) = if k == 0 then None else joined_column (slice_get t.types (k - 1))

abbrev pub type_found : List Typed → ℕ → Option Node → Option SqlType
type_found table k None = None
type_found table k (Some n) = type_in k (first (is_typed n.id) table)

-- the type of a column, from what is known of the boxes
abbrev pub column_type : List Node → List Typed → Lookup
column_type boxes table q k = type_found table k (box_under boxes q)

abbrev pub known : List SqlType → List (Option SqlType)
known types = map (λ t. Some t) types

abbrev pub types_by : Lookup → BoxKind → List Term → List (Option SqlType)
types_by at (Base table) head = known table.types
types_by at Select head = map (term_type at) head
types_by at (Group keys) head = map (term_type at) head
types_by at (SetOp operator types) head = known types
types_by at OuterJoin head = map (term_type at) head

abbrev pub typed_by : Lookup → Node → Typed
typed_by at n = record { id = n.id; types = types_by at n.parts.kind n.parts.head }

abbrev pub typed : List Node → List Typed → Node → Typed
typed bs t n = typed_by (column_type bs t) n

-- the types of the columns of all boxes, looked up through so many heads
abbrev pub types_after : ℕ → List Node → List Typed
types_after zero bs = []
types_after (suc m) bs = map (typed bs (types_after m bs)) bs

-- looked up as often as there are boxes
abbrev pub types_of : List Node → List Typed
types_of bs = types_after (length bs) bs

-- ---- where types agree

abbrev pub types_found : Option Typed → List (Option SqlType)
types_found None = []
types_found (Some t) = t.types

-- the box that a quantifier ranges over has columns of these types
abbrev pub arm_agrees : List Typed → List SqlType → OwnedQuant → Bool
arm_agrees table types r = all_agree (types_found (first (is_typed r.over) table)) (known types)

-- the arms of a set operation have its types
abbrev pub arms_agree : List Typed → BoxKind → List OwnedQuant → Bool
arms_agree table (Base t) rs = true
arms_agree table Select rs = true
arms_agree table (Group keys) rs = true
arms_agree table (SetOp operator types) rs = list_all (arm_agrees table types) rs
arms_agree table OuterJoin rs = true

-- each expression has a type, each condition compares what can be compared, and the arms of a set operation have its types
abbrev pub types_agree_at : Lookup → List Typed → Node → Bool
types_agree_at at t n =
    list_all (λ x. is_known (term_type at x)) n.parts.head && (list_all (cond_fits at) n.parts.conds.items && arms_agree t n.parts.kind n.quants)

-- the same from what is known of the boxes
abbrev pub types_agree_by : List Node → List Typed → Node → Bool
types_agree_by bs t n = types_agree_at (column_type bs t) t n

abbrev pub types_agree : List Node → Node → Bool
types_agree bs n = types_agree_by bs (types_of bs) n

-- ---- the same, by the ranks of boxes

-- the row of a table at the place of a quantifier
abbrev pub row_at : List Typed → Option ℕ → Option Typed
row_at table None = None
row_at table (Some i) = slice_get table i

-- what a quantifier ranges over stands behind place i, if it ranges over a box
abbrev pub is_behind : ℕ → Option ℕ → Bool
is_behind i None = true
is_behind i (Some p) = nat_lt i p

module _ {S : Type 0} where
  -- the type of a column, where the places of the boxes are known
  abbrev pub type_at : List Typed → HashMap ℕ ℕ S → Lookup
  type_at table places q k = type_in k (row_at table (get nat_eq places q))

  -- a box at place i names only quantifiers over boxes behind it
  abbrev pub reads_behind : HashMap ℕ ℕ S → ℕ → Node → Bool
  reads_behind places i n = list_all (λ q. is_behind i (get nat_eq places q)) (named_by n)

  -- each of the boxes from place i on names only quantifiers over boxes behind it
  abbrev pub all_read_behind : HashMap ℕ ℕ S → ℕ → List Node → Bool
  all_read_behind places i [] = true
  all_read_behind places i (n ∷ ns) = reads_behind places i n && all_read_behind places (suc i) ns

-- the types of all columns are known, and the places of the boxes
abbrev pub Knows : List Node → KnownTypes → Type 0
Knows boxes known = (known.table.items ≡ types_of boxes) × ArePlaces boxes known.places

-- the type of a column, as it is known
abbrev pub lookup_by : KnownTypes → Lookup
lookup_by known = type_at known.table.items known.places

-- no types disagree in a box, as they are known
abbrev pub types_agree_as_known : KnownTypes → Node → Bool
types_agree_as_known known n = types_agree_at (lookup_by known) known.table.items n

-- the type of a column of boxes
abbrev pub lookup_of : List Node → Lookup
lookup_of boxes = column_type boxes (types_of boxes)

-- ---- tables that are the same

abbrev pub same_type : Option SqlType → Option SqlType → Bool
same_type None b = is_unknown b
same_type (Some Integer) b = is_integer b
same_type (Some Varchar) b = is_varchar b

abbrev pub same_columns : List (Option SqlType) → List (Option SqlType) → Bool
same_columns [] [] = true
same_columns [] (b ∷ bs) = false
same_columns (a ∷ rest) [] = false
same_columns (a ∷ rest) (b ∷ bs) = same_type a b && same_columns rest bs

abbrev pub same_typed : Typed → Typed → Bool
same_typed a b = (a.id == b.id) && same_columns a.types b.types

abbrev pub same_tables : List Typed → List Typed → Bool
same_tables [] [] = true
same_tables [] (b ∷ bs) = false
same_tables (a ∷ rest) [] = false
same_tables (a ∷ rest) (b ∷ bs) = same_typed a b && same_tables rest bs
