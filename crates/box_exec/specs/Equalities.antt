-- Equalities by which rows of a quantifier are found.
use Rattle.std.specs.Prelude.{ℕ, ◌≡◌, ◌||◌, ◌⊎◌, Bool, true, false, not, List, [], map}
use Rattle.std.specs.Ordering.{is_eq}
use Rattle.qgm_meaning.specs.Meaning.{nothing}
use Rattle.qgm_meaning.specs.Values.{Bag, Environment, bound, truth, value}
use Rattle.qgm_terms.specs.Shown.{term}
use Rattle.qgm_terms.specs.Terms.{Cond, Term}
use Rattle.shared_types.specs.declared.compare.CmpOp.TheVariants.{Eq}
use Rattle.sql_value.specs.Cells.{cell_compare}
use Rattle.sql_value.specs.Comparison.{compare, same}
use Rattle.sql_value.specs.declared.cell.Cell.{Cell}
use Rattle.sql_value.specs.declared.cell.Cell.TheVariants.{Int, Text, Null, Err}
use Rattle.sql_value.specs.declared.truth.Truth.{Truth}
use Rattle.box_exec.specs.declared.key.Equality.{Equality}
use Rattle.box_exec.specs.declared.key.Equality.TheVariants.{Same, Equal, Numbers, Texts}
use Rattle.box_exec.specs.declared.key.Key.{Key}

-- ---- cells

-- an equality of two cells
abbrev pub equated : Equality → Cell → Cell → Truth
equated Same x y = same x y
equated Equal x y = compare Eq x y
equated Numbers x y = compare Eq x y
equated Texts x y = compare Eq x y

-- cells that an equality tells from others
abbrev pub is_plain : Equality → Cell → Bool
is_plain Same (Int n) = true
is_plain Same (Text t) = true
is_plain Same Null = true
is_plain Same (Err k) = false
is_plain Equal (Int n) = true
is_plain Equal (Text t) = true
is_plain Equal Null = true
is_plain Equal (Err k) = false
is_plain Numbers (Int n) = true
is_plain Numbers (Text t) = false
is_plain Numbers Null = false
is_plain Numbers (Err k) = false
is_plain Texts (Int n) = false
is_plain Texts (Text t) = true
is_plain Texts Null = false
is_plain Texts (Err k) = false

-- it is true of no cell and this one
abbrev pub is_nowhere : Equality → Cell → Bool
is_nowhere Same y = false
is_nowhere Equal (Int n) = false
is_nowhere Equal (Text t) = false
is_nowhere Equal Null = true
is_nowhere Equal (Err k) = false
is_nowhere Numbers y = false
is_nowhere Texts y = false

-- plain cells of which it isn't true
abbrev pub are_apart : Equality → Cell → Cell → Bool
are_apart by x y = is_nowhere by y || not (is_eq (cell_compare x y))

-- ---- expressions

-- the cell of an expression where nothing but a row of q is bound
abbrev pub own_of : ℕ → Term → List Cell → Cell
own_of q x cells = value nothing x (bound q cells [])

-- the cell of an expression that names no E, A or S quantifier
abbrev pub other_of : Term → Environment → Cell
other_of x env = value nothing x env

-- it goes by the row of q alone
abbrev pub IsOwn : ℕ → Term → Type 0
IsOwn q x = (rows : ℕ → Bag) (cells : List Cell) (env : Environment) → value rows x (bound q cells env) ≡ own_of q x cells

-- it doesn't go by the row of q
abbrev pub IsOther : ℕ → Term → Type 0
IsOther q x = (rows : ℕ → Bag) (cells : List Cell) (env : Environment) → value rows x (bound q cells env) ≡ other_of x env

-- these are the expressions of a key
pub record AreSides (q : ℕ) (a b : Term) (key : Key) : Type 0 where
  pub own_is : term key.own.now ≡ a
  pub other_is : term key.other.now ≡ b
  pub own : IsOwn q a
  pub other : IsOther q b

-- in this order or the other one
abbrev pub AreEither : ℕ → Term → Term → Key → Type 0
AreEither q a b key = AreSides q a b key ⊎ AreSides q b a key

-- where q is bound to a row, a condition is the equality of a key
abbrev pub IsKey : ℕ → Cond → Key → Type 0
IsKey q c key = (rows : ℕ → Bag) (cells : List Cell) (env : Environment) → truth rows c (bound q cells env) ≡ equated key.by (own_of q (term key.own.now) cells) (other_of (term key.other.now) env)

-- ---- lists of keys

abbrev pub owns : ℕ → List Key → List Cell → List Cell
owns q keys cells = map (λ k. own_of q (term k.own.now) cells) keys

abbrev pub others : List Key → Environment → List Cell
others keys env = map (λ k. other_of (term k.other.now) env) keys
