-- The types that expressions have, by the types of the columns of quantifiers.
use Rattle.std.specs.Prelude.{ℕ, zero, suc, List, [], ◌∷◌, Option, Some, None, get_or}
use Rattle.sql_value.specs.declared.order_key.SqlType.{SqlType}
use Rattle.sql_value.specs.declared.order_key.SqlType.TheVariants.{Integer, Varchar}
use Rattle.qgm_terms.specs.Terms.{Aggregate, single, count, sum, avg, least, greatest, Link}
use Rattle.qgm_terms.specs.Terms.{Term, int, text, null_int, null_text, col, scalar, both, minus_of, choose, count_all, fold}
use Rattle.qgm_terms.specs.declared.tree.Op.{Op}
use Rattle.qgm_terms.specs.declared.tree.Op.TheVariants.{Add, Sub, Mul, Div, Cat}

abbrev pub type_or : Option SqlType → SqlType
type_or None = Integer
type_or (Some type) = type

abbrev pub row_or : Option (List SqlType) → List SqlType
row_or None = []
row_or (Some types) = types

-- the type of a column, by its place from 1; INTEGER where it isn't known, which no valid query names
abbrev pub type_at : List SqlType → ℕ → SqlType
type_at types zero = Integer
type_at types (suc k) = get_or types k Integer

-- rows: by the numbers of quantifiers the types of their columns
abbrev pub column_type : List (List SqlType) → ℕ → ℕ → SqlType
column_type rows q k = type_at (get_or rows q []) k

abbrev pub op_type : Op → SqlType
op_type Add = Integer
op_type Sub = Integer
op_type Mul = Integer
op_type Div = Integer
op_type Cat = Varchar

-- of an argument of this type
abbrev pub aggregate_type : Aggregate → SqlType → SqlType
aggregate_type single type = type
aggregate_type count type = Integer
aggregate_type sum type = Integer
aggregate_type avg type = Integer
aggregate_type least type = type
aggregate_type greatest type = type

-- the type of an expression; that of a CASE is that of its last result
abbrev pub typed_by : List (List SqlType) → Term → SqlType
typed_by rows (int n) = Integer
typed_by rows (text s) = Varchar
typed_by rows null_int = Integer
typed_by rows null_text = Varchar
typed_by rows (col q k) = column_type rows q k
typed_by rows (scalar q) = column_type rows q 1
typed_by rows (both op x y) = op_type op
typed_by rows (minus_of x) = Integer
typed_by rows (choose arms x) = typed_by rows x
typed_by rows count_all = Integer
typed_by rows (fold f taken x) = aggregate_type f (typed_by rows x)

-- the type of a chain, whose first operand has this type
abbrev pub chain_type : SqlType → List Link → SqlType
chain_type type [] = type
chain_type type (l ∷ ls) = chain_type (op_type l.op) ls
