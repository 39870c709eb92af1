-- Comparison, null-safe equality, and the test for null.
use Rattle.std.specs.Prelude.{Bool, true, false}
use Rattle.std.specs.Cmp.Lexicographic.{slice_cmp}
use Rattle.std.specs.Ordering.{nat_cmp, int_cmp, is_eq, is_ne, is_lt, is_le, is_gt, is_ge}
use Rattle.std.specs.declared.cmp.Ordering.{Ordering}
use Rattle.shared_types.specs.declared.compare.CmpOp.{CmpOp}
use Rattle.shared_types.specs.declared.compare.CmpOp.TheVariants.{Eq, Ne, Lt, Le, Gt, Ge}
use Rattle.sql_value.specs.declared.cell.Cell.{Cell}
use Rattle.sql_value.specs.declared.cell.Cell.TheVariants.{Int, Text, Null, Err}
use Rattle.sql_value.specs.declared.truth.Truth.{Truth}
use Rattle.sql_value.specs.Cells.{cell_compare, worst}
use Rattle.sql_value.specs.Truths.{error, error_or, truth_of, unknown}

-- an operator holds of two values in this order
abbrev pub passes : CmpOp → Ordering → Bool
passes Eq o = is_eq o
passes Ne o = is_ne o
passes Lt o = is_lt o
passes Le o = is_le o
passes Gt o = is_gt o
passes Ge o = is_ge o

-- two numbers by value, two texts by code point and without padding; unknown of other cells
abbrev pub compare_values : CmpOp → Cell → Cell → Truth
compare_values op (Int m) (Int n) = truth_of (passes op (int_cmp m n))
compare_values op (Text s) (Text t) = truth_of (passes op (slice_cmp nat_cmp s t))
compare_values op _ _ = unknown

-- the greatest error among the operands, and else the comparison of the values
abbrev pub compare : CmpOp → Cell → Cell → Truth
compare op a b = error_or (worst a b) (compare_values op a b)

-- the greatest error among the operands, and else whether both are null or both the same value
abbrev pub same : Cell → Cell → Truth
same a b = error_or (worst a b) (truth_of (is_eq (cell_compare a b)))

-- true of null, false of a number and of a text; an error stays
abbrev pub is_null : Cell → Truth
is_null (Err k) = error k
is_null Null = truth_of true
is_null _ = truth_of false
