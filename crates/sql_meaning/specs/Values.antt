-- Cells from cells (SQL-92, 6.9, 6.12 and 6.13).
use Rattle.std.specs.Prelude.{Bool, true, false}
use Rattle.sql_ast.specs.declared.word.AdditiveOp.{AdditiveOp}
use Rattle.sql_ast.specs.declared.word.AdditiveOp.TheVariants as add
use Rattle.sql_ast.specs.declared.word.MultiplicativeOp.{MultiplicativeOp}
use Rattle.sql_ast.specs.declared.word.MultiplicativeOp.TheVariants as mul
use Rattle.sql_ast.specs.declared.word.Sign.{Sign}
use Rattle.sql_ast.specs.declared.word.Sign.TheVariants as sign
use Rattle.sql_value.specs.Arithmetic as a
use Rattle.sql_value.specs.Truths as t
use Rattle.sql_value.specs.declared.cell.Cell.{Cell}
use Rattle.sql_value.specs.declared.cell.Cell.TheVariants.{Err}
use Rattle.sql_value.specs.declared.cell.Kind.TheVariants as kind
use Rattle.sql_value.specs.declared.level.Level.{Level}
use Rattle.sql_value.specs.declared.level.Level.TheVariants.{No, Cardinality, Division, Overflow, Yes}
use Rattle.sql_value.specs.declared.truth.Truth.{Truth}

-- "+", "-" or "||" of two cells
abbrev pub additive : AdditiveOp → Cell → Cell → Cell
additive add.Plus x y = a.add x y
additive add.Minus x y = a.sub x y
additive add.Concat x y = a.concat x y

-- "*" or "/" of two cells
abbrev pub multiplicative : MultiplicativeOp → Cell → Cell → Cell
multiplicative mul.Times x y = a.mul x y
multiplicative mul.Divide x y = a.div x y

-- "+" is nothing, "-" negates
abbrev pub signed : Sign → Cell → Cell
signed sign.Plus x = x
signed sign.Minus x = a.neg x

-- where a condition is true wholly this cell, where it isn't at all the other one, and else its error
abbrev pub case_at : Level → Cell → Cell → Cell
case_at Yes x y = x
case_at No x y = y
case_at Cardinality x y = Err kind.Cardinality
case_at Division x y = Err kind.Division
case_at Overflow x y = Err kind.Overflow

-- CASE WHEN p THEN x ELSE y END
abbrev pub case_of : Truth → Cell → Cell → Cell
case_of p x y = case_at p.t x y

-- NOT of the whole, where NOT is written
abbrev pub perhaps_not : Bool → Truth → Truth
perhaps_not true p = t.negated p
perhaps_not false p = p
