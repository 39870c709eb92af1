use Rattle.std.proofs.Common.{arith}
use Rattle.std.proofs.lemmas.Grind.{common_steps}
use Rattle.sql_parser.proofs.schema.table_decl.Goals as goal

pub returns : goal.returns
returns c = grind (arith, common_steps)

pub returns-in_default : goal.returns-in_default
returns-in_default c = grind (arith, common_steps)

pub returns-in_err-elements : goal.returns-in_err-elements
returns-in_err-elements c = grind (arith, common_steps)

pub returns-in_err-rest : goal.returns-in_err-rest
returns-in_err-rest c = grind (arith, common_steps)

pub slice_bounds-rest-count : goal.slice_bounds-rest-count
slice_bounds-rest-count c = grind (arith, common_steps)

pub bounds-ts-0 : goal.bounds-ts-0
bounds-ts-0 c = grind (arith, common_steps)

pub bounds-1 : goal.bounds-1
bounds-1 c = grind (arith, common_steps)

pub slice_bounds-rest-start : goal.slice_bounds-rest-start
slice_bounds-rest-start c = grind (arith, common_steps)

pub bounds-0 : goal.bounds-0
bounds-0 c = grind (arith, common_steps)
