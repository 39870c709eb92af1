use Rattle.std.proofs.Common.{◌≡◌, ◌∙◌, sym, map, Ok, Err, IsErrOf, rules, arith}
use Rattle.sql_ast.specs.Shown as shown
use Rattle.sql_catalog.specs.Shown.{catalog}
use Rattle.sql_ast.specs.Declarations.{declares}
use Rattle.sql_catalog.specs.Catalog.{all_of, declared}
use Rattle.sql_catalog.proofs.FaultLaws.{declared_ok, declared_err}
use Rattle.std.proofs.lemmas.Grind.{common_steps}
use Rattle.sql_catalog.proofs.declare.build.Goals as goal

pub returns-in_err-refuse-clause-limits : goal.returns-in_err-refuse-clause-limits
returns-in_err-refuse-clause-limits c = λ h. declared_err (shown.schema c.args.schema) (catalog c.in_ok-catalog.catalog) 10 c.in_ok-catalog.ensures (rw (← c.as_slice.ensures, ← c.as_slice-2.ensures) (c.refuse.ensures.limits (search (rules, h))))

pub returns-clause-built : goal.returns-clause-built
returns-clause-built c = declared_ok (shown.schema c.args.schema) (catalog c.in_ok-catalog.catalog) c.in_ok-catalog.ensures (rw (← c.as_slice.ensures, ← c.as_slice-2.ensures) c.in_ok-refuse.ensures.valid)

pub returns-clause-bad_key : goal.returns-clause-bad_key
returns-clause-bad_key c = grind (arith, common_steps)

pub returns-clause-duplicate_name : goal.returns-clause-duplicate_name
returns-clause-duplicate_name c = grind (arith, common_steps)

pub returns-clause-limits : goal.returns-clause-limits
returns-clause-limits c = grind (arith, common_steps)

pub returns-clause-recursive_view : goal.returns-clause-recursive_view
returns-clause-recursive_view c = grind (arith, common_steps)

pub returns-clause-unknown_table : goal.returns-clause-unknown_table
returns-clause-unknown_table c = grind (arith, common_steps)
