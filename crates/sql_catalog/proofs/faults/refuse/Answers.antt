use Rattle.std.proofs.Common.{arith}
use Rattle.std.proofs.lemmas.Grind.{common_steps}
use Rattle.sql_catalog.proofs.faults.refuse.Goals as goal

pub returns-clause-unknown_table : goal.returns-clause-unknown_table
returns-clause-unknown_table c = grind (arith, common_steps)

pub returns-clause-bad_key : goal.returns-clause-bad_key
returns-clause-bad_key c = grind (arith, common_steps)

pub returns-clause-valid : goal.returns-clause-valid
returns-clause-valid c = grind (arith, common_steps)

pub returns-clause-recursive_view : goal.returns-clause-recursive_view
returns-clause-recursive_view c = grind (arith, common_steps)

pub refuse_by-requires-clause-known : goal.refuse_by-requires-clause-known
refuse_by-requires-clause-known c = grind (arith, common_steps)

pub returns-clause-duplicate_name : goal.returns-clause-duplicate_name
returns-clause-duplicate_name c = grind (arith, common_steps)

pub returns-clause-limits : goal.returns-clause-limits
returns-clause-limits c = grind (arith, common_steps)

pub refuse_by-requires-clause-reads : goal.refuse_by-requires-clause-reads
refuse_by-requires-clause-reads c = grind (arith, common_steps)
