use Rattle.std.proofs.lemmas.Grind.{common_steps}
use Rattle.std.proofs.Common.{◌≡◌, ◌∙◌, sym, map, true, false, arith}
use Rattle.sql_ast.specs.Shown as shown
use Rattle.sql_ast.specs.Declarations as schema
use Rattle.sql_catalog.proofs.FaultLaws.{fault_limits}
use Rattle.sql_catalog.proofs.faults.refuse_by.Goals as goal

pub returns-then-branch-5-clause-limits : goal.returns-then-branch-5-clause-limits
returns-then-branch-5-clause-limits c = λ _. fault_limits (schema.declares c.args.tables.now (map shown.view c.args.views.now))
    (rw (← c.requires.known, ← c.requires.reads) (sym c.in_ok-reads_unknown.ensures ∙ c.if-branch.false))
    (rw (← c.requires.reads) (sym c.in_ok-is_recursive.ensures ∙ c.if-branch-2.false))
    (rw (← c.requires.known) (sym c.in_ok-has_duplicate.ensures ∙ c.if-branch-3.false))
    (sym c.in_ok-one_has_bad_key.ensures ∙ c.if-branch-4.false)
    true
    (rw (← c.requires.reads) (sym c.in_ok-passes_limits.ensures ∙ c.if-branch-5.true))

pub returns-clause-valid : goal.returns-clause-valid
returns-clause-valid c = fault_limits (schema.declares c.args.tables.now (map shown.view c.args.views.now))
    (rw (← c.requires.known, ← c.requires.reads) (sym c.in_ok-reads_unknown.ensures ∙ c.if-branch.false))
    (rw (← c.requires.reads) (sym c.in_ok-is_recursive.ensures ∙ c.if-branch-2.false))
    (rw (← c.requires.known) (sym c.in_ok-has_duplicate.ensures ∙ c.if-branch-3.false))
    (sym c.in_ok-one_has_bad_key.ensures ∙ c.if-branch-4.false)
    false
    (rw (← c.requires.reads) (sym c.in_ok-passes_limits.ensures ∙ c.if-branch-5.false))

pub returns-then-branch-2-clause-recursive_view : goal.returns-then-branch-2-clause-recursive_view
returns-then-branch-2-clause-recursive_view c = grind (arith, common_steps)

pub returns-then-branch-clause-duplicate_name : goal.returns-then-branch-clause-duplicate_name
returns-then-branch-clause-duplicate_name c = grind (arith, common_steps)

pub returns-clause-recursive_view : goal.returns-clause-recursive_view
returns-clause-recursive_view c = grind (arith, common_steps)

pub returns-then-branch-clause-recursive_view : goal.returns-then-branch-clause-recursive_view
returns-then-branch-clause-recursive_view c = grind (arith, common_steps)

pub returns-then-branch-5-clause-bad_key : goal.returns-then-branch-5-clause-bad_key
returns-then-branch-5-clause-bad_key c = grind (arith, common_steps)

pub returns-then-branch-5-clause-duplicate_name : goal.returns-then-branch-5-clause-duplicate_name
returns-then-branch-5-clause-duplicate_name c = grind (arith, common_steps)

pub returns-then-branch-3-clause-limits : goal.returns-then-branch-3-clause-limits
returns-then-branch-3-clause-limits c = grind (arith, common_steps)

pub returns-then-branch-3-clause-recursive_view : goal.returns-then-branch-3-clause-recursive_view
returns-then-branch-3-clause-recursive_view c = grind (arith, common_steps)

pub returns-then-branch-4-clause-unknown_table : goal.returns-then-branch-4-clause-unknown_table
returns-then-branch-4-clause-unknown_table c = grind (arith, common_steps)

pub returns-then-branch-4-clause-bad_key : goal.returns-then-branch-4-clause-bad_key
returns-then-branch-4-clause-bad_key c = grind (arith, common_steps)

pub returns-clause-unknown_table : goal.returns-clause-unknown_table
returns-clause-unknown_table c = grind (arith, common_steps)

pub returns-then-branch-4-clause-duplicate_name : goal.returns-then-branch-4-clause-duplicate_name
returns-then-branch-4-clause-duplicate_name c = grind (arith, common_steps)

pub returns-then-branch-4-clause-limits : goal.returns-then-branch-4-clause-limits
returns-then-branch-4-clause-limits c = grind (arith, common_steps)

pub returns-then-branch-2-clause-unknown_table : goal.returns-then-branch-2-clause-unknown_table
returns-then-branch-2-clause-unknown_table c = grind (arith, common_steps)

pub returns-then-branch-2-clause-valid : goal.returns-then-branch-2-clause-valid
returns-then-branch-2-clause-valid c = grind (arith, common_steps)

pub returns-then-branch-2-clause-limits : goal.returns-then-branch-2-clause-limits
returns-then-branch-2-clause-limits c = grind (arith, common_steps)

pub returns-clause-limits : goal.returns-clause-limits
returns-clause-limits c = grind (arith, common_steps)

pub returns-then-branch-3-clause-valid : goal.returns-then-branch-3-clause-valid
returns-then-branch-3-clause-valid c = grind (arith, common_steps)

pub returns-then-branch-clause-unknown_table : goal.returns-then-branch-clause-unknown_table
returns-then-branch-clause-unknown_table c = grind (arith, common_steps)

pub returns-then-branch-2-clause-duplicate_name : goal.returns-then-branch-2-clause-duplicate_name
returns-then-branch-2-clause-duplicate_name c = grind (arith, common_steps)

pub returns-then-branch-3-clause-unknown_table : goal.returns-then-branch-3-clause-unknown_table
returns-then-branch-3-clause-unknown_table c = grind (arith, common_steps)

pub returns-then-branch-clause-bad_key : goal.returns-then-branch-clause-bad_key
returns-then-branch-clause-bad_key c = grind (arith, common_steps)

pub returns-clause-duplicate_name : goal.returns-clause-duplicate_name
returns-clause-duplicate_name c = grind (arith, common_steps)

pub returns-then-branch-3-clause-bad_key : goal.returns-then-branch-3-clause-bad_key
returns-then-branch-3-clause-bad_key c = grind (arith, common_steps)

pub returns-then-branch-clause-valid : goal.returns-then-branch-clause-valid
returns-then-branch-clause-valid c = grind (arith, common_steps)

pub returns-then-branch-2-clause-bad_key : goal.returns-then-branch-2-clause-bad_key
returns-then-branch-2-clause-bad_key c = grind (arith, common_steps)

pub returns-then-branch-5-clause-unknown_table : goal.returns-then-branch-5-clause-unknown_table
returns-then-branch-5-clause-unknown_table c = grind (arith, common_steps)

pub returns-clause-bad_key : goal.returns-clause-bad_key
returns-clause-bad_key c = grind (arith, common_steps)

pub returns-then-branch-4-clause-recursive_view : goal.returns-then-branch-4-clause-recursive_view
returns-then-branch-4-clause-recursive_view c = grind (arith, common_steps)

pub returns-then-branch-5-clause-recursive_view : goal.returns-then-branch-5-clause-recursive_view
returns-then-branch-5-clause-recursive_view c = grind (arith, common_steps)

pub returns-then-branch-clause-limits : goal.returns-then-branch-clause-limits
returns-then-branch-clause-limits c = grind (arith, common_steps)

pub returns-then-branch-5-clause-valid : goal.returns-then-branch-5-clause-valid
returns-then-branch-5-clause-valid c = grind (arith, common_steps)

pub returns-then-branch-4-clause-valid : goal.returns-then-branch-4-clause-valid
returns-then-branch-4-clause-valid c = grind (arith, common_steps)

pub returns-then-branch-3-clause-duplicate_name : goal.returns-then-branch-3-clause-duplicate_name
returns-then-branch-3-clause-duplicate_name c = grind (arith, common_steps)
