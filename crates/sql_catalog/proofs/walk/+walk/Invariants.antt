use Rattle.std.proofs.Common.{◌≡◌, ◌++◌, drop}
use Rattle.sql_ast.specs.Shown as shown
use Rattle.sql_catalog.specs.TableNames as names
use Rattle.sql_catalog.proofs.walk.+walk.Given as goal

abbrev pub invariant-arm_names-loop-arm : goal.invariant-arm_names-loop-arm
invariant-arm_names-loop-arm l = l.out ++ names.in_arms (shown.arm_list (drop l.arm-index l.arms)) ≡ l.fn.out ++ names.in_arms (shown.arm_list l.arms)

abbrev pub invariant-choice_names-loop-choice : goal.invariant-choice_names-loop-choice
invariant-choice_names-loop-choice l = l.out ++ names.in_choices (shown.choice_list (drop l.choice-index l.choices)) ≡ l.fn.out ++ names.in_choices (shown.choice_list l.choices)

abbrev pub invariant-exprs_names-loop-expr : goal.invariant-exprs_names-loop-expr
invariant-exprs_names-loop-expr l = l.out ++ names.in_exprs (shown.expr_list (drop l.expr-index l.exprs)) ≡ l.fn.out ++ names.in_exprs (shown.expr_list l.exprs)

abbrev pub invariant-from_names-loop-table : goal.invariant-from_names-loop-table
invariant-from_names-loop-table l = l.out ++ names.in_tables (shown.table_list (drop l.table-index l.from)) ≡ l.fn.out ++ names.in_tables (shown.table_list l.from)

abbrev pub invariant-item_names-loop-item : goal.invariant-item_names-loop-item
invariant-item_names-loop-item l = l.out ++ names.in_items (shown.item_list (drop l.item-index l.items)) ≡ l.fn.out ++ names.in_items (shown.item_list l.items)
