use Rattle.std.proofs.Common.{◌≡◌, ◌++◌, drop}
use Rattle.sql_ast.specs.Shown as written
use Rattle.sql_faults.specs.Columns as types
use Rattle.sql_faults.specs.Faults as spec
use Rattle.sql_faults.specs.Numbers.{number}
use Rattle.sql_faults.specs.Rules as rule
use Rattle.sql_faults.specs.Shown.{heads, scopes}
use Rattle.sql_faults.proofs.checks.+checks.Given as goal

abbrev pub invariant-exprs-loop-x : goal.invariant-exprs-loop-x
invariant-exprs-loop-x l = record {
  sorts : l.listed.sorts ++ types.types_of (heads l.known) (written.expr_list (drop l.x-index l.list)) (scopes l.inner) ≡ l.initial.listed.sorts ++ types.types_of (heads l.known) (written.expr_list l.list) (scopes l.inner);
  fault : rule.lesser (number l.listed.fault) (spec.exprs_fault (heads l.known) l.place (written.expr_list (drop l.x-index l.list)) (scopes l.inner)) ≡ rule.lesser (number l.initial.listed.fault) (spec.exprs_fault (heads l.known) l.place (written.expr_list l.list) (scopes l.inner));
}

abbrev pub invariant-arms-loop-arm : goal.invariant-arms-loop-arm
invariant-arms-loop-arm l = record {
  sorts : l.listed.sorts ++ types.arm_types (heads l.known) (written.arm_list (drop l.arm-index l.list)) (scopes l.inner) ≡ l.initial.listed.sorts ++ types.arm_types (heads l.known) (written.arm_list l.list) (scopes l.inner);
  fault : rule.lesser (number l.listed.fault) (spec.arms_fault (heads l.known) l.place (written.arm_list (drop l.arm-index l.list)) (scopes l.inner)) ≡ rule.lesser (number l.initial.listed.fault) (spec.arms_fault (heads l.known) l.place (written.arm_list l.list) (scopes l.inner));
}

abbrev pub invariant-choices-loop-choice : goal.invariant-choices-loop-choice
invariant-choices-loop-choice l = record {
  sorts : l.listed.sorts ++ types.choice_types (heads l.known) (written.choice_list (drop l.choice-index l.list)) (scopes l.inner) ≡ l.initial.listed.sorts ++ types.choice_types (heads l.known) (written.choice_list l.list) (scopes l.inner);
  fault : rule.lesser (number l.listed.fault) (spec.choices_fault (heads l.known) l.place l.operand (written.choice_list (drop l.choice-index l.list)) (scopes l.inner)) ≡ rule.lesser (number l.initial.listed.fault) (spec.choices_fault (heads l.known) l.place l.operand (written.choice_list l.list) (scopes l.inner));
}

abbrev pub invariant-items-loop-x : goal.invariant-items-loop-x
invariant-items-loop-x l = record {
  columns : l.out.columns ++ types.items_columns (heads l.known) (written.item_list (drop l.x-index l.list)) (scopes l.inner) ≡ l.initial.out.columns ++ types.items_columns (heads l.known) (written.item_list l.list) (scopes l.inner);
  fault : rule.lesser (number l.out.fault) (spec.items_fault (heads l.known) (written.item_list (drop l.x-index l.list)) (scopes l.inner)) ≡ rule.lesser (number l.initial.out.fault) (spec.items_fault (heads l.known) (written.item_list l.list) (scopes l.inner));
}

abbrev pub invariant-sources-loop-x : goal.invariant-sources-loop-x
invariant-sources-loop-x l = record {
  ranges : l.all.tables ++ types.ranges (heads l.known) (written.table_list (drop l.x-index l.list)) (scopes l.inner) ≡ types.ranges (heads l.known) (written.table_list l.list) (scopes l.inner);
  fault : rule.lesser (number l.all.fault) (spec.from_fault (heads l.known) (written.table_list (drop l.x-index l.list)) (scopes l.inner)) ≡ spec.from_fault (heads l.known) (written.table_list l.list) (scopes l.inner);
}
