use Rattle.std.proofs.Common.{◌≡◌, ◌++◌, drop}
use Rattle.sql_meaning.specs.ResolvedTrees as tree
use Rattle.sql_ast.specs.Shown as written
use Rattle.sql_names.specs.Onto.{arms_onto, choices_onto, froms_onto, values_onto}
use Rattle.sql_meaning.specs.Names as named
use Rattle.sql_names.specs.Resolved as spec
use Rattle.sql_names.specs.Resolved.{bare}
use Rattle.sql_names.specs.Shapes.{columns_of, shapes}
use Rattle.sql_names.proofs.resolve.+resolve.Given as goal

abbrev pub invariant-values-loop-x : goal.invariant-values-loop-x
invariant-values-loop-x l = values_onto l.out (spec.values (columns_of l.setting) (shapes l.s) (written.expr_list (drop l.x-index l.list))) ≡ spec.values (columns_of l.setting) (shapes l.s) (written.expr_list l.list)

abbrev pub invariant-arms-loop-arm : goal.invariant-arms-loop-arm
invariant-arms-loop-arm l = arms_onto l.out (spec.arms (columns_of l.setting) (shapes l.s) (written.arm_list (drop l.arm-index l.list))) ≡ spec.arms (columns_of l.setting) (shapes l.s) (written.arm_list l.list)

abbrev pub invariant-choices-loop-choice : goal.invariant-choices-loop-choice
invariant-choices-loop-choice l = choices_onto l.out (spec.choices (columns_of l.setting) (shapes l.s) (written.choice_list (drop l.choice-index l.list))) ≡ spec.choices (columns_of l.setting) (shapes l.s) (written.choice_list l.list)

abbrev pub invariant-froms-loop-x : goal.invariant-froms-loop-x
invariant-froms-loop-x l = record {
  from : froms_onto l.out.value.from (spec.froms (columns_of l.setting) (shapes l.s) (written.table_list (drop l.x-index l.list))) ≡ spec.froms (columns_of l.setting) (shapes l.s) (written.table_list l.list);
  scope : l.out.value.scope ++ named.shape (bare (columns_of l.setting)) (written.table_list (drop l.x-index l.list)) (shapes l.s) ≡ named.shape (bare (columns_of l.setting)) (written.table_list l.list) (shapes l.s);
}

abbrev pub invariant-push_items-loop-item : goal.invariant-push_items-loop-item
invariant-push_items-loop-item l = (rest : tree.Values) → values_onto l.out (spec.append (spec.items (columns_of l.setting) (shapes l.s) (written.item_list (drop l.item-index l.items))) rest)
    ≡ values_onto l.initial.out (spec.append (spec.items (columns_of l.setting) (shapes l.s) (written.item_list l.items)) rest)
