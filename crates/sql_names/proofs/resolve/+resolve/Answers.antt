use Rattle.std.proofs.Common.{◌∙◌, List, sym, arith}
use Rattle.std.proofs.lemmas.List.{at_drop_all}
use Rattle.sql_ast.specs.declared.tree.Arm.{Arm}
use Rattle.sql_ast.specs.declared.tree.Choice.{Choice}
use Rattle.sql_ast.specs.declared.tree.Expr.{Expr}
use Rattle.sql_ast.specs.declared.tree.TableRef.{TableRef}
use Rattle.sql_ast.specs.Shown as written
use Rattle.sql_meaning.specs.Names as named
use Rattle.sql_names.specs.Onto.{arms_onto, choices_onto, froms_onto, values_onto}
use Rattle.sql_names.specs.Resolved as spec
use Rattle.sql_names.specs.Resolved.{bare}
use Rattle.sql_names.specs.Shapes.{columns_of, shapes}
use Rattle.sql_names.proofs.Ontos.{arms_whole, choices_whole, froms_whole, item_pushed, values_whole}
use Rattle.std.proofs.lemmas.Grind.{common_steps}
use Rattle.sql_names.proofs.resolve.+resolve.Goals as goal

pub values-returns : goal.values-returns
values-returns t c =
    values_whole c.loop-x.out
    ∙ sym (at_drop_all (λ (xs : List Expr). values_onto c.loop-x.out (spec.values (columns_of c.args.setting.now) (shapes c.args.s.now) (written.expr_list xs))) c.args.list.now c.loop-x.x-index c.loop-x-test.false)
    ∙ c.loop-x.invariant

pub arms-returns : goal.arms-returns
arms-returns t c =
    arms_whole c.loop-arm.out
    ∙ sym (at_drop_all (λ (xs : List Arm). arms_onto c.loop-arm.out (spec.arms (columns_of c.args.setting.now) (shapes c.args.s.now) (written.arm_list xs))) c.args.list.now c.loop-arm.arm-index c.loop-arm-test.false)
    ∙ c.loop-arm.invariant

pub choices-returns : goal.choices-returns
choices-returns t c =
    choices_whole c.loop-choice.out
    ∙ sym (at_drop_all (λ (xs : List Choice). choices_onto c.loop-choice.out (spec.choices (columns_of c.args.setting.now) (shapes c.args.s.now) (written.choice_list xs))) c.args.list.now c.loop-choice.choice-index c.loop-choice-test.false)
    ∙ c.loop-choice.invariant

pub froms-returns-clause-from : goal.froms-returns-clause-from
froms-returns-clause-from t c =
    froms_whole c.loop-x.out.value.from
    ∙ sym (at_drop_all (λ (xs : List TableRef). froms_onto c.loop-x.out.value.from (spec.froms (columns_of c.args.setting.now) (shapes c.args.s.now) (written.table_list xs))) c.args.list.now c.loop-x.x-index c.loop-x-test.false)
    ∙ c.loop-x.invariant.from

pub push_items-loop-item-preserved : goal.push_items-loop-item-preserved
push_items-loop-item-preserved t c =
    item_pushed (columns_of c.args.setting.now) (shapes c.args.s.now) c.args.items.now c.loop-item.item-index c.item-item.result c.loop-item.out c.push_item.new.out c.args.out.now c.loop-item-test.true c.item-item.is c.in_ok-push_item.ensures c.loop-item.invariant

pub push_item-returns-in-Value : goal.push_item-returns-in-Value
push_item-returns-in-Value t c =
    rw (c.in-Value.is, ← c.deref.ensures) (c.push_value.ensures _ c.value.ensures)

pub conjunct-returns-in-InList : goal.conjunct-returns-in-InList
conjunct-returns-in-InList t c =
    rw (c.in-InList.is, written.exprs_hidden c.in-InList.list, ← c.as_slice.ensures, ← c.deref-in-InList.ensures) (c.among.ensures _ _ c.value-a-in-InList.ensures c.values.ensures)

pub operand-returns-in-Simple : goal.operand-returns-in-Simple
operand-returns-in-Simple t c =
    rw (c.in-Simple.is, written.choices_hidden c.in-Simple.list, ← c.as_slice-in-Simple.ensures, ← c.deref-in-Simple.ensures) (c.simple.ensures _ _ _ c.value-a.ensures c.choices-list.ensures c.otherwise-in-Simple.ensures)

pub operand-returns-in-Coalesce : goal.operand-returns-in-Coalesce
operand-returns-in-Coalesce t c =
    rw (c.in-Coalesce.is, written.exprs_hidden c.in-Coalesce.list, ← c.as_slice-in-Coalesce.ensures, ← c.deref-in-Coalesce.ensures) (c.coalesce.ensures _ _ c.value-a-in-Coalesce.ensures c.values.ensures)

pub table-returns-in-Join-clause-table : goal.table-returns-in-Join-clause-table
table-returns-in-Join-clause-table t c =
    rw (c.in-Join.is, ← c.deref.ensures, ← c.deref-in-Join.ensures, ← c.deref-in-Join-2.ensures) (c.inner_join.ensures.table _ _ _
    (c.join.ensures.left _ (c.paired-pair.ensures.left _ c.table-a.ensures.table))
    (c.join.ensures.right _ (c.paired-pair.ensures.right _ c.table.ensures.table))
    (c.join.ensures.on (named.table_shape (bare (columns_of c.args.setting.now)) (written.table c.deref.result.now) (shapes c.args.s.now)) (named.table_shape (bare (columns_of c.args.setting.now)) (written.table c.deref-in-Join.result.now) (shapes c.args.s.now)) (c.paired-pair.ensures.scope _ _ c.table-a.ensures.scope c.table.ensures.scope)))

pub table-returns-in-Join-clause-scope : goal.table-returns-in-Join-clause-scope
table-returns-in-Join-clause-scope t c =
    rw (c.in-Join.is, ← c.deref.ensures, ← c.deref-in-Join.ensures) (c.inner_join.ensures.scope _ (c.join.ensures.scope _ (c.paired-pair.ensures.scope _ _ c.table-a.ensures.scope c.table.ensures.scope)))

pub table-returns-in-LeftJoin-clause-table : goal.table-returns-in-LeftJoin-clause-table
table-returns-in-LeftJoin-clause-table t c =
    rw (c.in-LeftJoin.is, ← c.deref-in-LeftJoin.ensures, ← c.deref-in-LeftJoin-2.ensures, ← c.deref-in-LeftJoin-3.ensures) (c.left_join.ensures.table _ _ _ _
    (c.join-in-LeftJoin.ensures.left _ (c.paired-pair-in-LeftJoin.ensures.left _ c.table-a-in-LeftJoin.ensures.table))
    (c.join-in-LeftJoin.ensures.right _ (c.paired-pair-in-LeftJoin.ensures.right _ c.table-in-LeftJoin.ensures.table))
    (c.join-in-LeftJoin.ensures.width _ (c.paired-pair-in-LeftJoin.ensures.width _ c.table-in-LeftJoin.ensures.scope))
    (c.join-in-LeftJoin.ensures.on (named.table_shape (bare (columns_of c.args.setting.now)) (written.table c.deref-in-LeftJoin.result.now) (shapes c.args.s.now)) (named.table_shape (bare (columns_of c.args.setting.now)) (written.table c.deref-in-LeftJoin-2.result.now) (shapes c.args.s.now)) (c.paired-pair-in-LeftJoin.ensures.scope _ _ c.table-a-in-LeftJoin.ensures.scope c.table-in-LeftJoin.ensures.scope)))

pub table-returns-in-LeftJoin-clause-scope : goal.table-returns-in-LeftJoin-clause-scope
table-returns-in-LeftJoin-clause-scope t c =
    rw (c.in-LeftJoin.is, ← c.deref-in-LeftJoin.ensures, ← c.deref-in-LeftJoin-2.ensures) (c.left_join.ensures.scope _ (c.join-in-LeftJoin.ensures.scope _ (c.paired-pair-in-LeftJoin.ensures.scope _ _ c.table-a-in-LeftJoin.ensures.scope c.table-in-LeftJoin.ensures.scope)))

pub argument-returns-in_ok-none-in-Outermost : goal.argument-returns-in_ok-none-in-Outermost
argument-returns-in_ok-none-in-Outermost t c = grind (arith, common_steps)

pub arms-loop-arm-preserved : goal.arms-loop-arm-preserved
arms-loop-arm-preserved t c = grind (arith, common_steps)

pub block-block_over-requires : goal.block-block_over-requires
block-block_over-requires t c = grind (arith, common_steps)

pub block-returns-clause-columns : goal.block-returns-clause-columns
block-returns-clause-columns t c = grind (arith, common_steps)

pub block-returns-clause-query : goal.block-returns-clause-query
block-returns-clause-query t c = grind (arith, common_steps)

pub block_over-returns-else-is_grouped : goal.block_over-returns-else-is_grouped
block_over-returns-else-is_grouped t c = grind (arith, common_steps)

pub block_over-returns-then-is_grouped : goal.block_over-returns-then-is_grouped
block_over-returns-then-is_grouped t c = grind (arith, common_steps)

pub choices-loop-choice-preserved : goal.choices-loop-choice-preserved
choices-loop-choice-preserved t c = grind (arith, common_steps)

pub conjunct-returns-in-Between : goal.conjunct-returns-in-Between
conjunct-returns-in-Between t c = grind (arith, common_steps)

pub conjunct-returns-in-Bracket : goal.conjunct-returns-in-Bracket
conjunct-returns-in-Bracket t c = grind (arith, common_steps)

pub conjunct-returns-in-Compare : goal.conjunct-returns-in-Compare
conjunct-returns-in-Compare t c = grind (arith, common_steps)

pub conjunct-returns-in-Exists : goal.conjunct-returns-in-Exists
conjunct-returns-in-Exists t c = grind (arith, common_steps)

pub conjunct-returns-in-InQuery : goal.conjunct-returns-in-InQuery
conjunct-returns-in-InQuery t c = grind (arith, common_steps)

pub conjunct-returns-in-IsNull : goal.conjunct-returns-in-IsNull
conjunct-returns-in-IsNull t c = grind (arith, common_steps)

pub conjunct-returns-in-Like : goal.conjunct-returns-in-Like
conjunct-returns-in-Like t c = grind (arith, common_steps)

pub conjunct-returns-in-Not : goal.conjunct-returns-in-Not
conjunct-returns-in-Not t c = grind (arith, common_steps)

pub conjunct-returns-in-Quantified : goal.conjunct-returns-in-Quantified
conjunct-returns-in-Quantified t c = grind (arith, common_steps)

pub froms-loop-x-preserved : goal.froms-loop-x-preserved
froms-loop-x-preserved t c = grind (arith, common_steps)

pub operand-returns-in-Aggregate : goal.operand-returns-in-Aggregate
operand-returns-in-Aggregate t c = grind (arith, common_steps)

pub operand-returns-in-CastNull : goal.operand-returns-in-CastNull
operand-returns-in-CastNull t c = grind (arith, common_steps)

pub operand-returns-in-Column : goal.operand-returns-in-Column
operand-returns-in-Column t c = grind (arith, common_steps)

pub operand-returns-in-NullIf : goal.operand-returns-in-NullIf
operand-returns-in-NullIf t c = grind (arith, common_steps)

pub operand-returns-in-Number : goal.operand-returns-in-Number
operand-returns-in-Number t c = grind (arith, common_steps)

pub operand-returns-in-Paren : goal.operand-returns-in-Paren
operand-returns-in-Paren t c = grind (arith, common_steps)

pub operand-returns-in-Scalar : goal.operand-returns-in-Scalar
operand-returns-in-Scalar t c = grind (arith, common_steps)

pub operand-returns-in-Signed : goal.operand-returns-in-Signed
operand-returns-in-Signed t c = grind (arith, common_steps)

pub push_items-returns : goal.push_items-returns
push_items-returns t c = grind (arith, common_steps)

pub table-returns-in-Joined-clause-scope : goal.table-returns-in-Joined-clause-scope
table-returns-in-Joined-clause-scope t c = grind (arith, common_steps)

pub table-returns-in-Joined-clause-table : goal.table-returns-in-Joined-clause-table
table-returns-in-Joined-clause-table t c = grind (arith, common_steps)

pub test-returns-in-And : goal.test-returns-in-And
test-returns-in-And t c = grind (arith, common_steps)

pub test-returns-in-Or : goal.test-returns-in-Or
test-returns-in-Or t c = grind (arith, common_steps)

pub value-returns-in-Add : goal.value-returns-in-Add
value-returns-in-Add t c = grind (arith, common_steps)

pub value-returns-in-Multiply : goal.value-returns-in-Multiply
value-returns-in-Multiply t c = grind (arith, common_steps)

pub values-loop-x-preserved : goal.values-loop-x-preserved
values-loop-x-preserved t c = grind (arith, common_steps)

pub choices-loop-choice-init : goal.choices-loop-choice-init
choices-loop-choice-init t c = grind (arith, common_steps)

pub value-returns-in-Signed : goal.value-returns-in-Signed
value-returns-in-Signed t c = grind (arith, common_steps)

pub join-returns-clause-scope : goal.join-returns-clause-scope
join-returns-clause-scope t c = grind (arith, common_steps)

pub otherwise-returns-in-Else : goal.otherwise-returns-in-Else
otherwise-returns-in-Else t c = grind (arith, common_steps)

pub query-returns-in-Intersect-clause-columns : goal.query-returns-in-Intersect-clause-columns
query-returns-in-Intersect-clause-columns t c = grind (arith, common_steps)

pub operand-unreachable-requires : goal.operand-unreachable-requires
operand-unreachable-requires t c = grind (arith, common_steps)

pub join-returns-clause-width : goal.join-returns-clause-width
join-returns-clause-width t c = grind (arith, common_steps)

pub table-returns-in-CrossJoin-clause-scope : goal.table-returns-in-CrossJoin-clause-scope
table-returns-in-CrossJoin-clause-scope t c = grind (arith, common_steps)

pub otherwise-returns-in-Absent : goal.otherwise-returns-in-Absent
otherwise-returns-in-Absent t c = grind (arith, common_steps)

pub push_items-loop-item-smaller : goal.push_items-loop-item-smaller
push_items-loop-item-smaller t c = grind (arith, common_steps)

pub arms-offset_bounds-list-arm-index : goal.arms-offset_bounds-list-arm-index
arms-offset_bounds-list-arm-index t c = grind (arith, common_steps)

pub table-returns-in-Named-clause-scope : goal.table-returns-in-Named-clause-scope
table-returns-in-Named-clause-scope t c = grind (arith, common_steps)

pub froms-offset_bounds-list-x-index : goal.froms-offset_bounds-list-x-index
froms-offset_bounds-list-x-index t c = grind (arith, common_steps)

pub table-returns-in-Derived-clause-table : goal.table-returns-in-Derived-clause-table
table-returns-in-Derived-clause-table t c = grind (arith, common_steps)

pub table-returns-in-Derived-clause-scope : goal.table-returns-in-Derived-clause-scope
table-returns-in-Derived-clause-scope t c = grind (arith, common_steps)

pub choices-offset_bounds-list-choice-index : goal.choices-offset_bounds-list-choice-index
choices-offset_bounds-list-choice-index t c = grind (arith, common_steps)

pub operand-returns-in-CountAll : goal.operand-returns-in-CountAll
operand-returns-in-CountAll t c = grind (arith, common_steps)

pub join-returns-clause-right : goal.join-returns-clause-right
join-returns-clause-right t c = grind (arith, common_steps)

pub table-returns-in-CrossJoin-clause-table : goal.table-returns-in-CrossJoin-clause-table
table-returns-in-CrossJoin-clause-table t c = grind (arith, common_steps)

pub push_items-offset_bounds-items-item-index : goal.push_items-offset_bounds-items-item-index
push_items-offset_bounds-items-item-index t c = grind (arith, common_steps)

pub push_item-returns-in-AllOf : goal.push_item-returns-in-AllOf
push_item-returns-in-AllOf t c = grind (arith, common_steps)

pub table-returns-in-Named-clause-table : goal.table-returns-in-Named-clause-table
table-returns-in-Named-clause-table t c = grind (arith, common_steps)

pub choices-loop-choice-smaller : goal.choices-loop-choice-smaller
choices-loop-choice-smaller t c = grind (arith, common_steps)

pub query-returns-in-Enclosed-clause-columns : goal.query-returns-in-Enclosed-clause-columns
query-returns-in-Enclosed-clause-columns t c = grind (arith, common_steps)

pub arms-loop-arm-init : goal.arms-loop-arm-init
arms-loop-arm-init t c = grind (arith, common_steps)

pub filter-returns-in-Absent : goal.filter-returns-in-Absent
filter-returns-in-Absent t c = grind (arith, common_steps)

pub query-returns-in-Combine-clause-columns : goal.query-returns-in-Combine-clause-columns
query-returns-in-Combine-clause-columns t c = grind (arith, common_steps)

pub query-returns-in-Combine-clause-query : goal.query-returns-in-Combine-clause-query
query-returns-in-Combine-clause-query t c = grind (arith, common_steps)

pub join-returns-clause-on : goal.join-returns-clause-on
join-returns-clause-on t c = grind (arith, common_steps)

pub operand-returns-in-Str : goal.operand-returns-in-Str
operand-returns-in-Str t c = grind (arith, common_steps)

pub values-loop-x-init : goal.values-loop-x-init
values-loop-x-init t c = grind (arith, common_steps)

pub value-operand-requires : goal.value-operand-requires
value-operand-requires t c = grind (arith, common_steps)

pub froms-bounds-list-x-index : goal.froms-bounds-list-x-index
froms-bounds-list-x-index t c = grind (arith, common_steps)

pub push_items-loop-item-init : goal.push_items-loop-item-init
push_items-loop-item-init t c = grind (arith, common_steps)

pub query-returns-in-Intersect-clause-query : goal.query-returns-in-Intersect-clause-query
query-returns-in-Intersect-clause-query t c = grind (arith, common_steps)

pub conjunct-unreachable-requires : goal.conjunct-unreachable-requires
conjunct-unreachable-requires t c = grind (arith, common_steps)

pub test-conjunct-requires : goal.test-conjunct-requires
test-conjunct-requires t c = grind (arith, common_steps)

pub froms-loop-x-smaller : goal.froms-loop-x-smaller
froms-loop-x-smaller t c = grind (arith, common_steps)

pub froms-returns-clause-scope : goal.froms-returns-clause-scope
froms-returns-clause-scope t c = grind (arith, common_steps)

pub filter-returns-in-Given : goal.filter-returns-in-Given
filter-returns-in-Given t c = grind (arith, common_steps)

pub outcome-returns-in-Value : goal.outcome-returns-in-Value
outcome-returns-in-Value t c = grind (arith, common_steps)

pub query-returns-in-Enclosed-clause-query : goal.query-returns-in-Enclosed-clause-query
query-returns-in-Enclosed-clause-query t c = grind (arith, common_steps)

pub values-offset_bounds-list-x-index : goal.values-offset_bounds-list-x-index
values-offset_bounds-list-x-index t c = grind (arith, common_steps)

pub arms-loop-arm-smaller : goal.arms-loop-arm-smaller
arms-loop-arm-smaller t c = grind (arith, common_steps)

pub froms-loop-x-init : goal.froms-loop-x-init
froms-loop-x-init t c = grind (arith, common_steps)

pub argument-returns-in-Inside : goal.argument-returns-in-Inside
argument-returns-in-Inside t c = grind (arith, common_steps)

pub test-returns-in-Not : goal.test-returns-in-Not
test-returns-in-Not t c = grind (arith, common_steps)

pub outcome-returns-in-Null : goal.outcome-returns-in-Null
outcome-returns-in-Null t c = grind (arith, common_steps)

pub join-returns-clause-left : goal.join-returns-clause-left
join-returns-clause-left t c = grind (arith, common_steps)

pub values-loop-x-smaller : goal.values-loop-x-smaller
values-loop-x-smaller t c = grind (arith, common_steps)
