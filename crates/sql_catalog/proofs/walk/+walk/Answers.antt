use Rattle.std.proofs.Common.{arith, ◌≡◌, ◌++◌, OnOk}
use Rattle.std.proofs.lemmas.Grind.{common_steps}
use Rattle.sql_ast.specs.Shown as shown
use Rattle.sql_catalog.proofs.walk.+walk.Goals as goal

pub cond_names-returns-in_ok-expr_names-in-InList :
    goal.cond_names-returns-in_ok-expr_names-in-InList
cond_names-returns-in_ok-expr_names-in-InList t c = rw (c.in-InList.is, shown.exprs_hidden c.in-InList.exprs) (grind (arith, common_steps))

pub expr_names-returns-in_ok-arm_names-in-Searched :
    goal.expr_names-returns-in_ok-arm_names-in-Searched
expr_names-returns-in_ok-arm_names-in-Searched t c = rw (c.in-Searched.is, shown.arms_hidden c.in-Searched.arms) (grind (arith, common_steps))

pub expr_names-returns-in_ok-choice_names-in-Simple :
    goal.expr_names-returns-in_ok-choice_names-in-Simple
expr_names-returns-in_ok-choice_names-in-Simple t c = rw (c.in-Simple.is, shown.choices_hidden c.in-Simple.choices) (grind (arith, common_steps))

pub expr_names-returns-in_ok-expr_names-in-Coalesce :
    goal.expr_names-returns-in_ok-expr_names-in-Coalesce
expr_names-returns-in_ok-expr_names-in-Coalesce t c = rw (c.in-Coalesce.is, shown.exprs_hidden c.in-Coalesce.others) (grind (arith, common_steps))

pub list_names-returns-in-Items : goal.list_names-returns-in-Items
list_names-returns-in-Items t c = grind (arith, common_steps, shown.lists)

pub query_names-returns-in-Block : goal.query_names-returns-in-Block
query_names-returns-in-Block t c = grind (arith, common_steps, shown.lists)

pub arm_names-loop-arm-preserved : goal.arm_names-loop-arm-preserved
arm_names-loop-arm-preserved t c = grind (arith, common_steps)

pub block_names-returns : goal.block_names-returns
block_names-returns t c = grind (arith, common_steps)

pub choice_names-loop-choice-preserved : goal.choice_names-loop-choice-preserved
choice_names-loop-choice-preserved t c = grind (arith, common_steps)

pub cond_names-returns-in_ok-cond_names-in-And : goal.cond_names-returns-in_ok-cond_names-in-And
cond_names-returns-in_ok-cond_names-in-And t c = grind (arith, common_steps)

pub cond_names-returns-in_ok-cond_names-in-Or : goal.cond_names-returns-in_ok-cond_names-in-Or
cond_names-returns-in_ok-cond_names-in-Or t c = grind (arith, common_steps)

pub cond_names-returns-in_ok-expr_names-in-Between-2 : goal.cond_names-returns-in_ok-expr_names-in-Between-2
cond_names-returns-in_ok-expr_names-in-Between-2 t c = grind (arith, common_steps)

pub cond_names-returns-in_ok-expr_names-in-Compare : goal.cond_names-returns-in_ok-expr_names-in-Compare
cond_names-returns-in_ok-expr_names-in-Compare t c = grind (arith, common_steps)

pub cond_names-returns-in_ok-expr_names-in-InQuery : goal.cond_names-returns-in_ok-expr_names-in-InQuery
cond_names-returns-in_ok-expr_names-in-InQuery t c = grind (arith, common_steps)

pub cond_names-returns-in_ok-expr_names-in-Like : goal.cond_names-returns-in_ok-expr_names-in-Like
cond_names-returns-in_ok-expr_names-in-Like t c = grind (arith, common_steps)

pub cond_names-returns-in_ok-expr_names-in-Quantified : goal.cond_names-returns-in_ok-expr_names-in-Quantified
cond_names-returns-in_ok-expr_names-in-Quantified t c = grind (arith, common_steps)

pub expr_names-returns-in_ok-expr_names-in-Add : goal.expr_names-returns-in_ok-expr_names-in-Add
expr_names-returns-in_ok-expr_names-in-Add t c = grind (arith, common_steps)

pub expr_names-returns-in_ok-expr_names-in-Multiply : goal.expr_names-returns-in_ok-expr_names-in-Multiply
expr_names-returns-in_ok-expr_names-in-Multiply t c = grind (arith, common_steps)

pub expr_names-returns-in_ok-expr_names-in-NullIf : goal.expr_names-returns-in_ok-expr_names-in-NullIf
expr_names-returns-in_ok-expr_names-in-NullIf t c = grind (arith, common_steps)

pub exprs_names-loop-expr-preserved : goal.exprs_names-loop-expr-preserved
exprs_names-loop-expr-preserved t c = grind (arith, common_steps)

pub from_names-loop-table-preserved : goal.from_names-loop-table-preserved
from_names-loop-table-preserved t c = grind (arith, common_steps)

pub item_names-loop-item-preserved : goal.item_names-loop-item-preserved
item_names-loop-item-preserved t c = grind (arith, common_steps)

pub query_names-returns-in_ok-query_names-in-Combine : goal.query_names-returns-in_ok-query_names-in-Combine
query_names-returns-in_ok-query_names-in-Combine t c = grind (arith, common_steps)

pub query_names-returns-in_ok-query_names-in-Intersect : goal.query_names-returns-in_ok-query_names-in-Intersect
query_names-returns-in_ok-query_names-in-Intersect t c = grind (arith, common_steps)

pub table_names-returns-in_ok-table_names-in-CrossJoin : goal.table_names-returns-in_ok-table_names-in-CrossJoin
table_names-returns-in_ok-table_names-in-CrossJoin t c = grind (arith, common_steps)

pub table_names-returns-in_ok-table_names-in-Join-2 : goal.table_names-returns-in_ok-table_names-in-Join-2
table_names-returns-in_ok-table_names-in-Join-2 t c = grind (arith, common_steps)

pub table_names-returns-in_ok-table_names-in-LeftJoin-2 : goal.table_names-returns-in_ok-table_names-in-LeftJoin-2
table_names-returns-in_ok-table_names-in-LeftJoin-2 t c = grind (arith, common_steps)

pub filter_names-returns-in-Given : goal.filter_names-returns-in-Given
filter_names-returns-in-Given t c = grind (arith, common_steps)

pub res_names-returns-in-Null : goal.res_names-returns-in-Null
res_names-returns-in-Null t c = grind (arith, common_steps)

pub arm_names-returns : goal.arm_names-returns
arm_names-returns t c = grind (arith, common_steps)

pub choice_names-offset_bounds-choices-choice-index : goal.choice_names-offset_bounds-choices-choice-index
choice_names-offset_bounds-choices-choice-index t c = grind (arith, common_steps)

pub otherwise_names-returns-in-Absent : goal.otherwise_names-returns-in-Absent
otherwise_names-returns-in-Absent t c = grind (arith, common_steps)

pub exprs_names-loop-expr-smaller : goal.exprs_names-loop-expr-smaller
exprs_names-loop-expr-smaller t c = grind (arith, common_steps)

pub cond_names-returns-in-Exists : goal.cond_names-returns-in-Exists
cond_names-returns-in-Exists t c = grind (arith, common_steps)

pub expr_names-returns-in-Column : goal.expr_names-returns-in-Column
expr_names-returns-in-Column t c = grind (arith, common_steps)

pub filter_names-returns-in-Absent : goal.filter_names-returns-in-Absent
filter_names-returns-in-Absent t c = grind (arith, common_steps)

pub expr_names-returns-in-CastNull : goal.expr_names-returns-in-CastNull
expr_names-returns-in-CastNull t c = grind (arith, common_steps)

pub otherwise_names-returns-in-Else : goal.otherwise_names-returns-in-Else
otherwise_names-returns-in-Else t c = grind (arith, common_steps)

pub expr_names-returns-in-CountAll : goal.expr_names-returns-in-CountAll
expr_names-returns-in-CountAll t c = grind (arith, common_steps)

pub cond_names-returns-in-Not : goal.cond_names-returns-in-Not
cond_names-returns-in-Not t c = grind (arith, common_steps)

pub exprs_names-offset_bounds-exprs-expr-index : goal.exprs_names-offset_bounds-exprs-expr-index
exprs_names-offset_bounds-exprs-expr-index t c = grind (arith, common_steps)

pub item_names-offset_bounds-items-item-index : goal.item_names-offset_bounds-items-item-index
item_names-offset_bounds-items-item-index t c = grind (arith, common_steps)

pub expr_names-returns-in-Signed : goal.expr_names-returns-in-Signed
expr_names-returns-in-Signed t c = grind (arith, common_steps)

pub expr_names-returns-in-Number : goal.expr_names-returns-in-Number
expr_names-returns-in-Number t c = grind (arith, common_steps)

pub query_names-returns-in-Enclosed : goal.query_names-returns-in-Enclosed
query_names-returns-in-Enclosed t c = grind (arith, common_steps)

pub list_names-returns-in-All : goal.list_names-returns-in-All
list_names-returns-in-All t c = grind (arith, common_steps)

pub from_names-returns : goal.from_names-returns
from_names-returns t c = grind (arith, common_steps)

pub table_names-returns-in-Joined : goal.table_names-returns-in-Joined
table_names-returns-in-Joined t c = grind (arith, common_steps)

pub item_names-returns : goal.item_names-returns
item_names-returns t c = grind (arith, common_steps)

pub expr_names-returns-in-Aggregate : goal.expr_names-returns-in-Aggregate
expr_names-returns-in-Aggregate t c = grind (arith, common_steps)

pub expr_names-returns-in-Str : goal.expr_names-returns-in-Str
expr_names-returns-in-Str t c = grind (arith, common_steps)

pub from_names-offset_bounds-from-table-index : goal.from_names-offset_bounds-from-table-index
from_names-offset_bounds-from-table-index t c = grind (arith, common_steps)

pub cond_names-returns-in-IsNull : goal.cond_names-returns-in-IsNull
cond_names-returns-in-IsNull t c = grind (arith, common_steps)

pub exprs_names-returns : goal.exprs_names-returns
exprs_names-returns t c = grind (arith, common_steps)

pub expr_names-returns-in-Scalar : goal.expr_names-returns-in-Scalar
expr_names-returns-in-Scalar t c = grind (arith, common_steps)

pub from_names-loop-table-smaller : goal.from_names-loop-table-smaller
from_names-loop-table-smaller t c = grind (arith, common_steps)

pub table_names-returns-in-Derived : goal.table_names-returns-in-Derived
table_names-returns-in-Derived t c = grind (arith, common_steps)

pub table_names-returns-in-Named : goal.table_names-returns-in-Named
table_names-returns-in-Named t c = grind (arith, common_steps)

pub choice_names-loop-choice-smaller : goal.choice_names-loop-choice-smaller
choice_names-loop-choice-smaller t c = grind (arith, common_steps)

pub arm_names-offset_bounds-arms-arm-index : goal.arm_names-offset_bounds-arms-arm-index
arm_names-offset_bounds-arms-arm-index t c = grind (arith, common_steps)

pub res_names-returns-in-Value : goal.res_names-returns-in-Value
res_names-returns-in-Value t c = grind (arith, common_steps)

pub item_names-loop-item-smaller : goal.item_names-loop-item-smaller
item_names-loop-item-smaller t c = grind (arith, common_steps)

pub choice_names-returns : goal.choice_names-returns
choice_names-returns t c = grind (arith, common_steps)

pub cond_names-returns-in-Bracket : goal.cond_names-returns-in-Bracket
cond_names-returns-in-Bracket t c = grind (arith, common_steps)

pub arm_names-loop-arm-smaller : goal.arm_names-loop-arm-smaller
arm_names-loop-arm-smaller t c = grind (arith, common_steps)

pub expr_names-returns-in-Paren : goal.expr_names-returns-in-Paren
expr_names-returns-in-Paren t c = grind (arith, common_steps)
