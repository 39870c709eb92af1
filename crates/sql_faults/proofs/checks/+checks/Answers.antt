use Rattle.std.proofs.Common.{◌≡◌, arith}
use Rattle.std.proofs.lemmas.Grind.{common_steps}
use Rattle.sql_ast.specs.Shown as written
use Rattle.sql_faults.proofs.checks.+checks.Goals as goal

pub simple-returns-clause-sort : goal.simple-returns-clause-sort
simple-returns-clause-sort t c = rw (c.in-Simple.is, written.choices_hidden c.in-Simple.list, ← c.as_slice-list.ensures) (grind (arith, common_steps))

pub simple-returns-clause-fault : goal.simple-returns-clause-fault
simple-returns-clause-fault t c =
    rw (c.in-Simple.is, written.choices_hidden c.in-Simple.list, ← c.as_slice-list.ensures, ← c.deref.ensures, ← c.in_ok-a.ensures.sort, ← c.in_ok-a.ensures.fault) (grind (arith, common_steps))

pub operand-returns-in-Coalesce-clause-sort : goal.operand-returns-in-Coalesce-clause-sort
operand-returns-in-Coalesce-clause-sort t c = rw (c.in-Coalesce.is, written.exprs_hidden c.in-Coalesce.list, ← c.as_slice.ensures, ← c.deref-in-Coalesce.ensures) (grind (arith, common_steps))

pub operand-returns-in-Coalesce-clause-fault : goal.operand-returns-in-Coalesce-clause-fault
operand-returns-in-Coalesce-clause-fault t c = rw (c.in-Coalesce.is, written.exprs_hidden c.in-Coalesce.list, ← c.as_slice.ensures, ← c.deref-in-Coalesce.ensures) (grind (arith, common_steps))

pub predicate-returns-in-InList : goal.predicate-returns-in-InList
predicate-returns-in-InList t c = rw (c.in-InList.is, written.exprs_hidden c.in-InList.list, ← c.as_slice.ensures, ← c.deref-in-InList.ensures) (grind (arith, common_steps))

pub cond-returns-in-Or : goal.cond-returns-in-Or
cond-returns-in-Or t c = grind (arith, common_steps)

pub in_list-returns : goal.in_list-returns
in_list-returns t c = grind (arith, common_steps)

pub predicate-returns-in-Between : goal.predicate-returns-in-Between
predicate-returns-in-Between t c = grind (arith, common_steps)

pub predicate-returns-in-Compare : goal.predicate-returns-in-Compare
predicate-returns-in-Compare t c = grind (arith, common_steps)

pub predicate-returns-in-Like : goal.predicate-returns-in-Like
predicate-returns-in-Like t c = grind (arith, common_steps)

pub predicate-returns-in-Quantified : goal.predicate-returns-in-Quantified
predicate-returns-in-Quantified t c = grind (arith, common_steps)

pub source-returns-in-CrossJoin-clause-tables : goal.source-returns-in-CrossJoin-clause-tables
source-returns-in-CrossJoin-clause-tables t c = grind (arith, common_steps)

pub choices-loop-choice-smaller : goal.choices-loop-choice-smaller
choices-loop-choice-smaller t c = grind (arith, common_steps)

pub source-returns-in-CrossJoin-clause-fault : goal.source-returns-in-CrossJoin-clause-fault
source-returns-in-CrossJoin-clause-fault t c = grind (arith, common_steps)

pub operand-returns-in-Searched-clause-sort : goal.operand-returns-in-Searched-clause-sort
operand-returns-in-Searched-clause-sort t c = grind (arith, common_steps)

pub operand-returns-in-Simple-clause-fault : goal.operand-returns-in-Simple-clause-fault
operand-returns-in-Simple-clause-fault t c = grind (arith, common_steps)

pub arms-returns-clause-fault : goal.arms-returns-clause-fault
arms-returns-clause-fault t c = grind (arith, common_steps)

pub exprs-loop-x-smaller : goal.exprs-loop-x-smaller
exprs-loop-x-smaller t c = grind (arith, common_steps)

pub operand-returns-in-Column-clause-fault : goal.operand-returns-in-Column-clause-fault
operand-returns-in-Column-clause-fault t c = grind (arith, common_steps)

pub operand-returns-in-CountAll-clause-sort : goal.operand-returns-in-CountAll-clause-sort
operand-returns-in-CountAll-clause-sort t c = grind (arith, common_steps)

pub otherwise-returns-in-Else-clause-sorts : goal.otherwise-returns-in-Else-clause-sorts
otherwise-returns-in-Else-clause-sorts t c = grind (arith, common_steps)

pub query-returns-in-Combine-clause-fault : goal.query-returns-in-Combine-clause-fault
query-returns-in-Combine-clause-fault t c = grind (arith, common_steps)

pub operand-returns-in-Simple-clause-sort : goal.operand-returns-in-Simple-clause-sort
operand-returns-in-Simple-clause-sort t c = grind (arith, common_steps)

pub source-returns-in-Derived-clause-fault : goal.source-returns-in-Derived-clause-fault
source-returns-in-Derived-clause-fault t c = grind (arith, common_steps)

pub operand-simple-requires : goal.operand-simple-requires
operand-simple-requires t c = grind (arith, common_steps)

pub predicate-returns-in-Not : goal.predicate-returns-in-Not
predicate-returns-in-Not t c = grind (arith, common_steps)

pub operand-returns-in-Str-clause-sort : goal.operand-returns-in-Str-clause-sort
operand-returns-in-Str-clause-sort t c = grind (arith, common_steps)

pub expr-returns-in-Multiply-clause-fault : goal.expr-returns-in-Multiply-clause-fault
expr-returns-in-Multiply-clause-fault t c = grind (arith, common_steps)

pub arms-returns-clause-sorts : goal.arms-returns-clause-sorts
arms-returns-clause-sorts t c = grind (arith, common_steps)

pub items-returns-clause-columns : goal.items-returns-clause-columns
items-returns-clause-columns t c = grind (arith, common_steps)

pub sources-returns-clause-fault : goal.sources-returns-clause-fault
sources-returns-clause-fault t c = grind (arith, common_steps)

pub arms-loop-arm-init : goal.arms-loop-arm-init
arms-loop-arm-init t c = grind (arith, common_steps)

pub sources-loop-x-smaller : goal.sources-loop-x-smaller
sources-loop-x-smaller t c = grind (arith, common_steps)

pub query-returns-in-Enclosed-clause-columns : goal.query-returns-in-Enclosed-clause-columns
query-returns-in-Enclosed-clause-columns t c = grind (arith, common_steps)

pub item-returns-in-AllOf-clause-columns : goal.item-returns-in-AllOf-clause-columns
item-returns-in-AllOf-clause-columns t c = grind (arith, common_steps)

pub outcome-returns-in-Null-clause-fault : goal.outcome-returns-in-Null-clause-fault
outcome-returns-in-Null-clause-fault t c = grind (arith, common_steps)

pub joined-returns-clause-fault : goal.joined-returns-clause-fault
joined-returns-clause-fault t c = grind (arith, common_steps)

pub expr-returns-in-Signed-clause-sort : goal.expr-returns-in-Signed-clause-sort
expr-returns-in-Signed-clause-sort t c = grind (arith, common_steps)

pub items-returns-clause-fault : goal.items-returns-clause-fault
items-returns-clause-fault t c = grind (arith, common_steps)

pub choices-returns-clause-fault : goal.choices-returns-clause-fault
choices-returns-clause-fault t c = grind (arith, common_steps)

pub operand-returns-in-CastNull-clause-fault : goal.operand-returns-in-CastNull-clause-fault
operand-returns-in-CastNull-clause-fault t c = grind (arith, common_steps)

pub coalesced-returns-clause-sort : goal.coalesced-returns-clause-sort
coalesced-returns-clause-sort t c = grind (arith, common_steps)

pub select-returns-in-All-clause-fault : goal.select-returns-in-All-clause-fault
select-returns-in-All-clause-fault t c = grind (arith, common_steps)

pub expr-returns-in-Multiply-clause-sort : goal.expr-returns-in-Multiply-clause-sort
expr-returns-in-Multiply-clause-sort t c = grind (arith, common_steps)

pub joined-returns-clause-tables : goal.joined-returns-clause-tables
joined-returns-clause-tables t c = grind (arith, common_steps)

pub exprs-offset_bounds-list-x-index : goal.exprs-offset_bounds-list-x-index
exprs-offset_bounds-list-x-index t c = grind (arith, common_steps)

pub exprs-returns-clause-sorts : goal.exprs-returns-clause-sorts
exprs-returns-clause-sorts t c = grind (arith, common_steps)

pub operand-returns-in-CastNull-clause-sort : goal.operand-returns-in-CastNull-clause-sort
operand-returns-in-CastNull-clause-sort t c = grind (arith, common_steps)

pub operand-returns-in-Aggregate-clause-sort : goal.operand-returns-in-Aggregate-clause-sort
operand-returns-in-Aggregate-clause-sort t c = grind (arith, common_steps)

pub otherwise-returns-in-Else-clause-fault : goal.otherwise-returns-in-Else-clause-fault
otherwise-returns-in-Else-clause-fault t c = grind (arith, common_steps)

pub filter-returns-in-Absent : goal.filter-returns-in-Absent
filter-returns-in-Absent t c = grind (arith, common_steps)

pub coalesced-returns-clause-fault : goal.coalesced-returns-clause-fault
coalesced-returns-clause-fault t c = grind (arith, common_steps)

pub choices-returns-clause-sorts : goal.choices-returns-clause-sorts
choices-returns-clause-sorts t c = grind (arith, common_steps)

pub predicate-unreachable-requires : goal.predicate-unreachable-requires
predicate-unreachable-requires t c = grind (arith, common_steps)

pub before_groups-returns : goal.before_groups-returns
before_groups-returns t c = grind (arith, common_steps)

pub operand-returns-in-Searched-clause-fault : goal.operand-returns-in-Searched-clause-fault
operand-returns-in-Searched-clause-fault t c = grind (arith, common_steps)

pub cond-returns-in-Not : goal.cond-returns-in-Not
cond-returns-in-Not t c = grind (arith, common_steps)

pub arms-offset_bounds-list-arm-index : goal.arms-offset_bounds-list-arm-index
arms-offset_bounds-list-arm-index t c = grind (arith, common_steps)

pub cond-predicate-requires : goal.cond-predicate-requires
cond-predicate-requires t c = grind (arith, common_steps)

pub items-loop-x-init : goal.items-loop-x-init
items-loop-x-init t c = grind (arith, common_steps)

pub operand-returns-in-NullIf-clause-sort : goal.operand-returns-in-NullIf-clause-sort
operand-returns-in-NullIf-clause-sort t c = grind (arith, common_steps)

pub operand-returns-in-Signed-clause-fault : goal.operand-returns-in-Signed-clause-fault
operand-returns-in-Signed-clause-fault t c = grind (arith, common_steps)

pub item-returns-in-Value-clause-fault : goal.item-returns-in-Value-clause-fault
item-returns-in-Value-clause-fault t c = grind (arith, common_steps)

pub arms-loop-arm-smaller : goal.arms-loop-arm-smaller
arms-loop-arm-smaller t c = grind (arith, common_steps)

pub items-offset_bounds-list-x-index : goal.items-offset_bounds-list-x-index
items-offset_bounds-list-x-index t c = grind (arith, common_steps)

pub outcome-returns-in-Value-clause-sorts : goal.outcome-returns-in-Value-clause-sorts
outcome-returns-in-Value-clause-sorts t c = grind (arith, common_steps)

pub item-returns-in-Value-clause-columns : goal.item-returns-in-Value-clause-columns
item-returns-in-Value-clause-columns t c = grind (arith, common_steps)

pub otherwise-returns-in-Absent-clause-sorts : goal.otherwise-returns-in-Absent-clause-sorts
otherwise-returns-in-Absent-clause-sorts t c = grind (arith, common_steps)

pub operand-returns-in-Str-clause-fault : goal.operand-returns-in-Str-clause-fault
operand-returns-in-Str-clause-fault t c = grind (arith, common_steps)

pub exprs-returns-clause-fault : goal.exprs-returns-clause-fault
exprs-returns-clause-fault t c = grind (arith, common_steps)

pub operand-returns-in-Scalar-clause-fault : goal.operand-returns-in-Scalar-clause-fault
operand-returns-in-Scalar-clause-fault t c = grind (arith, common_steps)

pub operand-returns-in-Aggregate-clause-fault : goal.operand-returns-in-Aggregate-clause-fault
operand-returns-in-Aggregate-clause-fault t c = grind (arith, common_steps)

pub operand-searched-requires : goal.operand-searched-requires
operand-searched-requires t c = grind (arith, common_steps)

pub operand-returns-in-Paren-clause-sort : goal.operand-returns-in-Paren-clause-sort
operand-returns-in-Paren-clause-sort t c = grind (arith, common_steps)

pub after_groups-returns-clause-fault : goal.after_groups-returns-clause-fault
after_groups-returns-clause-fault t c = grind (arith, common_steps)

pub expr-operand-requires : goal.expr-operand-requires
expr-operand-requires t c = grind (arith, common_steps)

pub source-returns-in-Joined-clause-tables : goal.source-returns-in-Joined-clause-tables
source-returns-in-Joined-clause-tables t c = grind (arith, common_steps)

pub predicate-returns-in-IsNull : goal.predicate-returns-in-IsNull
predicate-returns-in-IsNull t c = grind (arith, common_steps)

pub outcome-returns-in-Null-clause-sorts : goal.outcome-returns-in-Null-clause-sorts
outcome-returns-in-Null-clause-sorts t c = grind (arith, common_steps)

pub sources-offset_bounds-list-x-index : goal.sources-offset_bounds-list-x-index
sources-offset_bounds-list-x-index t c = grind (arith, common_steps)

pub items-loop-x-smaller : goal.items-loop-x-smaller
items-loop-x-smaller t c = grind (arith, common_steps)

pub sources-loop-x-init : goal.sources-loop-x-init
sources-loop-x-init t c = grind (arith, common_steps)

pub operand-returns-in-Scalar-clause-sort : goal.operand-returns-in-Scalar-clause-sort
operand-returns-in-Scalar-clause-sort t c = grind (arith, common_steps)

pub operand-returns-in-NullIf-clause-fault : goal.operand-returns-in-NullIf-clause-fault
operand-returns-in-NullIf-clause-fault t c = grind (arith, common_steps)

pub expr-returns-in-Add-clause-fault : goal.expr-returns-in-Add-clause-fault
expr-returns-in-Add-clause-fault t c = grind (arith, common_steps)

pub operand-returns-in-CountAll-clause-fault : goal.operand-returns-in-CountAll-clause-fault
operand-returns-in-CountAll-clause-fault t c = grind (arith, common_steps)

pub source-returns-in-Derived-clause-tables : goal.source-returns-in-Derived-clause-tables
source-returns-in-Derived-clause-tables t c = grind (arith, common_steps)

pub after_groups-returns-clause-columns : goal.after_groups-returns-clause-columns
after_groups-returns-clause-columns t c = grind (arith, common_steps)

pub item-returns-in-AllOf-clause-fault : goal.item-returns-in-AllOf-clause-fault
item-returns-in-AllOf-clause-fault t c = grind (arith, common_steps)

pub sources-returns-clause-tables : goal.sources-returns-clause-tables
sources-returns-clause-tables t c = grind (arith, common_steps)

pub choices-loop-choice-init : goal.choices-loop-choice-init
choices-loop-choice-init t c = grind (arith, common_steps)

pub source-returns-in-Joined-clause-fault : goal.source-returns-in-Joined-clause-fault
source-returns-in-Joined-clause-fault t c = grind (arith, common_steps)

pub filter-returns-in-Given : goal.filter-returns-in-Given
filter-returns-in-Given t c = grind (arith, common_steps)

pub operand-returns-in-Paren-clause-fault : goal.operand-returns-in-Paren-clause-fault
operand-returns-in-Paren-clause-fault t c = grind (arith, common_steps)

pub select-returns-in-All-clause-columns : goal.select-returns-in-All-clause-columns
select-returns-in-All-clause-columns t c = grind (arith, common_steps)

pub choices-offset_bounds-list-choice-index : goal.choices-offset_bounds-list-choice-index
choices-offset_bounds-list-choice-index t c = grind (arith, common_steps)

pub operand-returns-in-Signed-clause-sort : goal.operand-returns-in-Signed-clause-sort
operand-returns-in-Signed-clause-sort t c = grind (arith, common_steps)

pub operand-returns-in-Number-clause-fault : goal.operand-returns-in-Number-clause-fault
operand-returns-in-Number-clause-fault t c = grind (arith, common_steps)

pub otherwise-returns-in-Absent-clause-fault : goal.otherwise-returns-in-Absent-clause-fault
otherwise-returns-in-Absent-clause-fault t c = grind (arith, common_steps)

pub expr-returns-in-Signed-clause-fault : goal.expr-returns-in-Signed-clause-fault
expr-returns-in-Signed-clause-fault t c = grind (arith, common_steps)

pub exprs-loop-x-init : goal.exprs-loop-x-init
exprs-loop-x-init t c = grind (arith, common_steps)

pub outcome-returns-in-Value-clause-fault : goal.outcome-returns-in-Value-clause-fault
outcome-returns-in-Value-clause-fault t c = grind (arith, common_steps)

pub expr-returns-in-Add-clause-sort : goal.expr-returns-in-Add-clause-sort
expr-returns-in-Add-clause-sort t c = grind (arith, common_steps)

pub operand-unreachable-requires : goal.operand-unreachable-requires
operand-unreachable-requires t c = grind (arith, common_steps)

pub predicate-returns-in-Exists : goal.predicate-returns-in-Exists
predicate-returns-in-Exists t c = grind (arith, common_steps)

pub query-returns-in-Enclosed-clause-fault : goal.query-returns-in-Enclosed-clause-fault
query-returns-in-Enclosed-clause-fault t c = grind (arith, common_steps)

pub source-returns-in-Named-clause-fault : goal.source-returns-in-Named-clause-fault
source-returns-in-Named-clause-fault t c = grind (arith, common_steps)

pub operand-returns-in-Column-clause-sort : goal.operand-returns-in-Column-clause-sort
operand-returns-in-Column-clause-sort t c = grind (arith, common_steps)

pub source-returns-in-Named-clause-tables : goal.source-returns-in-Named-clause-tables
source-returns-in-Named-clause-tables t c = grind (arith, common_steps)

pub query-returns-in-Combine-clause-columns : goal.query-returns-in-Combine-clause-columns
query-returns-in-Combine-clause-columns t c = grind (arith, common_steps)

pub operand-returns-in-Number-clause-sort : goal.operand-returns-in-Number-clause-sort
operand-returns-in-Number-clause-sort t c = grind (arith, common_steps)
