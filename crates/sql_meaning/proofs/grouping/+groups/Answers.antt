use Rattle.std.proofs.Common.{arith}
use Rattle.std.proofs.lemmas.Grind.{common_steps}
use Rattle.sql_ast.specs.Shown as written
use Rattle.sql_meaning.proofs.grouping.+groups.Goals as goal

pub in_cond-returns-else-in_expr-3 : goal.in_cond-returns-else-in_expr-3
in_cond-returns-else-in_expr-3 t c = rw (c.in-InList.is, written.exprs_hidden c.in-InList.list) (grind (arith, common_steps))

pub in_expr-returns-then-in_choices : goal.in_expr-returns-then-in_choices
in_expr-returns-then-in_choices t c = rw (c.in-Simple.is, written.choices_hidden c.in-Simple.list) (grind (arith, common_steps))

pub in_expr-returns-else-in_choices : goal.in_expr-returns-else-in_choices
in_expr-returns-else-in_choices t c = rw (c.in-Simple.is, written.choices_hidden c.in-Simple.list) (grind (arith, common_steps))

pub in_expr-returns-else-in_expr-2 : goal.in_expr-returns-else-in_expr-2
in_expr-returns-else-in_expr-2 t c = rw (c.in-Coalesce.is, written.exprs_hidden c.in-Coalesce.list) (grind (arith, common_steps))

pub in_expr-returns-else-in_expr-4 : goal.in_expr-returns-else-in_expr-4
in_expr-returns-else-in_expr-4 t c = grind (arith, common_steps)

pub in_cond-returns-then-in_expr-3 : goal.in_cond-returns-then-in_expr-3
in_cond-returns-then-in_expr-3 t c = grind (arith, common_steps)

pub in_arms-offset_bounds-list-arm-index : goal.in_arms-offset_bounds-list-arm-index
in_arms-offset_bounds-list-arm-index t c = grind (arith, common_steps)

pub in_cond-returns-else-in_expr-2 : goal.in_cond-returns-else-in_expr-2
in_cond-returns-else-in_expr-2 t c = grind (arith, common_steps)

pub in_cond-returns-then-in_expr-2 : goal.in_cond-returns-then-in_expr-2
in_cond-returns-then-in_expr-2 t c = grind (arith, common_steps)

pub in_choices-offset_bounds-list-choice-index : goal.in_choices-offset_bounds-list-choice-index
in_choices-offset_bounds-list-choice-index t c = grind (arith, common_steps)

pub in_choices-loop-choice-smaller : goal.in_choices-loop-choice-smaller
in_choices-loop-choice-smaller t c = grind (arith, common_steps)

pub in_expr-returns-then-in_expr-4 : goal.in_expr-returns-then-in_expr-4
in_expr-returns-then-in_expr-4 t c = grind (arith, common_steps)

pub in_cond-returns-in-Exists : goal.in_cond-returns-in-Exists
in_cond-returns-in-Exists t c = grind (arith, common_steps)

pub in_arms-returns-then-in_cond : goal.in_arms-returns-then-in_cond
in_arms-returns-then-in_cond t c = grind (arith, common_steps)

pub in_res-returns-in-Value : goal.in_res-returns-in-Value
in_res-returns-in-Value t c = grind (arith, common_steps)

pub in_cond-returns-in-Quantified : goal.in_cond-returns-in-Quantified
in_cond-returns-in-Quantified t c = grind (arith, common_steps)

pub in_exprs-offset_bounds-list-x-index : goal.in_exprs-offset_bounds-list-x-index
in_exprs-offset_bounds-list-x-index t c = grind (arith, common_steps)

pub in_choices-returns-then-in_expr : goal.in_choices-returns-then-in_expr
in_choices-returns-then-in_expr t c = grind (arith, common_steps)

pub in_expr-returns-then-in_expr-3 : goal.in_expr-returns-then-in_expr-3
in_expr-returns-then-in_expr-3 t c = grind (arith, common_steps)

pub in_cond-returns-in-Not : goal.in_cond-returns-in-Not
in_cond-returns-in-Not t c = grind (arith, common_steps)

pub in_exprs-returns-then-in_expr : goal.in_exprs-returns-then-in_expr
in_exprs-returns-then-in_expr t c = grind (arith, common_steps)

pub in_cond-returns-else-in_cond : goal.in_cond-returns-else-in_cond
in_cond-returns-else-in_cond t c = grind (arith, common_steps)

pub in_expr-returns-in-CountAll : goal.in_expr-returns-in-CountAll
in_expr-returns-in-CountAll t c = grind (arith, common_steps)

pub in_cond-returns-then-in_cond : goal.in_cond-returns-then-in_cond
in_cond-returns-then-in_cond t c = grind (arith, common_steps)

pub in_expr-returns-else-in_expr-3 : goal.in_expr-returns-else-in_expr-3
in_expr-returns-else-in_expr-3 t c = grind (arith, common_steps)

pub in_else-returns-in-Else : goal.in_else-returns-in-Else
in_else-returns-in-Else t c = grind (arith, common_steps)

pub in_expr-returns-in-CountAll-2 : goal.in_expr-returns-in-CountAll-2
in_expr-returns-in-CountAll-2 t c = grind (arith, common_steps)

pub in_expr-returns-then-in_expr-2 : goal.in_expr-returns-then-in_expr-2
in_expr-returns-then-in_expr-2 t c = grind (arith, common_steps)

pub in_expr-returns-in-Number-5 : goal.in_expr-returns-in-Number-5
in_expr-returns-in-Number-5 t c = grind (arith, common_steps)

pub in_exprs-returns : goal.in_exprs-returns
in_exprs-returns t c = grind (arith, common_steps)

pub in_cond-returns-else-in_expr-4 : goal.in_cond-returns-else-in_expr-4
in_cond-returns-else-in_expr-4 t c = grind (arith, common_steps)

pub in_cond-returns-then-in_expr-4 : goal.in_cond-returns-then-in_expr-4
in_cond-returns-then-in_expr-4 t c = grind (arith, common_steps)

pub in_exprs-loop-x-preserved : goal.in_exprs-loop-x-preserved
in_exprs-loop-x-preserved t c = grind (arith, common_steps)

pub in_expr-returns-in-Number-4 : goal.in_expr-returns-in-Number-4
in_expr-returns-in-Number-4 t c = grind (arith, common_steps)

pub in_choices-returns : goal.in_choices-returns
in_choices-returns t c = grind (arith, common_steps)

pub in_expr-returns-in-Signed : goal.in_expr-returns-in-Signed
in_expr-returns-in-Signed t c = grind (arith, common_steps)

pub in_arms-loop-arm-smaller : goal.in_arms-loop-arm-smaller
in_arms-loop-arm-smaller t c = grind (arith, common_steps)

pub in_arms-returns : goal.in_arms-returns
in_arms-returns t c = grind (arith, common_steps)

pub in_choices-loop-choice-preserved : goal.in_choices-loop-choice-preserved
in_choices-loop-choice-preserved t c = grind (arith, common_steps)

pub in_expr-returns-then-in_expr : goal.in_expr-returns-then-in_expr
in_expr-returns-then-in_expr t c = grind (arith, common_steps)

pub in_arms-loop-arm-preserved : goal.in_arms-loop-arm-preserved
in_arms-loop-arm-preserved t c = grind (arith, common_steps)

pub in_else-returns-in-Absent : goal.in_else-returns-in-Absent
in_else-returns-in-Absent t c = grind (arith, common_steps)

pub in_exprs-loop-x-smaller : goal.in_exprs-loop-x-smaller
in_exprs-loop-x-smaller t c = grind (arith, common_steps)

pub in_res-returns-in-Null : goal.in_res-returns-in-Null
in_res-returns-in-Null t c = grind (arith, common_steps)
