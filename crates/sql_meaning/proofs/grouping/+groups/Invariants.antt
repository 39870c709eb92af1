use Rattle.std.proofs.Common.{◌≡◌, drop}
use Rattle.sql_ast.specs.Shown as written
use Rattle.sql_meaning.specs.Grouping as spec
use Rattle.sql_meaning.proofs.grouping.+groups.Given as goal

abbrev pub invariant-in_exprs-loop-x : goal.invariant-in_exprs-loop-x
invariant-in_exprs-loop-x l = spec.in_exprs (written.expr_list (drop l.x-index l.list)) ≡ spec.in_exprs (written.expr_list l.list)

abbrev pub invariant-in_arms-loop-arm : goal.invariant-in_arms-loop-arm
invariant-in_arms-loop-arm l = spec.in_arms (written.arm_list (drop l.arm-index l.list)) ≡ spec.in_arms (written.arm_list l.list)

abbrev pub invariant-in_choices-loop-choice : goal.invariant-in_choices-loop-choice
invariant-in_choices-loop-choice l = spec.in_choices (written.choice_list (drop l.choice-index l.list)) ≡ spec.in_choices (written.choice_list l.list)
