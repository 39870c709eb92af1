use Rattle.std.proofs.Common.{◌≡◌, drop}
use Rattle.sql_ast.specs.Grammatical as gram
use Rattle.sql_ast.specs.Shown as shown
use Rattle.sql_parser.proofs.sub.+without_sub.Given as goal

abbrev pub invariant-exprs_without_sub-exprs : goal.invariant-exprs_without_sub-exprs
invariant-exprs_without_sub-exprs l = gram.exprs_without_sub (shown.expr_list l.xs) ≡ gram.exprs_without_sub (shown.expr_list (drop l.x-index l.xs))

abbrev pub invariant-arms_without_sub-arms : goal.invariant-arms_without_sub-arms
invariant-arms_without_sub-arms l = gram.arms_without_sub (shown.arm_list l.xs) ≡ gram.arms_without_sub (shown.arm_list (drop l.x-index l.xs))

abbrev pub invariant-choices_without_sub-choices : goal.invariant-choices_without_sub-choices
invariant-choices_without_sub-choices l = gram.choices_without_sub (shown.choice_list l.xs) ≡ gram.choices_without_sub (shown.choice_list (drop l.x-index l.xs))
