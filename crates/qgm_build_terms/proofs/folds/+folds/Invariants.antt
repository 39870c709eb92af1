use Rattle.std.proofs.Common.{◌≡◌, ◌++◌, [], drop, map}
use Rattle.sql_meaning.specs.ResolvedShown as shown
use Rattle.qgm_translation.specs.Leaves as w
use Rattle.qgm_translation.specs.Folds.{folds_in}
use Rattle.qgm_build_terms.specs.Folds.{leaf_of}
use Rattle.qgm_build_terms.proofs.folds.+folds.Given as goal

abbrev pub invariant-addend_folds-loop-x : goal.invariant-addend_folds-loop-x
invariant-addend_folds-loop-x l = map leaf_of l.out.items ++ folds_in (w.addend_leaves [] (shown.addend_list (drop l.x-index l.list))) ≡ map leaf_of l.fn.out.items ++ folds_in (w.addend_leaves [] (shown.addend_list l.list))

abbrev pub invariant-multiplier_folds-loop-x : goal.invariant-multiplier_folds-loop-x
invariant-multiplier_folds-loop-x l = map leaf_of l.out.items ++ folds_in (w.multiplier_leaves [] (shown.multiplier_list (drop l.x-index l.list))) ≡ map leaf_of l.fn.out.items ++ folds_in (w.multiplier_leaves [] (shown.multiplier_list l.list))

abbrev pub invariant-list_folds-loop-x : goal.invariant-list_folds-loop-x
invariant-list_folds-loop-x l = map leaf_of l.out.items ++ folds_in (w.list_leaves [] (shown.value_list (drop l.x-index l.list))) ≡ map leaf_of l.fn.out.items ++ folds_in (w.list_leaves [] (shown.value_list l.list))

abbrev pub invariant-arm_folds-loop-x : goal.invariant-arm_folds-loop-x
invariant-arm_folds-loop-x l = map leaf_of l.out.items ++ folds_in (w.arm_leaves [] (shown.arm_list (drop l.x-index l.list))) ≡ map leaf_of l.fn.out.items ++ folds_in (w.arm_leaves [] (shown.arm_list l.list))

abbrev pub invariant-choice_folds-loop-x : goal.invariant-choice_folds-loop-x
invariant-choice_folds-loop-x l = map leaf_of l.out.items ++ folds_in (w.choice_leaves [] (shown.choice_list (drop l.x-index l.list))) ≡ map leaf_of l.fn.out.items ++ folds_in (w.choice_leaves [] (shown.choice_list l.list))

abbrev pub invariant-tests_folds-loop-p : goal.invariant-tests_folds-loop-p
invariant-tests_folds-loop-p l = map leaf_of l.out.items ++ folds_in (w.tests_leaves [] (shown.test_list (drop l.p-index l.list))) ≡ map leaf_of l.fn.out.items ++ folds_in (w.tests_leaves [] (shown.test_list l.list))
