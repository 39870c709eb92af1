use Rattle.std.proofs.Common.{arith, ◌+◌, ◌++◌, drop, List, [], map, ap, refl, sym, append_assoc}
use Rattle.std.proofs.lemmas.Grind.{common_steps}
use Rattle.std.proofs.lemmas.Result.{on_ok_weaker}
use Rattle.sql_meaning.specs.ResolvedShown as shown
use Rattle.sql_meaning.specs.declared.resolved.Addend.{Addend}
use Rattle.sql_meaning.specs.declared.resolved.Arm.{Arm}
use Rattle.sql_meaning.specs.declared.resolved.Choice.{Choice}
use Rattle.sql_meaning.specs.declared.resolved.Multiplier.{Multiplier}
use Rattle.sql_meaning.specs.declared.resolved.Test.{Test}
use Rattle.sql_meaning.specs.declared.resolved.Value.{Value}
use Rattle.qgm_translation.specs.Leaves as w
use Rattle.qgm_build_terms.specs.Folds.{leaf_of}
use Rattle.qgm_build_terms.proofs.Folding.{both_there, fold_more, fold_sub, fold_three, fold_two, folding, on_both, on_three}
use Rattle.qgm_build_terms.proofs.folds.+folds.Goals as goal

pub addend_folds-loop-x-preserved : goal.addend_folds-loop-x-preserved
addend_folds-loop-x-preserved h c = fold_more (λ (xs : List Addend). w.addend_leaves [] (shown.addend_list xs)) c.args.list.now c.loop-x.x-index c.x-item.result (w.leaves [] (shown.value c.x-item.result.value)) (map leaf_of c.loop-x.out.items) _ _ c.loop-x-test.true c.x-item.is refl c.in_ok-value_folds.ensures c.loop-x.invariant

pub multiplier_folds-loop-x-preserved : goal.multiplier_folds-loop-x-preserved
multiplier_folds-loop-x-preserved h c = fold_more (λ (xs : List Multiplier). w.multiplier_leaves [] (shown.multiplier_list xs)) c.args.list.now c.loop-x.x-index c.x-item.result (w.leaves [] (shown.value c.x-item.result.value)) (map leaf_of c.loop-x.out.items) _ _ c.loop-x-test.true c.x-item.is refl c.in_ok-value_folds.ensures c.loop-x.invariant

pub list_folds-loop-x-preserved : goal.list_folds-loop-x-preserved
list_folds-loop-x-preserved h c = fold_more (λ (xs : List Value). w.list_leaves [] (shown.value_list xs)) c.args.list.now c.loop-x.x-index c.x-item.result (w.leaves [] (shown.value c.x-item.result)) (map leaf_of c.loop-x.out.items) _ _ c.loop-x-test.true c.x-item.is refl c.in_ok-value_folds.ensures c.loop-x.invariant

pub arm_folds-loop-x-preserved : goal.arm_folds-loop-x-preserved
arm_folds-loop-x-preserved h c = fold_more (λ (xs : List Arm). w.arm_leaves [] (shown.arm_list xs)) c.args.list.now c.loop-x.x-index c.x-item.result ((w.test_leaves [] (shown.test c.x-item.result.when)) ++ (w.leaves [] (shown.value c.x-item.result.then))) (map leaf_of c.loop-x.out.items) _ _ c.loop-x-test.true c.x-item.is (sym (append_assoc (w.test_leaves [] (shown.test c.x-item.result.when)) (w.leaves [] (shown.value c.x-item.result.then)) (w.arm_leaves [] (shown.arm_list (drop (c.loop-x.x-index + 1) c.args.list.now))))) (both_there c.test_folds.result c.value_folds.result c.and.result _ c.and.ensures c.in_ok-and.was c.test_folds.ensures c.value_folds.ensures (λ d e. fold_two (w.test_leaves [] (shown.test c.x-item.result.when)) (w.leaves [] (shown.value c.x-item.result.then)) _ _ _ d e)) c.loop-x.invariant

pub choice_folds-loop-x-preserved : goal.choice_folds-loop-x-preserved
choice_folds-loop-x-preserved h c = fold_more (λ (xs : List Choice). w.choice_leaves [] (shown.choice_list xs)) c.args.list.now c.loop-x.x-index c.x-item.result ((w.leaves [] (shown.value c.x-item.result.when)) ++ (w.leaves [] (shown.value c.x-item.result.then))) (map leaf_of c.loop-x.out.items) _ _ c.loop-x-test.true c.x-item.is (sym (append_assoc (w.leaves [] (shown.value c.x-item.result.when)) (w.leaves [] (shown.value c.x-item.result.then)) (w.choice_leaves [] (shown.choice_list (drop (c.loop-x.x-index + 1) c.args.list.now))))) (both_there c.value_folds.result c.value_folds-in-loop-x.result c.and.result _ c.and.ensures c.in_ok-and.was c.value_folds.ensures c.value_folds-in-loop-x.ensures (λ d e. fold_two (w.leaves [] (shown.value c.x-item.result.when)) (w.leaves [] (shown.value c.x-item.result.then)) _ _ _ d e)) c.loop-x.invariant

pub tests_folds-loop-p-preserved : goal.tests_folds-loop-p-preserved
tests_folds-loop-p-preserved h c = fold_more (λ (xs : List Test). w.tests_leaves [] (shown.test_list xs)) c.args.list.now c.loop-p.p-index c.p-item.result (w.test_leaves [] (shown.test c.p-item.result)) (map leaf_of c.loop-p.out.items) _ _ c.loop-p-test.true c.p-item.is refl c.in_ok-test_folds.ensures c.loop-p.invariant

pub test_folds-returns-in-Quantified : goal.test_folds-returns-in-Quantified
test_folds-returns-in-Quantified h c =
    rw c.in-Quantified.is (on_ok_weaker c.value_folds.result (λ e. fold_sub (shown.value c.deref-in-Quantified.result.now) (shown.value c.in-Quantified.a.value) _ _ _ _ _ (ap shown.value c.deref-in-Quantified.ensures) e) c.value_folds.ensures)

pub test_folds-returns-in-AmongRows : goal.test_folds-returns-in-AmongRows
test_folds-returns-in-AmongRows h c =
    rw c.in-AmongRows.is (on_ok_weaker c.value_folds-in-AmongRows.result (λ e. fold_sub (shown.value c.deref-in-AmongRows.result.now) (shown.value c.in-AmongRows.a.value) _ _ _ _ _ (ap shown.value c.deref-in-AmongRows.ensures) e) c.value_folds-in-AmongRows.ensures)

pub value_folds-returns-in-Sum : goal.value_folds-returns-in-Sum
value_folds-returns-in-Sum h c =
    rw (c.and.ensures, c.in-Sum.is, shown.addends_hidden c.in-Sum.list, ← c.as_slice.ensures, ← c.deref.ensures)
    (on_both c.value_folds.result c.addend_folds.result (λ d e. fold_two (w.leaves [] (shown.value c.deref.result.now)) (w.addend_leaves [] (shown.addend_list c.as_slice.result.now)) _ _ _ d e) c.value_folds.ensures c.addend_folds.ensures)

pub value_folds-returns-in-Product : goal.value_folds-returns-in-Product
value_folds-returns-in-Product h c =
    rw (c.and-in-Product.ensures, c.in-Product.is, shown.multipliers_hidden c.in-Product.list, ← c.as_slice-in-Product.ensures, ← c.deref-in-Product.ensures)
    (on_both c.value_folds-in-Product.result c.multiplier_folds.result (λ d e. fold_two (w.leaves [] (shown.value c.deref-in-Product.result.now)) (w.multiplier_leaves [] (shown.multiplier_list c.as_slice-in-Product.result.now)) _ _ _ d e) c.value_folds-in-Product.ensures c.multiplier_folds.ensures)

pub value_folds-returns-in-Searched : goal.value_folds-returns-in-Searched
value_folds-returns-in-Searched h c = grind (arith, common_steps, shown.lists, folding)

pub value_folds-returns-in-Simple : goal.value_folds-returns-in-Simple
value_folds-returns-in-Simple h c =
    rw (c.and-in-Simple.ensures, c.and-read.ensures, c.in-Simple.is, shown.choices_hidden c.in-Simple.list, ← c.as_slice-in-Simple.ensures, ← c.deref-in-Simple.ensures, ← c.deref-in-Simple-2.ensures)
    (on_three c.value_folds-in-Simple.result c.choice_folds.result c.value_folds-in-Simple-2.result (λ d e f. fold_three (w.leaves [] (shown.value c.deref-in-Simple.result.now)) (w.choice_leaves [] (shown.choice_list c.as_slice-in-Simple.result.now)) (w.leaves [] (shown.value c.deref-in-Simple-2.result.now)) _ _ _ _ d e f)
    c.value_folds-in-Simple.ensures c.choice_folds.ensures c.value_folds-in-Simple-2.ensures)

pub value_folds-returns-in-Coalesce : goal.value_folds-returns-in-Coalesce
value_folds-returns-in-Coalesce h c =
    rw (c.and-in-Coalesce.ensures, c.in-Coalesce.is, shown.values_hidden c.in-Coalesce.list, ← c.as_slice-in-Coalesce.ensures, ← c.deref-in-Coalesce.ensures)
    (on_both c.value_folds-in-Coalesce.result c.list_folds.result (λ d e. fold_two (w.leaves [] (shown.value c.deref-in-Coalesce.result.now)) (w.list_leaves [] (shown.value_list c.as_slice-in-Coalesce.result.now)) _ _ _ d e) c.value_folds-in-Coalesce.ensures c.list_folds.ensures)

pub value_folds-returns-in-NullIf : goal.value_folds-returns-in-NullIf
value_folds-returns-in-NullIf h c = grind (arith, common_steps, shown.lists, folding)

pub test_folds-returns-in-All : goal.test_folds-returns-in-All
test_folds-returns-in-All h c = grind (arith, common_steps, shown.lists, folding)

pub test_folds-returns-in-Compare : goal.test_folds-returns-in-Compare
test_folds-returns-in-Compare h c = grind (arith, common_steps, shown.lists, folding)

pub test_folds-returns-in-Between : goal.test_folds-returns-in-Between
test_folds-returns-in-Between h c = grind (arith, common_steps, shown.lists, folding)

pub test_folds-returns-in-Among : goal.test_folds-returns-in-Among
test_folds-returns-in-Among h c =
    rw (c.and-in-Among.ensures, c.in-Among.is, shown.values_hidden c.in-Among.list, ← c.as_slice.ensures, ← c.deref-in-Among.ensures)
    (on_both c.value_folds-in-Among.result c.list_folds.result (λ d e. fold_two (w.leaves [] (shown.value c.deref-in-Among.result.now)) (w.list_leaves [] (shown.value_list c.as_slice.result.now)) _ _ _ d e) c.value_folds-in-Among.ensures c.list_folds.ensures)

pub addend_folds-returns : goal.addend_folds-returns
addend_folds-returns t c = grind (arith, common_steps)

pub arm_folds-returns : goal.arm_folds-returns
arm_folds-returns t c = grind (arith, common_steps)

pub choice_folds-returns : goal.choice_folds-returns
choice_folds-returns t c = grind (arith, common_steps)

pub list_folds-returns : goal.list_folds-returns
list_folds-returns t c = grind (arith, common_steps)

pub multiplier_folds-returns : goal.multiplier_folds-returns
multiplier_folds-returns t c = grind (arith, common_steps)

pub tests_folds-returns : goal.tests_folds-returns
tests_folds-returns t c = grind (arith, common_steps)

pub test_folds-returns-in-IsNull : goal.test_folds-returns-in-IsNull
test_folds-returns-in-IsNull t c = grind (arith, common_steps)

pub test_folds-returns-in-Not : goal.test_folds-returns-in-Not
test_folds-returns-in-Not t c = grind (arith, common_steps)

pub choice_folds-loop-x-smaller : goal.choice_folds-loop-x-smaller
choice_folds-loop-x-smaller t c = grind (arith, common_steps)

pub value_folds-returns-in-CountAll : goal.value_folds-returns-in-CountAll
value_folds-returns-in-CountAll t c = grind (arith, common_steps)

pub value_folds-returns-in-Number-2 : goal.value_folds-returns-in-Number-2
value_folds-returns-in-Number-2 t c = grind (arith, common_steps)

pub test_folds-returns-in-Exists : goal.test_folds-returns-in-Exists
test_folds-returns-in-Exists t c = grind (arith, common_steps)

pub value_folds-returns-in-Number-4 : goal.value_folds-returns-in-Number-4
value_folds-returns-in-Number-4 t c = grind (arith, common_steps)

pub arm_folds-loop-x-smaller : goal.arm_folds-loop-x-smaller
arm_folds-loop-x-smaller t c = grind (arith, common_steps)

pub value_folds-returns-in-Aggregate : goal.value_folds-returns-in-Aggregate
value_folds-returns-in-Aggregate t c = grind (arith, common_steps)

pub value_folds-returns-in-Negative : goal.value_folds-returns-in-Negative
value_folds-returns-in-Negative t c = grind (arith, common_steps)
