use Rattle.std.proofs.lemmas.Grind.{common_steps}
use Rattle.std.proofs.Common.{List, false, true, suc, ap, ap₂, refl, ◌∙◌, arith}
use Rattle.sql_meaning.specs.ResolvedShown as shown
use Rattle.sql_meaning.specs.declared.resolved.Addend.{Addend}
use Rattle.sql_meaning.specs.declared.resolved.Arm.{Arm}
use Rattle.sql_meaning.specs.declared.resolved.Choice.{Choice}
use Rattle.sql_meaning.specs.declared.resolved.From.{From}
use Rattle.sql_meaning.specs.declared.resolved.Multiplier.{Multiplier}
use Rattle.sql_meaning.specs.declared.resolved.Test.{Test}
use Rattle.sql_meaning.specs.declared.resolved.Value.{Value}
use Rattle.qgm_build_size.specs.Sizes as spec
use Rattle.qgm_build_size.specs.Sizes.{plus}
use Rattle.qgm_build_size.specs.declared.sizes.Size.{Size}
use Rattle.qgm_build_size.proofs.Sizing.{coalesced_turn, of_among, of_compared, of_three, size_more, turn_more}
use Rattle.qgm_build_size.proofs.sizes.+sizes.Goals as goal

pub addends-loop-x-preserved : goal.addends-loop-x-preserved
addends-loop-x-preserved t c = size_more (λ (xs : List Addend). spec.addends_size (shown.addend_list xs)) c.args.list.now c.loop-x.x-index c.x-item.result (spec.more 1 (spec.value_size (shown.value c.x-item.result.value))) _ _ _ c.loop-x-test.true c.x-item.is refl (c.in_ok-total.ensures ∙ ap (plus c.loop-x.total) (c.in_ok-next.ensures ∙ ap (spec.more 1) c.in_ok-value.ensures)) c.loop-x.invariant

pub multipliers-loop-x-preserved : goal.multipliers-loop-x-preserved
multipliers-loop-x-preserved t c = size_more (λ (xs : List Multiplier). spec.multipliers_size (shown.multiplier_list xs)) c.args.list.now c.loop-x.x-index c.x-item.result (spec.more 1 (spec.value_size (shown.value c.x-item.result.value))) _ _ _ c.loop-x-test.true c.x-item.is refl (c.in_ok-total.ensures ∙ ap (plus c.loop-x.total) (c.in_ok-next.ensures ∙ ap (spec.more 1) c.in_ok-value.ensures)) c.loop-x.invariant

pub values-loop-x-preserved : goal.values-loop-x-preserved
values-loop-x-preserved t c = size_more (λ (xs : List Value). spec.values_size (shown.value_list xs)) c.args.list.now c.loop-x.x-index c.x-item.result (spec.value_size (shown.value c.x-item.result)) _ _ _ c.loop-x-test.true c.x-item.is refl (c.in_ok-total.ensures ∙ ap (plus c.loop-x.total) c.in_ok-value.ensures) c.loop-x.invariant

pub equals-loop-x-preserved : goal.equals-loop-x-preserved
equals-loop-x-preserved t c = turn_more (λ (s : Size) (xs : List Value). spec.among_size c.args.n false s (shown.value_list xs)) (λ (xs : List Value). spec.among_size c.args.n c.loop-x.first c.loop-x.total (shown.value_list xs)) c.args.list.now c.loop-x.x-index c.x-item.result _ _ _ c.loop-x-test.true c.x-item.is refl
    (c.in_ok-total-2.ensures ∙ ap (spec.joined c.loop-x.first c.loop-x.total) (c.in_ok-next.ensures ∙ ap₂ spec.more c.in_ok-each.ensures c.in_ok-value.ensures)) c.loop-x.invariant

pub tests-loop-p-preserved : goal.tests-loop-p-preserved
tests-loop-p-preserved t c = turn_more (λ (s : Size) (xs : List Test). spec.tests_size false s (shown.test_list xs)) (λ (xs : List Test). spec.tests_size c.loop-p.first c.loop-p.total (shown.test_list xs)) c.args.list.now c.loop-p.p-index c.p-item.result _ _ _ c.loop-p-test.true c.p-item.is refl
    (c.in_ok-total-2.ensures ∙ ap (spec.joined c.loop-p.first c.loop-p.total) c.in_ok-next.ensures) c.loop-p.invariant

pub froms-loop-x-preserved : goal.froms-loop-x-preserved
froms-loop-x-preserved t c = size_more (λ (xs : List From). spec.froms_size (shown.from_list xs)) c.args.list.now c.loop-x.x-index c.x-item.result (spec.from_size (shown.from c.x-item.result)) _ _ _ c.loop-x-test.true c.x-item.is refl (c.in_ok-total.ensures ∙ ap (plus c.loop-x.total) c.in_ok-from.ensures) c.loop-x.invariant

pub arms-loop-x-preserved : goal.arms-loop-x-preserved
arms-loop-x-preserved t c = size_more (λ (xs : List Arm). spec.arms_size (shown.arm_list xs)) c.args.list.now c.loop-x.x-index c.x-item.result (plus (spec.test_size (shown.test c.x-item.result.when)) (spec.value_size (shown.value c.x-item.result.then))) _ _ _ c.loop-x-test.true c.x-item.is refl
    (c.in_ok-total.ensures ∙ ap (plus c.loop-x.total) (c.in_ok-plus.ensures ∙ ap₂ plus c.in_ok-when.ensures c.in_ok-then.ensures)) c.loop-x.invariant

pub choices-loop-x-preserved : goal.choices-loop-x-preserved
choices-loop-x-preserved t c = size_more (λ (xs : List Choice). spec.choices_size c.args.n (shown.choice_list xs)) c.args.list.now c.loop-x.x-index c.x-item.result (spec.more (suc c.args.n) (plus (spec.value_size (shown.value c.x-item.result.when)) (spec.value_size (shown.value c.x-item.result.then)))) _ _ _ c.loop-x-test.true c.x-item.is refl
    (c.in_ok-total.ensures ∙ ap (plus c.loop-x.total) (c.in_ok-choice.ensures ∙ ap (spec.more (suc c.args.n)) (ap₂ plus c.in_ok-when.ensures c.in_ok-then.ensures))) c.loop-x.invariant

pub coalesced-loop-x-preserved : goal.coalesced-loop-x-preserved
coalesced-loop-x-preserved t c = coalesced_turn c.args.list.now c.loop-x.x-index c.x-item.result c.loop-x.last c.in_ok-last.last c.loop-x.total c.in_ok-total.total _ c.loop-x-test.true c.x-item.is (c.in_ok-total.ensures ∙ ap (plus c.loop-x.total) c.in_ok-present.ensures) c.in_ok-last.ensures c.loop-x.invariant

pub coalesced-loop-x-smaller : goal.coalesced-loop-x-smaller
coalesced-loop-x-smaller t c = grind (arith, common_steps)

pub multipliers-returns : goal.multipliers-returns
multipliers-returns t c = grind (arith, common_steps)

pub froms-loop-x-smaller : goal.froms-loop-x-smaller
froms-loop-x-smaller t c = grind (arith, common_steps)

pub tests-loop-p-smaller : goal.tests-loop-p-smaller
tests-loop-p-smaller t c = grind (arith, common_steps)

pub addends-returns : goal.addends-returns
addends-returns t c = grind (arith, common_steps)

pub multipliers-loop-x-smaller : goal.multipliers-loop-x-smaller
multipliers-loop-x-smaller t c = grind (arith, common_steps)

pub choices-returns : goal.choices-returns
choices-returns t c = grind (arith, common_steps)

pub coalesced-returns : goal.coalesced-returns
coalesced-returns t c = grind (arith, common_steps)

pub values-loop-x-smaller : goal.values-loop-x-smaller
values-loop-x-smaller t c = grind (arith, common_steps)

pub arms-returns : goal.arms-returns
arms-returns t c = grind (arith, common_steps)

pub tests-returns : goal.tests-returns
tests-returns t c = grind (arith, common_steps)

pub equals-returns : goal.equals-returns
equals-returns t c = grind (arith, common_steps)

pub equals-loop-x-smaller : goal.equals-loop-x-smaller
equals-loop-x-smaller t c = grind (arith, common_steps)

pub values-returns : goal.values-returns
values-returns t c = grind (arith, common_steps)

pub froms-returns : goal.froms-returns
froms-returns t c = grind (arith, common_steps)

pub arms-loop-x-smaller : goal.arms-loop-x-smaller
arms-loop-x-smaller t c = grind (arith, common_steps)

pub addends-loop-x-smaller : goal.addends-loop-x-smaller
addends-loop-x-smaller t c = grind (arith, common_steps)

pub choices-loop-x-smaller : goal.choices-loop-x-smaller
choices-loop-x-smaller t c = grind (arith, common_steps)

pub query-returns-in-Block : goal.query-returns-in-Block
query-returns-in-Block t c = rw (c.in-Block.is, shown.values_hidden c.in-Block.list, shown.froms_hidden c.in-Block.tables) (grind (arith, common_steps))

pub query-returns-in-Grouped : goal.query-returns-in-Grouped
query-returns-in-Grouped t c = rw (c.in-Grouped.is, shown.values_hidden c.in-Grouped.list, shown.froms_hidden c.in-Grouped.tables) (grind (arith, common_steps))

pub test-returns-in-All : goal.test-returns-in-All
test-returns-in-All t c = grind (arith, common_steps, shown.lists)

pub test-returns-in-Any : goal.test-returns-in-Any
test-returns-in-Any t c = grind (arith, common_steps, shown.lists)

pub test-returns-in-Among : goal.test-returns-in-Among
test-returns-in-Among t c =
    rw (c.in-Among.is, shown.values_hidden c.in-Among.list, ← c.deref-in-Among.ensures, ← c.as_slice-in-Among.ensures)
    (of_among c.compared_with.result c.value-a.result c.among.result (λ x y. plus (spec.below_it x) y) (λ x. spec.among_size x.own true (spec.more 2 spec.nothing) (shown.value_list c.as_slice-in-Among.result.now)) _ c.compared_with.ensures c.value-a.ensures c.among.ensures)

pub value-returns-in-Sum : goal.value-returns-in-Sum
value-returns-in-Sum t c = rw (c.in-Sum.is, shown.addends_hidden c.in-Sum.list) (grind (arith, common_steps))

pub value-returns-in-Product : goal.value-returns-in-Product
value-returns-in-Product t c = rw (c.in-Product.is, shown.multipliers_hidden c.in-Product.list) (grind (arith, common_steps))

pub value-returns-in-Searched : goal.value-returns-in-Searched
value-returns-in-Searched t c = grind (arith, common_steps, shown.lists)

pub value-returns-in-Simple : goal.value-returns-in-Simple
value-returns-in-Simple t c =
    rw (c.in-Simple.is, shown.choices_hidden c.in-Simple.list, ← c.deref-in-Simple.ensures, ← c.deref-in-Simple-2.ensures, ← c.as_slice-in-Simple.ensures)
    (of_compared c.simple.result c.value-a.result c.compared.result c.value-in-Simple.result (λ x y z. spec.more 1 (plus (spec.below_it x) (plus y z))) (λ x. spec.choices_size x.own (shown.choice_list c.as_slice-in-Simple.result.now)) _ _
    c.simple.ensures c.value-a.ensures c.compared.ensures c.value-in-Simple.ensures)

pub value-returns-in-Coalesce : goal.value-returns-in-Coalesce
value-returns-in-Coalesce t c = rw (c.in-Coalesce.is, shown.values_hidden c.in-Coalesce.list) (grind (arith, common_steps))

pub test-returns-in-Between : goal.test-returns-in-Between
test-returns-in-Between t c =
    rw (c.in-Between.is, ← c.deref-in-Between.ensures, ← c.deref-in-Between-2.ensures, ← c.deref-in-Between-3.ensures)
    (of_three c.between.result c.value.result c.value-in-Between.result c.value-in-Between-2.result (λ x y z. spec.more 3 (plus x (plus (spec.again x) (plus y z)))) _ _ _ c.between.ensures c.value.ensures c.value-in-Between.ensures c.value-in-Between-2.ensures)
