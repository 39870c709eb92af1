use Rattle.std.proofs.lemmas.Grind.{common_steps}
use Rattle.std.proofs.Common.{◌∙◌, ◌+◌, List, drop, map, ap, refl, sym, arith}
use Rattle.std.specs.Result.{result_and}
use Rattle.sql_meaning.specs.ResolvedShown as shown
use Rattle.sql_meaning.specs.declared.resolved.Addend.{Addend}
use Rattle.sql_meaning.specs.declared.resolved.Arm.{Arm}
use Rattle.sql_meaning.specs.declared.resolved.Choice.{Choice}
use Rattle.sql_meaning.specs.declared.resolved.From.{From}
use Rattle.sql_meaning.specs.declared.resolved.Multiplier.{Multiplier}
use Rattle.sql_meaning.specs.declared.resolved.Test.{Test}
use Rattle.sql_meaning.specs.declared.resolved.Value.{Value}
use Rattle.qgm_core.specs.declared.kinds.QuantKind.TheVariants.{E}
use Rattle.qgm_translation.specs.Lay.{over}
use Rattle.qgm_translation.specs.Shown.{past}
use Rattle.qgm_build.specs.Laying.{addend_step, all_on_step, arm_step, choice_step, from_step, froms_step, inner_laid, list_step, multiplier_step, on_step, test_step, tests_step, told_at, value_step}
use Rattle.qgm_build_terms.specs.SoFar.{so_far}
use Rattle.qgm_build_terms.specs.Written.{frame_of}
use Rattle.qgm_build_terms.specs.Folds.{leaf_of}
use Rattle.qgm_build.proofs.Cycle.{block_made, block_subs_made, combine_ok, crossed_ok, flat_is, flat_ok, grouped_ok, groups_ok, intersect_ok, joined_ok, left_ok, past_crossed, past_joined, rows_opened, rows_subs_made, single_ok, upper_subs_made}
use Rattle.qgm_build_terms.proofs.Folding.{on_both, on_three}
use Rattle.qgm_build_terms.proofs.Steps.{next_there}
use Rattle.qgm_build.proofs.Taking.{all_two, leads_at, leads_more, leads_next, leads_two, of_one, takes_both, takes_over, takes_three, taking}
use Rattle.qgm_build.proofs.lay.+lay.Goals as goal

pub addend_subs-loop-x-preserved : goal.addend_subs-loop-x-preserved
addend_subs-loop-x-preserved h c =
    leads_more (λ (xs : List Addend). addend_step c.args.h.now (shown.addend_list xs)) c.args.list.now c.loop-x.x-index c.x-item.result (value_step c.args.h.now (shown.value c.x-item.result.value)) c.loop-x-test.true c.x-item.is refl c.in_ok-value_subs.ensures c.loop-x.invariant

pub multiplier_subs-loop-x-preserved : goal.multiplier_subs-loop-x-preserved
multiplier_subs-loop-x-preserved h c =
    leads_more (λ (xs : List Multiplier). multiplier_step c.args.h.now (shown.multiplier_list xs)) c.args.list.now c.loop-x.x-index c.x-item.result (value_step c.args.h.now (shown.value c.x-item.result.value)) c.loop-x-test.true c.x-item.is refl c.in_ok-value_subs.ensures c.loop-x.invariant

pub list_subs-loop-x-preserved : goal.list_subs-loop-x-preserved
list_subs-loop-x-preserved h c =
    leads_more (λ (xs : List Value). list_step c.args.h.now (shown.value_list xs)) c.args.list.now c.loop-x.x-index c.x-item.result (value_step c.args.h.now (shown.value c.x-item.result)) c.loop-x-test.true c.x-item.is refl c.in_ok-value_subs.ensures c.loop-x.invariant

pub tests_subs-loop-p-preserved : goal.tests_subs-loop-p-preserved
tests_subs-loop-p-preserved h c =
    leads_more (λ (xs : List Test). tests_step c.args.h.now (shown.test_list xs)) c.args.list.now c.loop-p.p-index c.p-item.result (test_step c.args.h.now (shown.test c.p-item.result)) c.loop-p-test.true c.p-item.is refl c.in_ok-test_subs.ensures c.loop-p.invariant

pub arm_subs-loop-x-preserved : goal.arm_subs-loop-x-preserved
arm_subs-loop-x-preserved h c =
    leads_two (λ (xs : List Arm). arm_step c.args.h.now (shown.arm_list xs)) c.args.list.now c.loop-x.x-index c.x-item.result (test_step c.args.h.now (shown.test c.x-item.result.when)) (value_step c.args.h.now (shown.value c.x-item.result.then)) c.loop-x-test.true c.x-item.is refl c.in_ok-test_subs.ensures c.in_ok-value_subs.ensures c.loop-x.invariant

pub choice_subs-loop-x-preserved : goal.choice_subs-loop-x-preserved
choice_subs-loop-x-preserved h c =
    leads_two (λ (xs : List Choice). choice_step c.args.h.now (shown.choice_list xs)) c.args.list.now c.loop-x.x-index c.x-item.result (value_step c.args.h.now (shown.value c.x-item.result.when)) (value_step c.args.h.now (shown.value c.x-item.result.then)) c.loop-x-test.true c.x-item.is refl c.in_ok-value_subs.ensures c.in_ok-value_subs-2.ensures c.loop-x.invariant

pub froms-loop-x-preserved : goal.froms-loop-x-preserved
froms-loop-x-preserved h c =
    leads_more (λ (xs : List From). froms_step c.args.g.now (shown.from_list xs)) c.args.list.now c.loop-x.x-index c.x-item.result (from_step c.args.g.now (shown.from c.x-item.result)) c.loop-x-test.true c.x-item.is refl c.in_ok-from.ensures c.loop-x.invariant

pub all_on_subs-loop-x-preserved : goal.all_on_subs-loop-x-preserved
all_on_subs-loop-x-preserved h c =
    leads_at (ap (all_on_step c.args.g.now (shown.from_list (drop (c.loop-x.x-index + 1) c.args.list.now))) (sym c.in_ok-on_subs.ensures.past))
    (leads_next (on_step c.args.g.now (shown.from c.x-item.result) c.loop-x.os.rest.now) (all_on_step c.args.g.now (shown.from_list (drop (c.loop-x.x-index + 1) c.args.list.now)) (past (told_at c.args.g.now) (shown.from c.x-item.result) c.loop-x.os.rest.now)) c.in_ok-on_subs.ensures.step
    (leads_at (ap (λ (xs : List From). all_on_step c.args.g.now (shown.from_list xs) c.loop-x.os.rest.now) (next_there c.args.list.now c.loop-x.x-index c.x-item.result c.loop-x-test.true c.x-item.is)) c.loop-x.invariant))

pub value_subs-returns-in-Scalar : goal.value_subs-returns-in-Scalar
value_subs-returns-in-Scalar h c = rw (c.in-Scalar.is, ← c.deref-in-Scalar.ensures) c.sub.ensures

pub test_subs-returns-in-Exists : goal.test_subs-returns-in-Exists
test_subs-returns-in-Exists h c = rw (c.in-Exists.is, ← c.deref-in-Exists.ensures) c.sub-in-Exists.ensures

pub test_subs-returns-in-All : goal.test_subs-returns-in-All
test_subs-returns-in-All t c = grind (arith, common_steps, shown.lists, taking)

pub arm_subs-returns : goal.arm_subs-returns
arm_subs-returns t c = grind (arith, common_steps)

pub test_subs-returns-in-Not : goal.test_subs-returns-in-Not
test_subs-returns-in-Not t c = grind (arith, common_steps)

pub test_subs-returns-in-IsNull : goal.test_subs-returns-in-IsNull
test_subs-returns-in-IsNull t c = grind (arith, common_steps)

pub value_subs-returns-in-Number : goal.value_subs-returns-in-Number
value_subs-returns-in-Number t c = grind (arith, common_steps)

pub froms-returns : goal.froms-returns
froms-returns t c = grind (arith, common_steps)

pub value_subs-returns-in-Number-5 : goal.value_subs-returns-in-Number-5
value_subs-returns-in-Number-5 t c = grind (arith, common_steps)

pub tests_subs-returns : goal.tests_subs-returns
tests_subs-returns t c = grind (arith, common_steps)

pub value_subs-returns-in-Number-4 : goal.value_subs-returns-in-Number-4
value_subs-returns-in-Number-4 t c = grind (arith, common_steps)

pub value_subs-returns-in-Number-2 : goal.value_subs-returns-in-Number-2
value_subs-returns-in-Number-2 t c = grind (arith, common_steps)

pub list_subs-returns : goal.list_subs-returns
list_subs-returns t c = grind (arith, common_steps)

pub on_subs-returns-in-Named-clause-past : goal.on_subs-returns-in-Named-clause-past
on_subs-returns-in-Named-clause-past t c = grind (arith, common_steps)

pub arm_subs-loop-x-smaller : goal.arm_subs-loop-x-smaller
arm_subs-loop-x-smaller t c = grind (arith, common_steps)

pub value_subs-returns-in-Number-6 : goal.value_subs-returns-in-Number-6
value_subs-returns-in-Number-6 t c = grind (arith, common_steps)

pub value_subs-returns-in-Negative : goal.value_subs-returns-in-Negative
value_subs-returns-in-Negative t c = grind (arith, common_steps)

pub all_on_subs-returns : goal.all_on_subs-returns
all_on_subs-returns t c = grind (arith, common_steps)

pub multiplier_subs-returns : goal.multiplier_subs-returns
multiplier_subs-returns t c = grind (arith, common_steps)

pub value_subs-returns-in-Number-3 : goal.value_subs-returns-in-Number-3
value_subs-returns-in-Number-3 t c = grind (arith, common_steps)

pub choice_subs-returns : goal.choice_subs-returns
choice_subs-returns t c = grind (arith, common_steps)

pub addend_subs-returns : goal.addend_subs-returns
addend_subs-returns t c = grind (arith, common_steps)

pub all_on_subs-loop-x-smaller : goal.all_on_subs-loop-x-smaller
all_on_subs-loop-x-smaller t c = grind (arith, common_steps)

pub on_subs-returns-in-Named-clause-step : goal.on_subs-returns-in-Named-clause-step
on_subs-returns-in-Named-clause-step t c = grind (arith, common_steps)

pub value_subs-returns-in-Sum : goal.value_subs-returns-in-Sum
value_subs-returns-in-Sum h c =
    rw (c.and.ensures, c.in-Sum.is, shown.addends_hidden c.in-Sum.list, ← c.as_slice.ensures, ← c.deref.ensures)
    (on_both c.value_subs.result c.addend_subs.result (λ d e. takes_both (value_step c.args.h.now (shown.value c.deref.result.now)) (addend_step c.args.h.now (shown.addend_list c.as_slice.result.now)) d e) c.value_subs.ensures c.addend_subs.ensures)

pub value_subs-returns-in-Product : goal.value_subs-returns-in-Product
value_subs-returns-in-Product h c =
    rw (c.and-in-Product.ensures, c.in-Product.is, shown.multipliers_hidden c.in-Product.list, ← c.as_slice-in-Product.ensures, ← c.deref-in-Product.ensures)
    (on_both c.value_subs-in-Product.result c.multiplier_subs.result (λ d e. takes_both (value_step c.args.h.now (shown.value c.deref-in-Product.result.now)) (multiplier_step c.args.h.now (shown.multiplier_list c.as_slice-in-Product.result.now)) d e) c.value_subs-in-Product.ensures c.multiplier_subs.ensures)

pub value_subs-returns-in-Coalesce : goal.value_subs-returns-in-Coalesce
value_subs-returns-in-Coalesce h c =
    rw (c.and-in-Coalesce.ensures, c.in-Coalesce.is, shown.values_hidden c.in-Coalesce.list, ← c.as_slice-in-Coalesce.ensures, ← c.deref-in-Coalesce.ensures)
    (on_both c.value_subs-in-Coalesce.result c.list_subs.result (λ d e. takes_both (value_step c.args.h.now (shown.value c.deref-in-Coalesce.result.now)) (list_step c.args.h.now (shown.value_list c.as_slice-in-Coalesce.result.now)) d e) c.value_subs-in-Coalesce.ensures c.list_subs.ensures)

pub value_subs-returns-in-Searched : goal.value_subs-returns-in-Searched
value_subs-returns-in-Searched h c =
    rw (c.and-in-Searched.ensures, c.in-Searched.is, shown.arms_hidden c.in-Searched.list, ← c.as_slice-in-Searched.ensures, ← c.deref-in-Searched.ensures)
    (on_both c.arm_subs.result c.value_subs-in-Searched.result (λ d e. takes_both (arm_step c.args.h.now (shown.arm_list c.as_slice-in-Searched.result.now)) (value_step c.args.h.now (shown.value c.deref-in-Searched.result.now)) d e) c.arm_subs.ensures c.value_subs-in-Searched.ensures)

pub value_subs-returns-in-Simple : goal.value_subs-returns-in-Simple
value_subs-returns-in-Simple h c =
    rw (c.and-in-Simple.ensures, c.and-read.ensures, c.in-Simple.is, shown.choices_hidden c.in-Simple.list, ← c.as_slice-in-Simple.ensures, ← c.deref-in-Simple.ensures, ← c.deref-in-Simple-2.ensures)
    (on_three c.value_subs-in-Simple.result c.choice_subs.result c.value_subs-in-Simple-2.result (λ d e f. takes_three (value_step c.args.h.now (shown.value c.deref-in-Simple.result.now)) (choice_step c.args.h.now (shown.choice_list c.as_slice-in-Simple.result.now)) (value_step c.args.h.now (shown.value c.deref-in-Simple-2.result.now)) d e f)
    c.value_subs-in-Simple.ensures c.choice_subs.ensures c.value_subs-in-Simple-2.ensures)

pub value_subs-returns-in-NullIf : goal.value_subs-returns-in-NullIf
value_subs-returns-in-NullIf h c =
    rw (c.and-in-NullIf.ensures, c.in-NullIf.is, ← c.deref-in-NullIf.ensures, ← c.deref-in-NullIf-2.ensures)
    (on_both c.value_subs-in-NullIf.result c.value_subs-in-NullIf-2.result (λ d e. takes_both (value_step c.args.h.now (shown.value c.deref-in-NullIf.result.now)) (value_step c.args.h.now (shown.value c.deref-in-NullIf-2.result.now)) d e) c.value_subs-in-NullIf.ensures c.value_subs-in-NullIf-2.ensures)

pub test_subs-returns-in-Among : goal.test_subs-returns-in-Among
test_subs-returns-in-Among h c =
    rw (c.and-in-Among.ensures, c.in-Among.is, shown.values_hidden c.in-Among.list, ← c.as_slice.ensures, ← c.deref-in-Among.ensures)
    (on_both c.value_subs-in-Among.result c.list_subs.result (λ d e. takes_both (value_step c.args.h.now (shown.value c.deref-in-Among.result.now)) (list_step c.args.h.now (shown.value_list c.as_slice.result.now)) d e) c.value_subs-in-Among.ensures c.list_subs.ensures)

pub test_subs-returns-in-Quantified : goal.test_subs-returns-in-Quantified
test_subs-returns-in-Quantified h c =
    rw (c.and.ensures, c.in-Quantified.is, ← c.deref-in-Quantified.ensures, ← c.deref-in-Quantified-2.ensures, ← c.every_or_some.ensures)
    (on_both c.value_subs.result c.sub.result (λ d e. takes_both (value_step c.args.h.now (shown.value c.deref-in-Quantified.result.now)) (over c.every_or_some.result (inner_laid c.args.h.now (shown.query c.deref-in-Quantified-2.result.now))) d e) c.value_subs.ensures c.sub.ensures)

pub test_subs-returns-in-AmongRows : goal.test_subs-returns-in-AmongRows
test_subs-returns-in-AmongRows h c =
    rw (c.and-in-AmongRows.ensures, c.in-AmongRows.is, ← c.deref-in-AmongRows.ensures, ← c.deref-in-AmongRows-2.ensures)
    (on_both c.value_subs-in-AmongRows.result c.sub-in-AmongRows.result (λ d e. takes_both (value_step c.args.h.now (shown.value c.deref-in-AmongRows.result.now)) (over E (inner_laid c.args.h.now (shown.query c.deref-in-AmongRows-2.result.now))) d e) c.value_subs-in-AmongRows.ensures c.sub-in-AmongRows.ensures)

pub test_subs-returns-in-Between : goal.test_subs-returns-in-Between
test_subs-returns-in-Between h c =
    rw (c.and-in-Between.ensures, c.and-read.ensures, c.in-Between.is, ← c.deref-in-Between.ensures, ← c.deref-in-Between-2.ensures, ← c.deref-in-Between-3.ensures)
    (on_three c.value_subs-in-Between.result c.value_subs-in-Between-2.result c.value_subs-in-Between-3.result (λ d e f. takes_three (value_step c.args.h.now (shown.value c.deref-in-Between.result.now)) (value_step c.args.h.now (shown.value c.deref-in-Between-2.result.now)) (value_step c.args.h.now (shown.value c.deref-in-Between-3.result.now)) d e f)
    c.value_subs-in-Between.ensures c.value_subs-in-Between-2.ensures c.value_subs-in-Between-3.ensures)

pub test_subs-returns-in-Compare : goal.test_subs-returns-in-Compare
test_subs-returns-in-Compare h c =
    grind (arith, common_steps, shown.lists, taking)

pub query-returns-in-Combine : goal.query-returns-in-Combine
query-returns-in-Combine h c =
    combine_ok c.args.g.now c.form_of.result c.in-Combine.op c.in-Combine.all c.in-Combine.n (shown.query c.args.x.now) (shown.query c.deref.result.now) (shown.query c.deref-in-Combine.result.now) (so_far c.args.st.now) (so_far c.query-left.new.st) (so_far c.query-right.new.st) (so_far c.finish_pair.new.st) c.query-left.result c.query-right.result c.finish_pair.result
    (rw (c.in-Combine.is, ← c.deref.ensures, ← c.deref-in-Combine.ensures) refl) c.form_of.ensures c.query-left.ensures c.query-right.ensures c.finish_pair.ensures

pub query-returns-in-Intersect : goal.query-returns-in-Intersect
query-returns-in-Intersect h c =
    intersect_ok c.args.g.now c.common_form.result c.in-Intersect.all c.in-Intersect.n (shown.query c.args.x.now) (shown.query c.deref-in-Intersect.result.now) (shown.query c.deref-in-Intersect-2.result.now) (so_far c.args.st.now) (so_far c.query-left-in-Intersect.new.st) (so_far c.query-right-in-Intersect.new.st) (so_far c.finish_pair-in-Intersect.new.st) c.query-left-in-Intersect.result c.query-right-in-Intersect.result c.finish_pair-in-Intersect.result
    (rw (c.in-Intersect.is, ← c.deref-in-Intersect.ensures, ← c.deref-in-Intersect-2.ensures) refl) c.common_form.ensures c.query-left-in-Intersect.ensures c.query-right-in-Intersect.ensures c.finish_pair-in-Intersect.ensures

pub single-returns-in-LeftJoined : goal.single-returns-in-LeftJoined
single-returns-in-LeftJoined h c =
    left_ok c.args.g.now (shown.from c.args.x.now) (shown.from c.deref-a.result.now) (shown.from c.deref-in-LeftJoined.result.now) c.in-LeftJoined.n (shown.test c.deref-in-LeftJoined-2.result.now) (so_far c.args.st.now) (so_far c.operand-left.new.st) (so_far c.operand-right.new.st) (so_far c.finish_outer.new.st) c.operand-left.result c.operand-right.result c.finish_outer.result
    (rw (c.in-LeftJoined.is, ← c.deref-a.ensures, ← c.deref-in-LeftJoined.ensures, ← c.deref-in-LeftJoined-2.ensures) refl) c.operand-left.ensures c.operand-right.ensures c.finish_outer.ensures

pub operand-returns-in-Crossed : goal.operand-returns-in-Crossed
operand-returns-in-Crossed h c =
    flat_is c.args.g.now (shown.from c.args.x.now) (so_far c.args.st.now) (so_far c.flat.new.st) c.flat.result (grind (arith, common_steps)) c.flat.ensures

pub from-returns-in-Named : goal.from-returns-in-Named
from-returns-in-Named h c =
    single_ok c.args.g.now (shown.from c.args.x.now) (so_far c.args.st.now) (so_far c.single-over.new.st) (so_far c.draw_over.new.st) c.args.out.now c.draw_over.new.out c.single-over.result c.draw_over.result (grind (arith, common_steps)) c.single-over.ensures c.draw_over.ensures

pub from-returns-in-Crossed : goal.from-returns-in-Crossed
from-returns-in-Crossed h c =
    grind (arith, common_steps, taking)

pub on_subs-returns-in-Crossed-clause-step : goal.on_subs-returns-in-Crossed-clause-step
on_subs-returns-in-Crossed-clause-step h c =
    rw c.and.ensures (crossed_ok c.args.g.now (shown.from c.args.x.now) (shown.from c.deref.result.now) (shown.from c.deref-in-Crossed.result.now) (so_far c.args.st.now) (so_far c.on_subs.new.st) (so_far c.on_subs-in-Crossed.new.st) c.args.os.now.rest.now c.on_subs.new.os.rest.now c.args.out.now c.on_subs.new.out c.on_subs-in-Crossed.new.out c.on_subs.result c.on_subs-in-Crossed.result
    (rw (c.in-Crossed.is, ← c.deref.ensures, ← c.deref-in-Crossed.ensures) refl) c.on_subs.ensures.step c.on_subs.ensures.past c.on_subs-in-Crossed.ensures.step)

pub on_subs-returns-in-Crossed-clause-past : goal.on_subs-returns-in-Crossed-clause-past
on_subs-returns-in-Crossed-clause-past h c =
    rw c.and.ensures (past_crossed c.args.g.now (shown.from c.args.x.now) (shown.from c.deref.result.now) (shown.from c.deref-in-Crossed.result.now) c.args.os.now.rest.now c.on_subs.new.os.rest.now c.on_subs-in-Crossed.new.os.rest.now c.on_subs.result c.on_subs-in-Crossed.result
    (rw (c.in-Crossed.is, ← c.deref.ensures, ← c.deref-in-Crossed.ensures) refl) c.on_subs.ensures.past c.on_subs-in-Crossed.ensures.past)

pub on_subs-returns-in-Joined-clause-step : goal.on_subs-returns-in-Joined-clause-step
on_subs-returns-in-Joined-clause-step h c =
    rw (c.and-in-Joined.ensures, c.and-passed.ensures)
    (joined_ok c.args.g.now (shown.from c.args.x.now) (shown.from c.deref-a.result.now) (shown.from c.deref-b.result.now) (shown.test c.deref-in-Joined.result.now) (so_far c.args.st.now) (so_far c.on_subs-in-Joined.new.st) (so_far c.on_subs-in-Joined-2.new.st) (so_far c.joined_subs.new.st)
    c.args.os.now.rest.now c.on_subs-in-Joined.new.os.rest.now c.args.out.now c.on_subs-in-Joined.new.out c.on_subs-in-Joined-2.new.out c.joined_subs.new.out c.on_subs-in-Joined.result c.on_subs-in-Joined-2.result c.joined_subs.result c.both_frame-frame.result (λ v. frame_of v.items)
    (rw (c.in-Joined.is, ← c.deref-a.ensures, ← c.deref-b.ensures, ← c.deref-in-Joined.ensures) refl) c.on_subs-in-Joined.ensures.step c.on_subs-in-Joined.ensures.past c.on_subs-in-Joined-2.ensures.step c.both_frame-frame.ensures c.joined_subs.ensures)

pub on_subs-returns-in-Joined-clause-past : goal.on_subs-returns-in-Joined-clause-past
on_subs-returns-in-Joined-clause-past h c =
    rw (c.and-in-Joined.ensures, c.and-passed.ensures)
    (past_joined c.args.g.now (shown.from c.args.x.now) (shown.from c.deref-a.result.now) (shown.from c.deref-b.result.now) (shown.test c.deref-in-Joined.result.now) c.args.os.now.rest.now c.on_subs-in-Joined.new.os.rest.now c.on_subs-in-Joined-2.new.os.rest.now c.on_subs-in-Joined.result c.on_subs-in-Joined-2.result c.joined_subs.result
    (rw (c.in-Joined.is, ← c.deref-a.ensures, ← c.deref-b.ensures, ← c.deref-in-Joined.ensures) refl) c.on_subs-in-Joined.ensures.past c.on_subs-in-Joined-2.ensures.past)

pub joined_subs-returns : goal.joined_subs-returns
joined_subs-returns h c =
    rw (c.in_ok-frame.was, ← c.deref.ensures.value) c.test_subs.ensures

pub sub-returns : goal.sub-returns
sub-returns h c =
    of_one c.draw_over.result c.query-over.result _ _ _ c.draw_over.ensures c.query-over.ensures (λ b p f. takes_over c.args.kind (inner_laid c.args.h.now (shown.query c.args.x.now)) f p)

pub flat-returns : goal.flat-returns
flat-returns h c =
    let both = all_two c.from-drawn.result c.on_subs-passed.result _ (sym c.and.ensures ∙ c.in_ok-and.was) c.from-drawn.ensures c.on_subs-passed.ensures.step in
    flat_ok c.args.g.now (shown.from c.args.x.now) (so_far c.args.st.now) (so_far c.from-drawn.new.st) (so_far c.on_subs-passed.new.st) (so_far c.finish_flat.new.st) c.new-fs.result c.from-drawn.new.out c.new-subs.result c.as_slice.result.now c.on_subs-passed.new.out c.finish_flat.result
    c.new-fs.ensures both.0 c.new-subs.ensures c.as_slice.ensures both.1 c.finish_flat.ensures

pub block_subs-returns : goal.block_subs-returns
block_subs-returns h c =
    block_subs_made c.args.g.now (shown.query c.args.x.now) c.in-Block.field-0 (shown.value_list c.as_slice-2.result.now) (shown.from_list c.as_slice-3.result.now) (shown.test c.deref-2.result.now) (frame_of c.args.o.now.frame.items) (frame_of c.deref.result.now) c.args.o.now.fs c.as_slice.result.now
    (so_far c.args.st.now) (so_far c.list_subs-listed.new.st) (so_far c.all_on_subs-passed.new.st) (so_far c.test_subs-tested.new.st) c.new-subs.result c.list_subs-listed.new.out c.all_on_subs-passed.new.out c.test_subs-tested.new.out c.list_subs-listed.result c.all_on_subs-passed.result c.test_subs-tested.result _
    (rw (c.in-Block.is, shown.values_hidden c.in-Block.list, shown.froms_hidden c.in-Block.from, ← c.as_slice-2.ensures, ← c.as_slice-3.ensures, ← c.deref-2.ensures) refl)
    (ap frame_of c.deref.ensures.value) c.as_slice.ensures c.new-subs.ensures (sym (c.and-2.ensures ∙ ap (λ z. result_and z c.test_subs-tested.result) c.and.ensures) ∙ c.in_ok-and.was) c.list_subs-listed.ensures c.all_on_subs-passed.ensures c.test_subs-tested.ensures

pub rows_subs-returns : goal.rows_subs-returns
rows_subs-returns h c =
    rows_subs_made c.args.g.now (shown.query c.args.x.now) c.in-Grouped.field-0 (shown.value_list c.in-Grouped.field-1) (shown.from_list c.as_slice-2.result.now) (shown.test c.deref-2.result.now) c.in-Grouped.field-4 c.in-Grouped.field-5 (shown.test c.in-Grouped.field-6.value) (frame_of c.args.o.now.frame.items) (frame_of c.deref.result.now) c.args.o.now.fs c.as_slice.result.now
    (so_far c.args.st.now) (so_far c.all_on_subs-passed.new.st) (so_far c.test_subs-tested.new.st) c.new-subs.result c.all_on_subs-passed.new.out c.test_subs-tested.new.out c.all_on_subs-passed.result c.test_subs-tested.result _
    (rw (c.in-Grouped.is, shown.values_hidden c.in-Grouped.field-1, shown.froms_hidden c.in-Grouped.from, ← c.as_slice-2.ensures, ← c.deref-2.ensures) refl)
    (ap frame_of c.deref.ensures.value) c.as_slice.ensures c.new-subs.ensures (sym c.and.ensures ∙ c.in_ok-and.was) c.all_on_subs-passed.ensures c.test_subs-tested.ensures

pub upper_subs-returns : goal.upper_subs-returns
upper_subs-returns h c =
    upper_subs_made c.args.h.now (shown.query c.args.x.now) c.in-Grouped.field-0 (shown.value_list c.as_slice.result.now) (shown.from_list c.in-Grouped.field-2) (shown.test c.in-Grouped.field-3.value) c.in-Grouped.field-4 c.in-Grouped.field-5 (shown.test c.deref.result.now)
    (so_far c.args.st.now) (so_far c.list_subs-listed.new.st) (so_far c.test_subs-tested.new.st) c.new-subs.result c.list_subs-listed.new.out c.test_subs-tested.new.out c.list_subs-listed.result c.test_subs-tested.result _
    (rw (c.in-Grouped.is, shown.values_hidden c.in-Grouped.list, shown.froms_hidden c.in-Grouped.field-2, ← c.as_slice.ensures, ← c.deref.ensures) refl)
    c.new-subs.ensures (sym c.and.ensures ∙ c.in_ok-and.was) c.list_subs-listed.ensures c.test_subs-tested.ensures

pub block-returns : goal.block-returns
block-returns h c =
    block_made c.args.g.now c.in-Block.distinct (shown.value_list c.as_slice-list.result.now) (shown.from_list c.as_slice-from.result.now) (shown.test c.deref-by.result.now) (so_far c.args.st.now) (so_far c.froms-drawn.new.st) (so_far c.block_subs.new.st) (so_far c.finish_block.new.st)
    (frame_of c.in_ok-o.o.frame.items) c.in_ok-o.o.fs c.in_ok-subs.subs (shown.query c.args.x.now) c.froms-drawn.result c.finish_block.result
    (rw (c.in-Block.is, shown.values_hidden c.in-Block.list, shown.froms_hidden c.in-Block.from, ← c.as_slice-list.ensures, ← c.as_slice-from.ensures, ← c.deref-by.ensures) refl)
    c.froms-drawn.ensures c.in_ok-o.ensures.quants c.in_ok-o.ensures.seen c.in_ok-subs.ensures c.finish_block.ensures

pub groups-returns : goal.groups-returns
groups-returns h c =
    groups_ok c.args.g.now c.in-Grouped.field-0 (shown.value_list c.as_slice.result.now) (shown.from_list c.as_slice-from.result.now) (shown.test c.deref-by.result.now) c.in-Grouped.places c.places_of.result.now c.in-Grouped.field-5 (shown.test c.deref.result.now) (map leaf_of c.as_slice-2.result.now)
    (so_far c.args.st.now) (so_far c.rows_subs.new.st) (so_far c.finish_rows.new.st) (so_far c.finish_group.new.st) (frame_of c.in_ok-o.o.frame.items) c.in_ok-o.o.fs c.in_ok-subs.subs c.in_ok-rows.rows (shown.query c.args.x.now) c.finish_group.result
    (rw (c.in-Grouped.is, shown.values_hidden c.in-Grouped.list, shown.froms_hidden c.in-Grouped.from, ← c.as_slice.ensures, ← c.as_slice-from.ensures, ← c.deref-by.ensures, ← c.deref.ensures) refl) c.places_of.ensures (ap (map leaf_of) c.as_slice-2.ensures.value ∙ c.in_ok-found.ensures)
    (rows_opened c.args.g.now c.in-Grouped.field-0 (shown.value_list c.as_slice.result.now) (shown.from_list c.as_slice-from.result.now) (shown.test c.deref-by.result.now) c.in-Grouped.places c.in-Grouped.field-5 (shown.test c.deref.result.now)
    (so_far c.args.st.now) (so_far c.froms-drawn.new.st) (so_far c.rows_subs.new.st) (frame_of c.in_ok-o.o.frame.items) c.in_ok-o.o.fs c.in_ok-subs.subs (shown.query c.args.x.now) c.froms-drawn.result
    (rw (c.in-Grouped.is, shown.values_hidden c.in-Grouped.list, shown.froms_hidden c.in-Grouped.from, ← c.as_slice.ensures, ← c.as_slice-from.ensures, ← c.deref-by.ensures, ← c.deref.ensures) refl) c.froms-drawn.ensures c.in_ok-o.ensures.quants c.in_ok-o.ensures.seen c.in_ok-subs.ensures)
    c.in_ok-rows.ensures c.finish_group.ensures

pub grouped-returns : goal.grouped-returns
grouped-returns h c =
    grouped_ok c.args.g.now c.in-Grouped.distinct (shown.value_list c.as_slice-list.result.now) (shown.from_list c.in-Grouped.field-2) (shown.test c.in-Grouped.field-3.value) c.in-Grouped.places c.places_of-places.result.now c.in-Grouped.n (shown.test c.deref-having.result.now) c.in_ok-groups.groups c.in_ok-u.u
    (so_far c.args.st.now) (so_far c.groups.new.st) (so_far c.number.new.st) (so_far c.upper_subs.new.st) (so_far c.finish_upper.new.st) (record { ground = c.args.g.now; frame = c.deref.result }) (frame_of c.in_ok-frame.frame.items) c.in_ok-subs.subs (shown.query c.args.x.now) c.finish_upper.result
    (rw (c.in-Grouped.is, shown.values_hidden c.in-Grouped.list, shown.froms_hidden c.in-Grouped.field-2, ← c.as_slice-list.ensures, ← c.deref-having.ensures) refl)
    c.places_of-places.ensures c.in_ok-groups.ensures c.in_ok-u.ensures.number c.in_ok-u.ensures.store c.in_ok-frame.ensures (ap frame_of c.deref.ensures.value) refl c.in_ok-subs.ensures c.finish_upper.ensures

pub block-finish_block-requires : goal.block-finish_block-requires
block-finish_block-requires h c =
    record { seen = c.in_ok-o.ensures.seen }

pub groups-finish_rows-requires : goal.groups-finish_rows-requires
groups-finish_rows-requires h c =
    record { seen = c.in_ok-o.ensures.seen }

pub grouped-finish_upper-requires : goal.grouped-finish_upper-requires
grouped-finish_upper-requires h c =
    record { seen = ap frame_of c.deref.ensures.value ∙ c.in_ok-frame.ensures }
