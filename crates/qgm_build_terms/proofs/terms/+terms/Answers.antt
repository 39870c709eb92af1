use Rattle.std.proofs.Common.{arith, ◌+◌, ◌++◌, List, ◌∷◌, drop, map, ap, ap₂, sym, ◌∙◌, refl}
use Rattle.std.proofs.lemmas.Grind.{common_steps}
use Rattle.sql_meaning.specs.ResolvedShown as shown
use Rattle.sql_meaning.specs.declared.resolved.Addend.{Addend}
use Rattle.sql_meaning.specs.declared.resolved.Arm.{Arm}
use Rattle.sql_meaning.specs.declared.resolved.Choice.{Choice}
use Rattle.sql_meaning.specs.declared.resolved.Multiplier.{Multiplier}
use Rattle.sql_meaning.specs.declared.resolved.Test.{Test}
use Rattle.sql_meaning.specs.declared.resolved.Value.{Value}
use Rattle.std.specs.Global.{Box, Vec}
use Rattle.qgm_terms.specs.Shown.{cond, term, terms}
use Rattle.qgm_terms.specs.Terms as tree
use Rattle.qgm_terms.specs.declared.tree.Gc.{Gc}
use Rattle.qgm_terms.specs.declared.tree.Gx.{Gx}
use Rattle.qgm_build_terms.specs.declared.parts.OpenArm.{OpenArm}
use Rattle.qgm_terms.specs.Terms.{Cond, Term}
use Rattle.qgm_translation.specs.Leaves as w
use Rattle.qgm_translation.specs.Leaves.{Slots}
use Rattle.qgm_translation.specs.Terms as t
use Rattle.qgm_build_terms.specs.Opened.{open_choice, open_of, opened}
use Rattle.qgm_build_terms.specs.Parts.{any_of, arms_in, choices_in, chosen, coalesced, conds_in, open_term}
use Rattle.qgm_build_terms.specs.Setting.{frame_in, outer_in, shared_box, sources_in}
use Rattle.qgm_build_terms.specs.Written.{slots_of}
use Rattle.qgm_build_terms.proofs.Afters.{after_append}
use Rattle.std.proofs.lemmas.Result.{IfOk-weaker}
use Rattle.qgm_build_terms.proofs.Steps.{arm_read, choice_read, is_there, made_of_one, made_of_two, slots_left, step_both, still_there, step_chain, step_items, step_slots}
use Rattle.qgm_build_terms.proofs.Wholes.{coalesced_whole, equals_whole, every_whole, searched_whole, simple_whole, some_whole}
use Rattle.qgm_build_terms.proofs.terms.+terms.Goals as goal

pub sum-loop-x-preserved : goal.sum-loop-x-preserved
sum-loop-x-preserved h c = record {
  term = IfOk-weaker c.longer-total.result _ _ (λ z h. is_there c.loop-x.total _ _ _ _ h c.loop-x.invariant.term c.loop-x.invariant.slots (λ y h so_far left. is_there c.value-next.result _ _ _ _ h c.value-next.ensures.term c.value-next.ensures.slots (λ x made is next.
      still_there c.args.first _ _ (λ a. step_chain (λ (s : Slots) (x : Term) (xs : List Addend). t.summed (sources_in c.args.g.now) (frame_in c.args.g.now) (outer_in c.args.g.now) s x (shown.addend_list xs)) c.args.list.now c.loop-x.x-index c.x-item.result (slots_of c.loop-x.s) (slots_of c.value-next.new.s) (term y.value) (term z.value) _ c.loop-x-test.true c.x-item.is
      (ap₂ (λ (s : Slots) (x : Term). t.summed (sources_in c.args.g.now) (frame_in c.args.g.now) (outer_in c.args.g.now) s x (shown.addend_list (drop (c.loop-x.x-index + 1) c.args.list.now))) (sym next) (ap₂ (λ o w. tree.both o (term y.value) w) (sym c.additive.ensures) (sym is) ∙ sym made))) so_far))) c.longer-total.ensures;
  slots = IfOk-weaker c.longer-total.result _ _ (λ z h. is_there c.loop-x.total _ _ _ _ h c.loop-x.invariant.term c.loop-x.invariant.slots (λ y h so_far left. is_there c.value-next.result _ _ _ _ h c.value-next.ensures.term c.value-next.ensures.slots (λ x made is next.
      step_slots (λ (xs : List Addend). w.addend_leaves (frame_in c.args.g.now) (shown.addend_list xs)) c.args.list.now c.loop-x.x-index c.x-item.result (w.leaves (frame_in c.args.g.now) (shown.value c.x-item.result.value)) (slots_of c.loop-x.s) (slots_of c.value-next.new.s) _ c.loop-x-test.true c.x-item.is refl next left))) c.longer-total.ensures;
}

pub product-loop-x-preserved : goal.product-loop-x-preserved
product-loop-x-preserved h c = record {
  term = IfOk-weaker c.longer-total.result _ _ (λ z h. is_there c.loop-x.total _ _ _ _ h c.loop-x.invariant.term c.loop-x.invariant.slots (λ y h so_far left. is_there c.value-next.result _ _ _ _ h c.value-next.ensures.term c.value-next.ensures.slots (λ x made is next.
      still_there c.args.first _ _ (λ a. step_chain (λ (s : Slots) (x : Term) (xs : List Multiplier). t.multiplied (sources_in c.args.g.now) (frame_in c.args.g.now) (outer_in c.args.g.now) s x (shown.multiplier_list xs)) c.args.list.now c.loop-x.x-index c.x-item.result (slots_of c.loop-x.s) (slots_of c.value-next.new.s) (term y.value) (term z.value) _ c.loop-x-test.true c.x-item.is
      (ap₂ (λ (s : Slots) (x : Term). t.multiplied (sources_in c.args.g.now) (frame_in c.args.g.now) (outer_in c.args.g.now) s x (shown.multiplier_list (drop (c.loop-x.x-index + 1) c.args.list.now))) (sym next) (ap₂ (λ o w. tree.both o (term y.value) w) (sym c.multiplicative.ensures) (sym is) ∙ sym made))) so_far))) c.longer-total.ensures;
  slots = IfOk-weaker c.longer-total.result _ _ (λ z h. is_there c.loop-x.total _ _ _ _ h c.loop-x.invariant.term c.loop-x.invariant.slots (λ y h so_far left. is_there c.value-next.result _ _ _ _ h c.value-next.ensures.term c.value-next.ensures.slots (λ x made is next.
      step_slots (λ (xs : List Multiplier). w.multiplier_leaves (frame_in c.args.g.now) (shown.multiplier_list xs)) c.args.list.now c.loop-x.x-index c.x-item.result (w.leaves (frame_in c.args.g.now) (shown.value c.x-item.result.value)) (slots_of c.loop-x.s) (slots_of c.value-next.new.s) _ c.loop-x-test.true c.x-item.is refl next left))) c.longer-total.ensures;
}

pub values-loop-x-preserved : goal.values-loop-x-preserved
values-loop-x-preserved h c = is_there c.value.result _ _ _ _ c.in_ok-push_made.ensures c.value.ensures.term c.value.ensures.slots (λ y made is next. record {
  parts = step_items term (λ (s : Slots) (xs : List Value). t.terms (sources_in c.args.g.now) (frame_in c.args.g.now) (outer_in c.args.g.now) s (shown.value_list xs)) c.args.list.now c.loop-x.x-index c.x-item.result y.value (slots_of c.loop-x.s) (slots_of c.value.new.s) c.loop-x.out.items c.push_made.new.list.items _ c.loop-x-test.true c.x-item.is made
      (ap₂ (λ (y : Term) (s : Slots). y ∷ t.terms (sources_in c.args.g.now) (frame_in c.args.g.now) (outer_in c.args.g.now) s (shown.value_list (drop (c.loop-x.x-index + 1) c.args.list.now))) (sym is) (sym next)) c.loop-x.invariant.parts;
  slots = step_slots (λ (xs : List Value). w.list_leaves (frame_in c.args.g.now) (shown.value_list xs)) c.args.list.now c.loop-x.x-index c.x-item.result (w.leaves (frame_in c.args.g.now) (shown.value c.x-item.result)) (slots_of c.loop-x.s) (slots_of c.value.new.s) _ c.loop-x-test.true c.x-item.is refl next c.loop-x.invariant.slots;
})

pub tests-loop-p-preserved : goal.tests-loop-p-preserved
tests-loop-p-preserved h c = is_there c.test.result _ _ _ _ c.in_ok-push_made.ensures c.test.ensures.cond c.test.ensures.slots (λ y made is next. record {
  parts = step_items cond (λ (s : Slots) (xs : List Test). conds_in (sources_in c.args.g.now) (frame_in c.args.g.now) (outer_in c.args.g.now) s (shown.test_list xs)) c.args.list.now c.loop-p.p-index c.p-item.result y.value (slots_of c.loop-p.s) (slots_of c.test.new.s) c.loop-p.out.items c.push_made.new.list.items _ c.loop-p-test.true c.p-item.is made
      (ap₂ (λ (y : Cond) (s : Slots). y ∷ conds_in (sources_in c.args.g.now) (frame_in c.args.g.now) (outer_in c.args.g.now) s (shown.test_list (drop (c.loop-p.p-index + 1) c.args.list.now))) (sym is) (sym next)) c.loop-p.invariant.parts;
  slots = step_slots (λ (xs : List Test). w.tests_leaves (frame_in c.args.g.now) (shown.test_list xs)) c.args.list.now c.loop-p.p-index c.p-item.result (w.test_leaves (frame_in c.args.g.now) (shown.test c.p-item.result)) (slots_of c.loop-p.s) (slots_of c.test.new.s) _ c.loop-p-test.true c.p-item.is refl next c.loop-p.invariant.slots;
})

pub arms-loop-arm-preserved : goal.arms-loop-arm-preserved
arms-loop-arm-preserved h c = is_there c.test-when.result _ _ _ _ c.in_ok-push_open.ensures c.test-when.ensures.cond c.test-when.ensures.slots (λ p h is_when mid. is_there c.outcome-then.result _ _ _ _ h c.outcome-then.ensures.term c.outcome-then.ensures.slots (λ z made is_then next. record {
  parts = step_items open_choice (λ (s : Slots) (xs : List Arm). arms_in (sources_in c.args.g.now) (frame_in c.args.g.now) (outer_in c.args.g.now) s (shown.arm_list xs)) c.args.list.now c.loop-arm.arm-index c.arm-item.result (record { when = p; then = z }) (slots_of c.loop-arm.s) (slots_of c.outcome-then.new.s) c.loop-arm.out.items c.push_open.new.list.items _ c.loop-arm-test.true c.arm-item.is made
      (arm_read (sources_in c.args.g.now) (frame_in c.args.g.now) (outer_in c.args.g.now) (slots_of c.loop-arm.s) (slots_of c.test-when.new.s) (slots_of c.outcome-then.new.s) (shown.test c.arm-item.result.when) (shown.value c.arm-item.result.then) (shown.arm_list (drop (c.loop-arm.arm-index + 1) c.args.list.now)) _ _ is_when mid is_then next) c.loop-arm.invariant.parts;
  slots = step_both (λ (xs : List Arm). w.arm_leaves (frame_in c.args.g.now) (shown.arm_list xs)) c.args.list.now c.loop-arm.arm-index c.arm-item.result (w.test_leaves (frame_in c.args.g.now) (shown.test c.arm-item.result.when)) (w.leaves (frame_in c.args.g.now) (shown.value c.arm-item.result.then)) (slots_of c.loop-arm.s) (slots_of c.test-when.new.s) (slots_of c.outcome-then.new.s) _ c.loop-arm-test.true c.arm-item.is refl mid next c.loop-arm.invariant.slots;
}))

pub choices-loop-choice-preserved : goal.choices-loop-choice-preserved
choices-loop-choice-preserved h c = is_there c.equal_copy-when.result _ _ _ _ c.in_ok-push_open.ensures c.equal_copy-when.ensures c.equal_copy-when.ensures (λ p h equal _. is_there c.outcome-then.result _ _ _ _ h c.outcome-then.ensures.term c.outcome-then.ensures.slots (λ z made is_then next. is_there c.value-y.result _ _ _ _ equal c.value-y.ensures.term c.value-y.ensures.slots (λ y is_when is_y mid. record {
  parts = step_items open_choice (λ (s : Slots) (xs : List Choice). choices_in (sources_in c.args.g.now) (frame_in c.args.g.now) (outer_in c.args.g.now) s (term c.in_ok-x.x.value) (shown.choice_list xs)) c.args.list.now c.loop-choice.choice-index c.choice-item.result (record { when = p; then = z }) (slots_of c.loop-choice.s) (slots_of c.outcome-then.new.s) c.loop-choice.out.items c.push_open.new.list.items _ c.loop-choice-test.true c.choice-item.is made
      (choice_read (sources_in c.args.g.now) (frame_in c.args.g.now) (outer_in c.args.g.now) (slots_of c.loop-choice.s) (slots_of c.value-y.new.s) (slots_of c.outcome-then.new.s) (term c.in_ok-x.x.value) (shown.value c.choice-item.result.when) (shown.value c.choice-item.result.then) (shown.choice_list (drop (c.loop-choice.choice-index + 1) c.args.list.now)) _ _ _ is_y mid (is_when ∙ ap (λ (z : Gx). tree.compare tree.equal (term z) (term y.value)) c.deref.ensures) is_then next) c.loop-choice.invariant.parts;
  slots = step_both (λ (xs : List Choice). w.choice_leaves (frame_in c.args.g.now) (shown.choice_list xs)) c.args.list.now c.loop-choice.choice-index c.choice-item.result (w.leaves (frame_in c.args.g.now) (shown.value c.choice-item.result.when)) (w.leaves (frame_in c.args.g.now) (shown.value c.choice-item.result.then)) (slots_of c.loop-choice.s) (slots_of c.value-y.new.s) (slots_of c.outcome-then.new.s) _ c.loop-choice-test.true c.choice-item.is refl mid next c.loop-choice.invariant.slots;
})))

pub test-returns-in-All-clause-cond : goal.test-returns-in-All-clause-cond
test-returns-in-All-clause-cond h c = grind (arith, shown.lists, every_whole)

pub test-returns-in-All-clause-slots : goal.test-returns-in-All-clause-slots
test-returns-in-All-clause-slots h c = grind (arith, shown.lists)

pub test-returns-in-Any-clause-cond : goal.test-returns-in-Any-clause-cond
test-returns-in-Any-clause-cond h c = grind (arith, shown.lists, some_whole)

pub test-returns-in-Any-clause-slots : goal.test-returns-in-Any-clause-slots
test-returns-in-Any-clause-slots h c = grind (arith, shown.lists)

pub test-returns-in-Compare-clause-slots : goal.test-returns-in-Compare-clause-slots
test-returns-in-Compare-clause-slots h c = grind (arith, after_append)

pub test-returns-in-Quantified-clause-slots : goal.test-returns-in-Quantified-clause-slots
test-returns-in-Quantified-clause-slots h c = grind (arith, after_append)

pub test-returns-in-Between-clause-slots : goal.test-returns-in-Between-clause-slots
test-returns-in-Between-clause-slots h c = grind (arith, after_append)

pub test-returns-in-AmongRows-clause-slots : goal.test-returns-in-AmongRows-clause-slots
test-returns-in-AmongRows-clause-slots h c = grind (arith, after_append)

pub test-returns-in-Like-clause-slots : goal.test-returns-in-Like-clause-slots
test-returns-in-Like-clause-slots h c = grind (arith, after_append)

pub value-returns-in-NullIf-clause-slots : goal.value-returns-in-NullIf-clause-slots
value-returns-in-NullIf-clause-slots h c = grind (arith, after_append)

pub test-returns-in-Compare-clause-cond : goal.test-returns-in-Compare-clause-cond
test-returns-in-Compare-clause-cond h c = grind (arith, common_steps)

pub test-returns-in-Like-clause-cond : goal.test-returns-in-Like-clause-cond
test-returns-in-Like-clause-cond h c = grind (arith, common_steps)

pub test-returns-in-Between-clause-cond : goal.test-returns-in-Between-clause-cond
test-returns-in-Between-clause-cond h c = grind (arith, common_steps)

pub test-returns-in-Quantified-clause-cond : goal.test-returns-in-Quantified-clause-cond
test-returns-in-Quantified-clause-cond h c = grind (arith, common_steps)

pub test-returns-in-AmongRows-clause-cond : goal.test-returns-in-AmongRows-clause-cond
test-returns-in-AmongRows-clause-cond h c = grind (arith, common_steps)

pub test-returns-in-Not-clause-cond : goal.test-returns-in-Not-clause-cond
test-returns-in-Not-clause-cond h c = grind (arith, common_steps)

pub test-returns-in-IsNull-clause-cond : goal.test-returns-in-IsNull-clause-cond
test-returns-in-IsNull-clause-cond h c = grind (arith, common_steps)

pub value-returns-in-NullIf-clause-term : goal.value-returns-in-NullIf-clause-term
value-returns-in-NullIf-clause-term h c = grind (arith, common_steps)

pub value-returns-in-Negative-clause-term : goal.value-returns-in-Negative-clause-term
value-returns-in-Negative-clause-term h c = grind (arith, common_steps)

pub arms-returns-clause-arms : goal.arms-returns-clause-arms
arms-returns-clause-arms t c = grind (arith, common_steps)

pub arms-returns-clause-slots : goal.arms-returns-clause-slots
arms-returns-clause-slots t c = grind (arith, common_steps)

pub choices-returns-clause-arms : goal.choices-returns-clause-arms
choices-returns-clause-arms t c = grind (arith, common_steps)

pub choices-returns-clause-slots : goal.choices-returns-clause-slots
choices-returns-clause-slots t c = grind (arith, common_steps)

pub outcome-returns-clause-term : goal.outcome-returns-clause-term
outcome-returns-clause-term t c = grind (arith, common_steps)

pub product-returns-clause-slots : goal.product-returns-clause-slots
product-returns-clause-slots t c = grind (arith, common_steps)

pub product-returns-clause-term : goal.product-returns-clause-term
product-returns-clause-term t c = grind (arith, common_steps)

pub sum-returns-clause-slots : goal.sum-returns-clause-slots
sum-returns-clause-slots t c = grind (arith, common_steps)

pub sum-returns-clause-term : goal.sum-returns-clause-term
sum-returns-clause-term t c = grind (arith, common_steps)

pub tests-returns-clause-conds : goal.tests-returns-clause-conds
tests-returns-clause-conds t c = grind (arith, common_steps)

pub tests-returns-clause-slots : goal.tests-returns-clause-slots
tests-returns-clause-slots t c = grind (arith, common_steps)

pub values-returns-clause-slots : goal.values-returns-clause-slots
values-returns-clause-slots t c = grind (arith, common_steps)

pub values-returns-clause-terms : goal.values-returns-clause-terms
values-returns-clause-terms t c = grind (arith, common_steps)

pub choices-loop-choice-smaller : goal.choices-loop-choice-smaller
choices-loop-choice-smaller t c = grind (arith, common_steps)

pub choices-offset_bounds-list-choice-index : goal.choices-offset_bounds-list-choice-index
choices-offset_bounds-list-choice-index t c = grind (arith, common_steps)

pub test-returns-in-Exists-clause-slots : goal.test-returns-in-Exists-clause-slots
test-returns-in-Exists-clause-slots t c = grind (arith, common_steps)

pub tests-loop-p-smaller : goal.tests-loop-p-smaller
tests-loop-p-smaller t c = grind (arith, common_steps)

pub product-offset_bounds-list-x-index : goal.product-offset_bounds-list-x-index
product-offset_bounds-list-x-index t c = grind (arith, common_steps)

pub sum-offset_bounds-list-x-index : goal.sum-offset_bounds-list-x-index
sum-offset_bounds-list-x-index t c = grind (arith, common_steps)

pub product-loop-x-smaller : goal.product-loop-x-smaller
product-loop-x-smaller t c = grind (arith, common_steps)

pub choices-loop-choice-init : goal.choices-loop-choice-init
choices-loop-choice-init t c = grind (arith, common_steps)

pub value-returns-in-Negative-clause-slots : goal.value-returns-in-Negative-clause-slots
value-returns-in-Negative-clause-slots t c = grind (arith, common_steps)

pub value-returns-in-Scalar-clause-term : goal.value-returns-in-Scalar-clause-term
value-returns-in-Scalar-clause-term t c = grind (arith, common_steps)

pub value-returns-in-Null-clause-slots : goal.value-returns-in-Null-clause-slots
value-returns-in-Null-clause-slots t c = grind (arith, common_steps)

pub value-returns-in-Scalar-clause-slots : goal.value-returns-in-Scalar-clause-slots
value-returns-in-Scalar-clause-slots t c = grind (arith, common_steps)

pub arms-loop-arm-init : goal.arms-loop-arm-init
arms-loop-arm-init t c = grind (arith, common_steps)

pub value-returns-in-Number-clause-slots : goal.value-returns-in-Number-clause-slots
value-returns-in-Number-clause-slots t c = grind (arith, common_steps)

pub value-returns-in-Null-clause-term : goal.value-returns-in-Null-clause-term
value-returns-in-Null-clause-term t c = grind (arith, common_steps)

pub test-returns-in-Not-clause-slots : goal.test-returns-in-Not-clause-slots
test-returns-in-Not-clause-slots t c = grind (arith, common_steps)

pub outcome-returns-clause-slots : goal.outcome-returns-clause-slots
outcome-returns-clause-slots t c = grind (arith, common_steps)

pub value-returns-in-Text-clause-slots : goal.value-returns-in-Text-clause-slots
value-returns-in-Text-clause-slots t c = grind (arith, common_steps)

pub arms-offset_bounds-list-arm-index : goal.arms-offset_bounds-list-arm-index
arms-offset_bounds-list-arm-index t c = grind (arith, common_steps)

pub arms-loop-arm-smaller : goal.arms-loop-arm-smaller
arms-loop-arm-smaller t c = grind (arith, common_steps)

pub value-returns-in-Column-clause-term : goal.value-returns-in-Column-clause-term
value-returns-in-Column-clause-term t c = grind (arith, common_steps)

pub sum-loop-x-smaller : goal.sum-loop-x-smaller
sum-loop-x-smaller t c = grind (arith, common_steps)

pub value-returns-in-CountAll-clause-slots : goal.value-returns-in-CountAll-clause-slots
value-returns-in-CountAll-clause-slots t c = grind (arith, common_steps)

pub values-offset_bounds-list-x-index : goal.values-offset_bounds-list-x-index
values-offset_bounds-list-x-index t c = grind (arith, common_steps)

pub value-returns-in-Column-clause-slots : goal.value-returns-in-Column-clause-slots
value-returns-in-Column-clause-slots t c = grind (arith, common_steps)

pub values-loop-x-init : goal.values-loop-x-init
values-loop-x-init t c = grind (arith, common_steps)

pub value-returns-in-CountAll-clause-term : goal.value-returns-in-CountAll-clause-term
value-returns-in-CountAll-clause-term t c = grind (arith, common_steps)

pub test-returns-in-IsNull-clause-slots : goal.test-returns-in-IsNull-clause-slots
test-returns-in-IsNull-clause-slots t c = grind (arith, common_steps)

pub value-returns-in-Number-clause-term : goal.value-returns-in-Number-clause-term
value-returns-in-Number-clause-term t c = grind (arith, common_steps)

pub tests-offset_bounds-list-p-index : goal.tests-offset_bounds-list-p-index
tests-offset_bounds-list-p-index t c = grind (arith, common_steps)

pub value-returns-in-Text-clause-term : goal.value-returns-in-Text-clause-term
value-returns-in-Text-clause-term t c = grind (arith, common_steps)

pub test-returns-in-Exists-clause-cond : goal.test-returns-in-Exists-clause-cond
test-returns-in-Exists-clause-cond t c = grind (arith, common_steps)

pub tests-loop-p-init : goal.tests-loop-p-init
tests-loop-p-init t c = grind (arith, common_steps)

pub values-loop-x-smaller : goal.values-loop-x-smaller
values-loop-x-smaller t c = grind (arith, common_steps)

pub value-returns-in-Searched-clause-slots : goal.value-returns-in-Searched-clause-slots
value-returns-in-Searched-clause-slots h c = grind (arith, shown.lists, after_append)

pub value-returns-in-Searched-clause-term : goal.value-returns-in-Searched-clause-term
value-returns-in-Searched-clause-term h c =
    rw (c.in-Searched.is, shown.arms_hidden c.in-Searched.list, searched_whole c.args.g.now.known.names.named.now (map shared_box c.args.g.now.known.shared.now) c.args.g.now.rows.now (frame_in c.args.g.now) (outer_in c.args.g.now) (slots_of c.args.s.now) (shown.arm_list c.in-Searched.list) (shown.value c.in-Searched.last.value), ← c.as_slice-in-Searched.ensures, ← c.deref-in-Searched.ensures)
    (made_of_two c.chosen.result c.arms-list.result c.outcome-last.result (λ (y : Box Gx). term y.value) (λ (v : Vec OpenArm). opened v.items) open_of (chosen c.args.g.now.rows.now) (λ (s : Slots). open_term (shown.value c.deref-in-Searched.result.now) (t.term (sources_in c.args.g.now) (frame_in c.args.g.now) (outer_in c.args.g.now) s (shown.value c.deref-in-Searched.result.now))) (slots_of c.arms-list.new.s) _ _ c.chosen.ensures c.arms-list.ensures.arms c.arms-list.ensures.slots c.outcome-last.ensures.term)

pub value-returns-in-Simple-clause-term : goal.value-returns-in-Simple-clause-term
value-returns-in-Simple-clause-term h c =
    rw (c.in-Simple.is, shown.choices_hidden c.in-Simple.list, simple_whole c.args.g.now.known.names.named.now (map shared_box c.args.g.now.known.shared.now) c.args.g.now.rows.now (frame_in c.args.g.now) (outer_in c.args.g.now) (slots_of c.args.s.now) (shown.value c.in-Simple.a.value) (shown.choice_list c.in-Simple.list) (shown.value c.in-Simple.last.value), ← c.as_slice-in-Simple.ensures, ← c.deref-in-Simple.ensures, ← c.deref-in-Simple-2.ensures)
    (made_of_two c.chosen-in-Simple.result c.choices-list.result c.outcome-last-in-Simple.result (λ (y : Box Gx). term y.value) (λ (v : Vec OpenArm). opened v.items) open_of (chosen c.args.g.now.rows.now) (λ (s : Slots). open_term (shown.value c.deref-in-Simple-2.result.now) (t.term (sources_in c.args.g.now) (frame_in c.args.g.now) (outer_in c.args.g.now) s (shown.value c.deref-in-Simple-2.result.now))) (slots_of c.choices-list.new.s) _ _ c.chosen-in-Simple.ensures
    (made_of_one c.choices-list.result c.value-a.result (λ (v : Vec OpenArm). opened v.items) (λ (x : Box Gx). term x.value) (λ (s : Slots) (x : Term). choices_in (sources_in c.args.g.now) (frame_in c.args.g.now) (outer_in c.args.g.now) s x (shown.choice_list c.as_slice-in-Simple.result.now)) (slots_of c.value-a.new.s) _ _ c.choices-list.ensures.arms c.value-a.ensures.term c.value-a.ensures.slots)
    (slots_left c.choices-list.result c.value-a.result _ c.choices-list.ensures.arms c.value-a.ensures.slots c.choices-list.ensures.slots (λ after_a next. next ∙ ap (w.after (w.choice_leaves (frame_in c.args.g.now) (shown.choice_list c.as_slice-in-Simple.result.now))) after_a))
    c.outcome-last-in-Simple.ensures.term)

pub value-returns-in-Sum-clause-term : goal.value-returns-in-Sum-clause-term
value-returns-in-Sum-clause-term h c =
    rw (c.in-Sum.is, shown.addends_hidden c.in-Sum.list, ← c.as_slice.ensures, ← c.deref.ensures)
    (made_of_one c.sum.result c.value-first.result (λ (y : Box Gx). term y.value) (λ (x : Box Gx). term x.value) (λ (s : Slots) (x : Term). t.summed (sources_in c.args.g.now) (frame_in c.args.g.now) (outer_in c.args.g.now) s x (shown.addend_list c.as_slice.result.now)) (slots_of c.value-first.new.s) _ _ c.sum.ensures.term c.value-first.ensures.term c.value-first.ensures.slots)

pub value-returns-in-Sum-clause-slots : goal.value-returns-in-Sum-clause-slots
value-returns-in-Sum-clause-slots h c =
    rw (c.in-Sum.is, shown.addends_hidden c.in-Sum.list, after_append (w.leaves (frame_in c.args.g.now) (shown.value c.in-Sum.a.value)) (w.addend_leaves (frame_in c.args.g.now) (shown.addend_list c.in-Sum.list)) (slots_of c.args.s.now), ← c.as_slice.ensures, ← c.deref.ensures)
    (slots_left c.sum.result c.value-first.result _ c.sum.ensures.term c.value-first.ensures.slots c.sum.ensures.slots (λ after_a next. next ∙ ap (w.after (w.addend_leaves (frame_in c.args.g.now) (shown.addend_list c.as_slice.result.now))) after_a))

pub value-returns-in-Product-clause-term : goal.value-returns-in-Product-clause-term
value-returns-in-Product-clause-term h c =
    rw (c.in-Product.is, shown.multipliers_hidden c.in-Product.list, ← c.as_slice-in-Product.ensures, ← c.deref-in-Product.ensures)
    (made_of_one c.product.result c.value-first-in-Product.result (λ (y : Box Gx). term y.value) (λ (x : Box Gx). term x.value) (λ (s : Slots) (x : Term). t.multiplied (sources_in c.args.g.now) (frame_in c.args.g.now) (outer_in c.args.g.now) s x (shown.multiplier_list c.as_slice-in-Product.result.now)) (slots_of c.value-first-in-Product.new.s) _ _ c.product.ensures.term c.value-first-in-Product.ensures.term c.value-first-in-Product.ensures.slots)

pub value-returns-in-Product-clause-slots : goal.value-returns-in-Product-clause-slots
value-returns-in-Product-clause-slots h c =
    rw (c.in-Product.is, shown.multipliers_hidden c.in-Product.list, after_append (w.leaves (frame_in c.args.g.now) (shown.value c.in-Product.a.value)) (w.multiplier_leaves (frame_in c.args.g.now) (shown.multiplier_list c.in-Product.list)) (slots_of c.args.s.now), ← c.as_slice-in-Product.ensures, ← c.deref-in-Product.ensures)
    (slots_left c.product.result c.value-first-in-Product.result _ c.product.ensures.term c.value-first-in-Product.ensures.slots c.product.ensures.slots (λ after_a next. next ∙ ap (w.after (w.multiplier_leaves (frame_in c.args.g.now) (shown.multiplier_list c.as_slice-in-Product.result.now))) after_a))

pub test-returns-in-Among-clause-cond : goal.test-returns-in-Among-clause-cond
test-returns-in-Among-clause-cond h c =
    rw (c.in-Among.is, shown.values_hidden c.in-Among.list, equals_whole (sources_in c.args.g.now) (frame_in c.args.g.now) (outer_in c.args.g.now) (w.after (w.leaves (frame_in c.args.g.now) (shown.value c.in-Among.a.value)) (slots_of c.args.s.now)) (t.term (sources_in c.args.g.now) (frame_in c.args.g.now) (outer_in c.args.g.now) (slots_of c.args.s.now) (shown.value c.in-Among.a.value)) (shown.value_list c.in-Among.list), ← c.as_slice-in-Among.ensures, ← c.deref-in-Among.ensures)
    (made_of_two c.equals_one.result c.value-a-in-Among.result c.listed-list.result (λ (y : Box Gc). cond y.value) (λ (x : Box Gx). term x.value) (λ (v : Vec Gx). terms v.items) (λ (x : Term) (xs : List Term). any_of (map (tree.compare tree.equal x) xs)) (λ (s : Slots). t.terms (sources_in c.args.g.now) (frame_in c.args.g.now) (outer_in c.args.g.now) s (shown.value_list c.as_slice-in-Among.result.now)) (slots_of c.value-a-in-Among.new.s) _ _ c.equals_one.ensures c.value-a-in-Among.ensures.term c.value-a-in-Among.ensures.slots c.listed-list.ensures.terms)

pub test-returns-in-Among-clause-slots : goal.test-returns-in-Among-clause-slots
test-returns-in-Among-clause-slots h c =
    rw (c.in-Among.is, shown.values_hidden c.in-Among.list, after_append (w.leaves (frame_in c.args.g.now) (shown.value c.in-Among.a.value)) (w.list_leaves (frame_in c.args.g.now) (shown.value_list c.in-Among.list)) (slots_of c.args.s.now), ← c.as_slice-in-Among.ensures, ← c.deref-in-Among.ensures)
    (IfOk-weaker c.equals_one.result _ _ (λ y h. is_there c.value-a-in-Among.result _ _ _ _ h c.value-a-in-Among.ensures.term c.value-a-in-Among.ensures.slots (λ a h _ after_a. is_there c.listed-list.result _ _ _ _ h c.listed-list.ensures.terms c.listed-list.ensures.slots (λ v _ _ next. next ∙ ap (w.after (w.list_leaves (frame_in c.args.g.now) (shown.value_list c.as_slice-in-Among.result.now))) after_a))) c.equals_one.ensures)

pub value-returns-in-Coalesce-clause-term : goal.value-returns-in-Coalesce-clause-term
value-returns-in-Coalesce-clause-term h c =
    rw (c.in-Coalesce.is, shown.values_hidden c.in-Coalesce.list, coalesced_whole (sources_in c.args.g.now) (frame_in c.args.g.now) (outer_in c.args.g.now) (w.after (w.leaves (frame_in c.args.g.now) (shown.value c.in-Coalesce.a.value)) (slots_of c.args.s.now)) (t.term (sources_in c.args.g.now) (frame_in c.args.g.now) (outer_in c.args.g.now) (slots_of c.args.s.now) (shown.value c.in-Coalesce.a.value)) (shown.value_list c.in-Coalesce.list), ← c.as_slice-in-Coalesce.ensures, ← c.deref-in-Coalesce.ensures)
    (made_of_two c.coalesced.result c.value-a-in-Coalesce.result c.listed-others.result (λ (y : Box Gx). term y.value) (λ (x : Box Gx). term x.value) (λ (v : Vec Gx). terms v.items) (λ (x : Term) (xs : List Term). coalesced (x ∷ xs)) (λ (s : Slots). t.terms (sources_in c.args.g.now) (frame_in c.args.g.now) (outer_in c.args.g.now) s (shown.value_list c.as_slice-in-Coalesce.result.now)) (slots_of c.value-a-in-Coalesce.new.s) _ _ c.coalesced.ensures c.value-a-in-Coalesce.ensures.term c.value-a-in-Coalesce.ensures.slots c.listed-others.ensures.terms)

pub value-returns-in-Coalesce-clause-slots : goal.value-returns-in-Coalesce-clause-slots
value-returns-in-Coalesce-clause-slots h c =
    rw (c.in-Coalesce.is, shown.values_hidden c.in-Coalesce.list, after_append (w.leaves (frame_in c.args.g.now) (shown.value c.in-Coalesce.a.value)) (w.list_leaves (frame_in c.args.g.now) (shown.value_list c.in-Coalesce.list)) (slots_of c.args.s.now), ← c.as_slice-in-Coalesce.ensures, ← c.deref-in-Coalesce.ensures)
    (IfOk-weaker c.coalesced.result _ _ (λ y h. is_there c.value-a-in-Coalesce.result _ _ _ _ h c.value-a-in-Coalesce.ensures.term c.value-a-in-Coalesce.ensures.slots (λ a h _ after_a. is_there c.listed-others.result _ _ _ _ h c.listed-others.ensures.terms c.listed-others.ensures.slots (λ v _ _ next. next ∙ ap (w.after (w.list_leaves (frame_in c.args.g.now) (shown.value_list c.as_slice-in-Coalesce.result.now))) after_a))) c.coalesced.ensures)

pub value-returns-in-Simple-clause-slots : goal.value-returns-in-Simple-clause-slots
value-returns-in-Simple-clause-slots h c =
    rw (c.in-Simple.is, shown.choices_hidden c.in-Simple.list, after_append (w.leaves (frame_in c.args.g.now) (shown.value c.in-Simple.a.value)) (w.choice_leaves (frame_in c.args.g.now) (shown.choice_list c.in-Simple.list) ++ w.leaves (frame_in c.args.g.now) (shown.value c.in-Simple.last.value)) (slots_of c.args.s.now), after_append (w.choice_leaves (frame_in c.args.g.now) (shown.choice_list c.in-Simple.list)) (w.leaves (frame_in c.args.g.now) (shown.value c.in-Simple.last.value)) (w.after (w.leaves (frame_in c.args.g.now) (shown.value c.in-Simple.a.value)) (slots_of c.args.s.now)), ← c.as_slice-in-Simple.ensures, ← c.deref-in-Simple.ensures, ← c.deref-in-Simple-2.ensures)
    (IfOk-weaker c.chosen-in-Simple.result _ _ (λ y h. is_there c.choices-list.result _ _ _ _ h c.choices-list.ensures.arms c.choices-list.ensures.slots (λ v h arms mid. is_there c.value-a.result _ _ _ _ arms c.value-a.ensures.slots c.value-a.ensures.slots (λ a _ _ after_a. is_there c.outcome-last-in-Simple.result _ _ _ _ h c.outcome-last-in-Simple.ensures.slots c.outcome-last-in-Simple.ensures.slots (λ z _ _ end.
    end ∙ ap (w.after (w.leaves (frame_in c.args.g.now) (shown.value c.deref-in-Simple-2.result.now))) (mid ∙ ap (w.after (w.choice_leaves (frame_in c.args.g.now) (shown.choice_list c.as_slice-in-Simple.result.now))) after_a))))) c.chosen-in-Simple.ensures)

pub listed-returns-clause-terms : goal.listed-returns-clause-terms
listed-returns-clause-terms t c = grind (arith, common_steps)

pub listed-returns-clause-slots : goal.listed-returns-clause-slots
listed-returns-clause-slots t c = grind (arith, common_steps)
