use Rattle.std.proofs.Common.{◌≡◌, ◌++◌, IfOk, IsOkAnd, OnOk, drop}
use Rattle.sql_meaning.specs.ResolvedShown as shown
use Rattle.qgm_terms.specs.Shown.{conds, term, terms}
use Rattle.qgm_translation.specs.Leaves as w
use Rattle.qgm_translation.specs.Terms as t
use Rattle.qgm_build_terms.specs.Opened.{opened}
use Rattle.qgm_build_terms.specs.Parts.{arms_in, choices_in, conds_in}
use Rattle.qgm_build_terms.specs.Setting.{frame_in, outer_in, sources_in}
use Rattle.qgm_build_terms.specs.Written.{slots_of}
use Rattle.qgm_build_terms.proofs.terms.+terms.Given as goal

abbrev pub invariant-sum-loop-x : goal.invariant-sum-loop-x
invariant-sum-loop-x l = record {
  term : IfOk l.total (λ y. IsOkAnd l.fn.first (λ a. t.summed (sources_in l.g) (frame_in l.g) (outer_in l.g) (slots_of l.s) (term y.value) (shown.addend_list (drop l.x-index l.list)) ≡ t.summed (sources_in l.g) (frame_in l.g) (outer_in l.g) (slots_of l.fn.s) (term a.value) (shown.addend_list l.list)));
  slots : OnOk l.total (w.after (w.addend_leaves (frame_in l.g) (shown.addend_list (drop l.x-index l.list))) (slots_of l.s) ≡ w.after (w.addend_leaves (frame_in l.g) (shown.addend_list l.list)) (slots_of l.fn.s));
}

abbrev pub invariant-product-loop-x : goal.invariant-product-loop-x
invariant-product-loop-x l = record {
  term : IfOk l.total (λ y. IsOkAnd l.fn.first (λ a. t.multiplied (sources_in l.g) (frame_in l.g) (outer_in l.g) (slots_of l.s) (term y.value) (shown.multiplier_list (drop l.x-index l.list)) ≡ t.multiplied (sources_in l.g) (frame_in l.g) (outer_in l.g) (slots_of l.fn.s) (term a.value) (shown.multiplier_list l.list)));
  slots : OnOk l.total (w.after (w.multiplier_leaves (frame_in l.g) (shown.multiplier_list (drop l.x-index l.list))) (slots_of l.s) ≡ w.after (w.multiplier_leaves (frame_in l.g) (shown.multiplier_list l.list)) (slots_of l.fn.s));
}

abbrev pub invariant-values-loop-x : goal.invariant-values-loop-x
invariant-values-loop-x l = record {
  parts : terms l.out.items ++ t.terms (sources_in l.g) (frame_in l.g) (outer_in l.g) (slots_of l.s) (shown.value_list (drop l.x-index l.list)) ≡ terms l.fn.out.items ++ t.terms (sources_in l.g) (frame_in l.g) (outer_in l.g) (slots_of l.fn.s) (shown.value_list l.list);
  slots : w.after (w.list_leaves (frame_in l.g) (shown.value_list (drop l.x-index l.list))) (slots_of l.s) ≡ w.after (w.list_leaves (frame_in l.g) (shown.value_list l.list)) (slots_of l.fn.s);
}

abbrev pub invariant-arms-loop-arm : goal.invariant-arms-loop-arm
invariant-arms-loop-arm l = record {
  parts : opened l.out.items ++ arms_in (sources_in l.g) (frame_in l.g) (outer_in l.g) (slots_of l.s) (shown.arm_list (drop l.arm-index l.list)) ≡ arms_in (sources_in l.g) (frame_in l.g) (outer_in l.g) (slots_of l.fn.s) (shown.arm_list l.list);
  slots : w.after (w.arm_leaves (frame_in l.g) (shown.arm_list (drop l.arm-index l.list))) (slots_of l.s) ≡ w.after (w.arm_leaves (frame_in l.g) (shown.arm_list l.list)) (slots_of l.fn.s);
}

abbrev pub invariant-choices-loop-choice : goal.invariant-choices-loop-choice
invariant-choices-loop-choice l = record {
  parts : opened l.out.items ++ choices_in (sources_in l.g) (frame_in l.g) (outer_in l.g) (slots_of l.s) (term l.x.value) (shown.choice_list (drop l.choice-index l.list)) ≡ choices_in (sources_in l.g) (frame_in l.g) (outer_in l.g) (slots_of l.fn.s) (term l.x.value) (shown.choice_list l.list);
  slots : w.after (w.choice_leaves (frame_in l.g) (shown.choice_list (drop l.choice-index l.list))) (slots_of l.s) ≡ w.after (w.choice_leaves (frame_in l.g) (shown.choice_list l.list)) (slots_of l.fn.s);
}

abbrev pub invariant-tests-loop-p : goal.invariant-tests-loop-p
invariant-tests-loop-p l = record {
  parts : conds l.out.items ++ conds_in (sources_in l.g) (frame_in l.g) (outer_in l.g) (slots_of l.s) (shown.test_list (drop l.p-index l.list)) ≡ conds_in (sources_in l.g) (frame_in l.g) (outer_in l.g) (slots_of l.fn.s) (shown.test_list l.list);
  slots : w.after (w.tests_leaves (frame_in l.g) (shown.test_list (drop l.p-index l.list))) (slots_of l.s) ≡ w.after (w.tests_leaves (frame_in l.g) (shown.test_list l.list)) (slots_of l.fn.s);
}
