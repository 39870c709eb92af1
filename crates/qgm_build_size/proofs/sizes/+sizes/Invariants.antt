use Rattle.std.proofs.Common.{◌≡◌, true, drop}
use Rattle.sql_meaning.specs.ResolvedShown as shown
use Rattle.qgm_build_size.specs.Sizes as spec
use Rattle.qgm_build_size.specs.Sizes.{more, nothing, plus}
use Rattle.qgm_build_size.proofs.sizes.+sizes.Given as goal

abbrev pub invariant-addends-loop-x : goal.invariant-addends-loop-x
invariant-addends-loop-x l = plus l.total (spec.addends_size (shown.addend_list (drop l.x-index l.list))) ≡ spec.addends_size (shown.addend_list l.list)

abbrev pub invariant-multipliers-loop-x : goal.invariant-multipliers-loop-x
invariant-multipliers-loop-x l = plus l.total (spec.multipliers_size (shown.multiplier_list (drop l.x-index l.list))) ≡ spec.multipliers_size (shown.multiplier_list l.list)

abbrev pub invariant-values-loop-x : goal.invariant-values-loop-x
invariant-values-loop-x l = plus l.total (spec.values_size (shown.value_list (drop l.x-index l.list))) ≡ spec.values_size (shown.value_list l.list)

abbrev pub invariant-equals-loop-x : goal.invariant-equals-loop-x
invariant-equals-loop-x l = spec.among_size l.n l.first l.total (shown.value_list (drop l.x-index l.list)) ≡ spec.among_size l.n true (more 2 nothing) (shown.value_list l.list)

abbrev pub invariant-arms-loop-x : goal.invariant-arms-loop-x
invariant-arms-loop-x l = plus l.total (spec.arms_size (shown.arm_list (drop l.x-index l.list))) ≡ spec.arms_size (shown.arm_list l.list)

abbrev pub invariant-choices-loop-x : goal.invariant-choices-loop-x
invariant-choices-loop-x l = plus l.total (spec.choices_size l.n (shown.choice_list (drop l.x-index l.list))) ≡ spec.choices_size l.n (shown.choice_list l.list)

abbrev pub invariant-coalesced-loop-x : goal.invariant-coalesced-loop-x
invariant-coalesced-loop-x l = plus l.total (spec.coalesced_size l.last (shown.value_list (drop l.x-index l.list))) ≡ spec.coalesced_size l.fn.first (shown.value_list l.list)

abbrev pub invariant-tests-loop-p : goal.invariant-tests-loop-p
invariant-tests-loop-p l = spec.tests_size l.first l.total (shown.test_list (drop l.p-index l.list)) ≡ spec.tests_size true (more l.n nothing) (shown.test_list l.list)

abbrev pub invariant-froms-loop-x : goal.invariant-froms-loop-x
invariant-froms-loop-x l = plus l.total (spec.froms_size (shown.from_list (drop l.x-index l.list))) ≡ spec.froms_size (shown.from_list l.list)
