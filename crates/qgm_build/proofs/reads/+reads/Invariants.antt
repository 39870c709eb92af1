use Rattle.std.proofs.Common.{◌≡◌, drop}
use Rattle.sql_meaning.specs.ResolvedShown as shown
use Rattle.qgm_translation.specs.Reads as spec
use Rattle.qgm_build.proofs.reads.+reads.Given as goal

abbrev pub invariant-addends_read-loop-x : goal.invariant-addends_read-loop-x
invariant-addends_read-loop-x l = spec.addends_read (shown.addend_list (drop l.x-index l.list)) l.name ≡ spec.addends_read (shown.addend_list l.list) l.name

abbrev pub invariant-multipliers_read-loop-x : goal.invariant-multipliers_read-loop-x
invariant-multipliers_read-loop-x l = spec.multipliers_read (shown.multiplier_list (drop l.x-index l.list)) l.name ≡ spec.multipliers_read (shown.multiplier_list l.list) l.name

abbrev pub invariant-values_read-loop-x : goal.invariant-values_read-loop-x
invariant-values_read-loop-x l = spec.values_read (shown.value_list (drop l.x-index l.list)) l.name ≡ spec.values_read (shown.value_list l.list) l.name

abbrev pub invariant-arms_read-loop-arm : goal.invariant-arms_read-loop-arm
invariant-arms_read-loop-arm l = spec.arms_read (shown.arm_list (drop l.arm-index l.list)) l.name ≡ spec.arms_read (shown.arm_list l.list) l.name

abbrev pub invariant-choices_read-loop-choice : goal.invariant-choices_read-loop-choice
invariant-choices_read-loop-choice l = spec.choices_read (shown.choice_list (drop l.choice-index l.list)) l.name ≡ spec.choices_read (shown.choice_list l.list) l.name

abbrev pub invariant-tests_read-loop-p : goal.invariant-tests_read-loop-p
invariant-tests_read-loop-p l = spec.tests_read (shown.test_list (drop l.p-index l.list)) l.name ≡ spec.tests_read (shown.test_list l.list) l.name

abbrev pub invariant-froms_read-loop-x : goal.invariant-froms_read-loop-x
invariant-froms_read-loop-x l = spec.froms_read (shown.from_list (drop l.x-index l.list)) l.name ≡ spec.froms_read (shown.from_list l.list) l.name
