use Rattle.std.proofs.Common.{◌++◌, drop}
use Rattle.sql_meaning.specs.ResolvedShown as shown
use Rattle.qgm_build.specs.Laying.{addend_step, all_on_step, arm_step, choice_step, froms_step, list_step, multiplier_step, tests_step}
use Rattle.qgm_build_terms.specs.Making.{Leads}
use Rattle.qgm_build_terms.specs.SoFar.{so_far}
use Rattle.qgm_build.proofs.lay.+lay.Given as goal

abbrev pub invariant-addend_subs-loop-x : goal.invariant-addend_subs-loop-x
invariant-addend_subs-loop-x l =
    Leads (addend_step l.h (shown.addend_list (drop l.x-index l.list))) (so_far l.st) l.out (addend_step l.h (shown.addend_list l.list) (so_far l.fn.st)).boxes (l.fn.out ++ (addend_step l.h (shown.addend_list l.list) (so_far l.fn.st)).quants)

abbrev pub invariant-multiplier_subs-loop-x : goal.invariant-multiplier_subs-loop-x
invariant-multiplier_subs-loop-x l =
    Leads (multiplier_step l.h (shown.multiplier_list (drop l.x-index l.list))) (so_far l.st) l.out (multiplier_step l.h (shown.multiplier_list l.list) (so_far l.fn.st)).boxes (l.fn.out ++ (multiplier_step l.h (shown.multiplier_list l.list) (so_far l.fn.st)).quants)

abbrev pub invariant-list_subs-loop-x : goal.invariant-list_subs-loop-x
invariant-list_subs-loop-x l =
    Leads (list_step l.h (shown.value_list (drop l.x-index l.list))) (so_far l.st) l.out (list_step l.h (shown.value_list l.list) (so_far l.fn.st)).boxes (l.fn.out ++ (list_step l.h (shown.value_list l.list) (so_far l.fn.st)).quants)

abbrev pub invariant-arm_subs-loop-x : goal.invariant-arm_subs-loop-x
invariant-arm_subs-loop-x l =
    Leads (arm_step l.h (shown.arm_list (drop l.x-index l.list))) (so_far l.st) l.out (arm_step l.h (shown.arm_list l.list) (so_far l.fn.st)).boxes (l.fn.out ++ (arm_step l.h (shown.arm_list l.list) (so_far l.fn.st)).quants)

abbrev pub invariant-choice_subs-loop-x : goal.invariant-choice_subs-loop-x
invariant-choice_subs-loop-x l =
    Leads (choice_step l.h (shown.choice_list (drop l.x-index l.list))) (so_far l.st) l.out (choice_step l.h (shown.choice_list l.list) (so_far l.fn.st)).boxes (l.fn.out ++ (choice_step l.h (shown.choice_list l.list) (so_far l.fn.st)).quants)

abbrev pub invariant-tests_subs-loop-p : goal.invariant-tests_subs-loop-p
invariant-tests_subs-loop-p l =
    Leads (tests_step l.h (shown.test_list (drop l.p-index l.list))) (so_far l.st) l.out (tests_step l.h (shown.test_list l.list) (so_far l.fn.st)).boxes (l.fn.out ++ (tests_step l.h (shown.test_list l.list) (so_far l.fn.st)).quants)

abbrev pub invariant-froms-loop-x : goal.invariant-froms-loop-x
invariant-froms-loop-x l =
    Leads (froms_step l.g (shown.from_list (drop l.x-index l.list))) (so_far l.st) l.out (froms_step l.g (shown.from_list l.list) (so_far l.fn.st)).boxes (froms_step l.g (shown.from_list l.list) (so_far l.fn.st)).quants

abbrev pub invariant-all_on_subs-loop-x : goal.invariant-all_on_subs-loop-x
invariant-all_on_subs-loop-x l =
    Leads (all_on_step l.g (shown.from_list (drop l.x-index l.list)) l.os.rest.now) (so_far l.st) l.out
    (all_on_step l.g (shown.from_list l.list) l.fn.os.rest.now (so_far l.fn.st)).boxes (l.fn.out ++ (all_on_step l.g (shown.from_list l.list) l.fn.os.rest.now (so_far l.fn.st)).quants)
