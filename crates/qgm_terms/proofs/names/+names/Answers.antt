use Rattle.std.proofs.Common.{arith}
use Rattle.std.proofs.lemmas.Grind.{common_steps}
use Rattle.qgm_terms.proofs.Listed as listed
use Rattle.qgm_terms.proofs.Lists as lists
use Rattle.qgm_terms.specs.Named.{names}
use Rattle.qgm_terms.specs.Shown as shown
use Rattle.qgm_terms.proofs.names.+names.Goals as goal

pub add_names-returns-in_ok-add_names-in-Chain : goal.add_names-returns-in_ok-add_names-in-Chain
add_names-returns-in_ok-add_names-in-Chain t c =
    rw (c.in-Chain.is, lists.links_hidden c.in-Chain.list, listed.listed_linked names (shown.term c.in-Chain.a.value) (shown.links c.in-Chain.list.items)) (grind (arith, common_steps))

pub add_names-returns-in_ok-add_names_of_arms-in-Case : goal.add_names-returns-in_ok-add_names_of_arms-in-Case
add_names-returns-in_ok-add_names_of_arms-in-Case t c =
    rw (c.in-Case.is, lists.choices_hidden c.in-Case.list, listed.listed_case names (shown.choices c.in-Case.list.items) (shown.term c.in-Case.a.value)) (grind (arith, common_steps))

pub add_names_of_cond-returns-in_ok-add_names_of_cond-in-All : goal.add_names_of_cond-returns-in_ok-add_names_of_cond-in-All
add_names_of_cond-returns-in_ok-add_names_of_cond-in-All t c =
    rw (c.in-All.is, lists.conds_hidden c.in-All.list, listed.listed_anded names (shown.cond c.in-All.a.value) (shown.conds c.in-All.list.items)) (grind (arith, common_steps))

pub add_names_of_cond-returns-in_ok-add_names_of_cond-in-Any : goal.add_names_of_cond-returns-in_ok-add_names_of_cond-in-Any
add_names_of_cond-returns-in_ok-add_names_of_cond-in-Any t c =
    rw (c.in-Any.is, lists.conds_hidden c.in-Any.list, listed.listed_ored names (shown.cond c.in-Any.a.value) (shown.conds c.in-Any.list.items)) (grind (arith, common_steps))

pub add_names-returns-in-Neg : goal.add_names-returns-in-Neg
add_names-returns-in-Neg t c = grind (arith, common_steps)

pub add_names_of_links-returns : goal.add_names_of_links-returns
add_names_of_links-returns t c = grind (arith, common_steps)

pub add_names_of_arms-returns : goal.add_names_of_arms-returns
add_names_of_arms-returns t c = grind (arith, common_steps)

pub add_names-returns-in_ok-push-in-Col : goal.add_names-returns-in_ok-push-in-Col
add_names-returns-in_ok-push-in-Col t c = grind (arith, common_steps)

pub add_names_of_cond-returns-in_ok-add_names-in-Compare : goal.add_names_of_cond-returns-in_ok-add_names-in-Compare
add_names_of_cond-returns-in_ok-add_names-in-Compare t c = grind (arith, common_steps)

pub add_names_of_links-loop-link-preserved : goal.add_names_of_links-loop-link-preserved
add_names_of_links-loop-link-preserved t c = grind (arith, common_steps)

pub add_names_of_arms-loop-arm-preserved : goal.add_names_of_arms-loop-arm-preserved
add_names_of_arms-loop-arm-preserved t c = grind (arith, common_steps)

pub add_names_of_cond-returns-in_ok-push-in-Some : goal.add_names_of_cond-returns-in_ok-push-in-Some
add_names_of_cond-returns-in_ok-push-in-Some t c = grind (arith, common_steps)

pub add_names_of_conds-loop-p-preserved : goal.add_names_of_conds-loop-p-preserved
add_names_of_conds-loop-p-preserved t c = grind (arith, common_steps)

pub add_names_of_conds-returns : goal.add_names_of_conds-returns
add_names_of_conds-returns t c = grind (arith, common_steps)
