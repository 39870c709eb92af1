use Rattle.std.proofs.Common.{arith}
use Rattle.std.proofs.lemmas.Grind.{common_steps}
use Rattle.qgm_terms.proofs.Listed as listed
use Rattle.qgm_terms.proofs.Lists as lists
use Rattle.qgm_terms.specs.Named.{columns}
use Rattle.qgm_terms.specs.Shown as shown
use Rattle.qgm_term_search.proofs.columns.+columns.Goals as goal

pub add_columns-returns-in_ok-add_columns-in-Chain : goal.add_columns-returns-in_ok-add_columns-in-Chain
add_columns-returns-in_ok-add_columns-in-Chain t c =
    rw (c.in-Chain.is, lists.links_hidden c.in-Chain.list, listed.listed_linked columns (shown.term c.in-Chain.a.value) (shown.links c.in-Chain.list.items)) (grind (arith, common_steps))

pub add_columns-returns-in_ok-add_columns_of_arms-in-Case : goal.add_columns-returns-in_ok-add_columns_of_arms-in-Case
add_columns-returns-in_ok-add_columns_of_arms-in-Case t c =
    rw (c.in-Case.is, lists.choices_hidden c.in-Case.list, listed.listed_case columns (shown.choices c.in-Case.list.items) (shown.term c.in-Case.a.value)) (grind (arith, common_steps))

pub add_columns_of_cond-returns-in_ok-add_columns_of_cond-in-All : goal.add_columns_of_cond-returns-in_ok-add_columns_of_cond-in-All
add_columns_of_cond-returns-in_ok-add_columns_of_cond-in-All t c =
    rw (c.in-All.is, lists.conds_hidden c.in-All.list, listed.listed_anded columns (shown.cond c.in-All.a.value) (shown.conds c.in-All.list.items)) (grind (arith, common_steps))

pub add_columns_of_cond-returns-in_ok-add_columns_of_cond-in-Any : goal.add_columns_of_cond-returns-in_ok-add_columns_of_cond-in-Any
add_columns_of_cond-returns-in_ok-add_columns_of_cond-in-Any t c =
    rw (c.in-Any.is, lists.conds_hidden c.in-Any.list, listed.listed_ored columns (shown.cond c.in-Any.a.value) (shown.conds c.in-Any.list.items)) (grind (arith, common_steps))

pub add_columns-returns-in-Neg : goal.add_columns-returns-in-Neg
add_columns-returns-in-Neg t c = grind (arith, common_steps)

pub add_columns_of_conds-returns : goal.add_columns_of_conds-returns
add_columns_of_conds-returns t c = grind (arith, common_steps)

pub add_columns_of_arms-loop-arm-preserved : goal.add_columns_of_arms-loop-arm-preserved
add_columns_of_arms-loop-arm-preserved t c = grind (arith, common_steps)

pub add_columns_of_cond-returns-in-Some : goal.add_columns_of_cond-returns-in-Some
add_columns_of_cond-returns-in-Some t c = grind (arith, common_steps)

pub add_columns_of_cond-returns-in_ok-add_columns-in-Compare : goal.add_columns_of_cond-returns-in_ok-add_columns-in-Compare
add_columns_of_cond-returns-in_ok-add_columns-in-Compare t c = grind (arith, common_steps)

pub add_columns_of_conds-loop-p-preserved : goal.add_columns_of_conds-loop-p-preserved
add_columns_of_conds-loop-p-preserved t c = grind (arith, common_steps)

pub add_columns_of_links-loop-link-preserved : goal.add_columns_of_links-loop-link-preserved
add_columns_of_links-loop-link-preserved t c = grind (arith, common_steps)

pub add_columns_of_links-returns : goal.add_columns_of_links-returns
add_columns_of_links-returns t c = grind (arith, common_steps)

pub add_columns_of_arms-returns : goal.add_columns_of_arms-returns
add_columns_of_arms-returns t c = grind (arith, common_steps)
