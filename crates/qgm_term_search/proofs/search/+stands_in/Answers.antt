use Rattle.std.proofs.Common.{arith}
use Rattle.std.proofs.lemmas.Grind.{common_steps}
use Rattle.qgm_terms.proofs.Found as found
use Rattle.qgm_terms.proofs.Lists as lists
use Rattle.qgm_terms.specs.Shown as shown
use Rattle.qgm_terms.specs.Wanted.{wanted}
use Rattle.qgm_term_search.proofs.search.+stands_in.Goals as goal

pub stands_in-returns-in-Chain : goal.stands_in-returns-in-Chain
stands_in-returns-in-Chain t c =
    rw (c.in-Chain.is, lists.links_hidden c.in-Chain.list, found.any_linked (wanted c.args.sought) (shown.term c.in-Chain.a.value) (shown.links c.in-Chain.list.items)) (grind (arith, common_steps))

pub stands_in-returns-in-Case : goal.stands_in-returns-in-Case
stands_in-returns-in-Case t c =
    rw (c.in-Case.is, lists.choices_hidden c.in-Case.list, found.any_case (wanted c.args.sought) (shown.choices c.in-Case.list.items) (shown.term c.in-Case.a.value)) (grind (arith, common_steps))

pub stands_in_cond-returns-in-All : goal.stands_in_cond-returns-in-All
stands_in_cond-returns-in-All t c =
    rw (c.in-All.is, lists.conds_hidden c.in-All.list, found.any_anded (wanted c.args.sought) (shown.cond c.in-All.a.value) (shown.conds c.in-All.list.items)) (grind (arith, common_steps))

pub stands_in_cond-returns-in-Any : goal.stands_in_cond-returns-in-Any
stands_in_cond-returns-in-Any t c =
    rw (c.in-Any.is, lists.conds_hidden c.in-Any.list, found.any_ored (wanted c.args.sought) (shown.cond c.in-Any.a.value) (shown.conds c.in-Any.list.items)) (grind (arith, common_steps))

pub stands_in_links-returns-then-stands_in : goal.stands_in_links-returns-then-stands_in
stands_in_links-returns-then-stands_in t c = grind (arith, common_steps)

pub stands_in_links-returns : goal.stands_in_links-returns
stands_in_links-returns t c = grind (arith, common_steps)

pub stands_in_cond-returns-in-Some : goal.stands_in_cond-returns-in-Some
stands_in_cond-returns-in-Some t c = grind (arith, common_steps)

pub stands_in_arms-returns : goal.stands_in_arms-returns
stands_in_arms-returns t c = grind (arith, common_steps)

pub stands_in_conds-returns-then-stands_in_cond : goal.stands_in_conds-returns-then-stands_in_cond
stands_in_conds-returns-then-stands_in_cond t c = grind (arith, common_steps)

pub stands_in_conds-returns : goal.stands_in_conds-returns
stands_in_conds-returns t c = grind (arith, common_steps)

pub stands_in_links-loop-link-preserved : goal.stands_in_links-loop-link-preserved
stands_in_links-loop-link-preserved t c = grind (arith, common_steps)

pub stands_in-returns-in-Fold : goal.stands_in-returns-in-Fold
stands_in-returns-in-Fold t c = grind (arith, common_steps)

pub stands_in_arms-loop-arm-preserved : goal.stands_in_arms-loop-arm-preserved
stands_in_arms-loop-arm-preserved t c = grind (arith, common_steps)

pub stands_in_arms-returns-then-stands_in_cond : goal.stands_in_arms-returns-then-stands_in_cond
stands_in_arms-returns-then-stands_in_cond t c = grind (arith, common_steps)

pub stands_in_conds-loop-c-preserved : goal.stands_in_conds-loop-c-preserved
stands_in_conds-loop-c-preserved t c = grind (arith, common_steps)
