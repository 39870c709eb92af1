use Rattle.std.proofs.Common.{arith}
use Rattle.std.proofs.lemmas.Grind.{common_steps}
use Rattle.qgm_term_size.proofs.Sizes as sizes
use Rattle.qgm_terms.proofs.Lists as lists
use Rattle.qgm_terms.specs.Shown as shown
use Rattle.qgm_term_size.proofs.size.+size.Goals as goal

pub add-returns-in-Chain : goal.add-returns-in-Chain
add-returns-in-Chain t c = rw (c.in-Chain.is, lists.links_hidden c.in-Chain.list, sizes.linked_size (shown.term c.in-Chain.a.value) (shown.links c.in-Chain.list.items)) (grind (arith, common_steps))

pub add-returns-in-Case : goal.add-returns-in-Case
add-returns-in-Case t c = rw (c.in-Case.is, lists.choices_hidden c.in-Case.list, sizes.case_size (shown.choices c.in-Case.list.items) (shown.term c.in-Case.a.value)) (grind (arith, common_steps))

pub add_cond-returns-in-All : goal.add_cond-returns-in-All
add_cond-returns-in-All t c = rw (c.in-All.is, lists.conds_hidden c.in-All.list, sizes.anded_size (shown.cond c.in-All.a.value) (shown.conds c.in-All.list.items)) (grind (arith, common_steps))

pub add_cond-returns-in-Any : goal.add_cond-returns-in-Any
add_cond-returns-in-Any t c = rw (c.in-Any.is, lists.conds_hidden c.in-Any.list, sizes.ored_size (shown.cond c.in-Any.a.value) (shown.conds c.in-Any.list.items)) (grind (arith, common_steps))
