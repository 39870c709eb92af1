use Rattle.std.proofs.Common.{arith}
use Rattle.std.proofs.lemmas.Grind.{common_steps}
use Rattle.qgm_term_size.proofs.Chains as chains
use Rattle.qgm_terms.proofs.Lists as lists
use Rattle.qgm_terms.specs.Shown as shown
use Rattle.qgm_term_size.proofs.levels.+levels.Goals as goal

pub cell_levels-returns-in-Chain : goal.cell_levels-returns-in-Chain
cell_levels-returns-in-Chain t c = rw (c.in-Chain.is, lists.links_hidden c.in-Chain.list, chains.linked_levels (shown.term c.in-Chain.a.value) (shown.links c.in-Chain.list.items)) (grind (arith, common_steps))

pub cell_levels-returns-in-Case : goal.cell_levels-returns-in-Case
cell_levels-returns-in-Case t c = rw (c.in-Case.is, lists.choices_hidden c.in-Case.list, chains.case_levels (shown.choices c.in-Case.list.items) (shown.term c.in-Case.a.value)) (grind (arith, common_steps))

pub cond_levels-returns-in-All : goal.cond_levels-returns-in-All
cond_levels-returns-in-All t c = rw (c.in-All.is, lists.conds_hidden c.in-All.list, chains.anded_levels (shown.cond c.in-All.a.value) (shown.conds c.in-All.list.items)) (grind (arith, common_steps))

pub cond_levels-returns-in-Any : goal.cond_levels-returns-in-Any
cond_levels-returns-in-Any t c = rw (c.in-Any.is, lists.conds_hidden c.in-Any.list, chains.ored_levels (shown.cond c.in-Any.a.value) (shown.conds c.in-Any.list.items)) (grind (arith, common_steps))
