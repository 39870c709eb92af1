use Rattle.std.proofs.Common.{arith}
use Rattle.std.proofs.lemmas.Grind.{common_steps}
use Rattle.qgm_term_size.proofs.Chains as chains
use Rattle.qgm_terms.proofs.Lists as lists
use Rattle.qgm_terms.specs.Shown as shown
use Rattle.qgm_term_size.proofs.levels.+is_and.Goals as goal

pub returns-in-All : goal.returns-in-All
returns-in-All t c = rw (c.in-All.is, lists.conds_hidden c.in-All.list, chains.anded_and (shown.cond c.in-All.a.value) (shown.conds c.in-All.list.items)) (grind (arith, common_steps))

pub returns-in-Any : goal.returns-in-Any
returns-in-Any t c = rw (c.in-Any.is, lists.conds_hidden c.in-Any.list, chains.ored_and (shown.cond c.in-Any.a.value) (shown.conds c.in-Any.list.items)) (grind (arith, common_steps))
