use Rattle.std.proofs.Common.{arith}
use Rattle.std.proofs.lemmas.Grind.{common_steps}
use Rattle.qgm_term_size.proofs.Chains as chains
use Rattle.qgm_terms.proofs.Lists as lists
use Rattle.qgm_terms.specs.Shown as shown
use Rattle.qgm_term_size.proofs.levels.+is_chain.Goals as goal

pub returns-in-Chain : goal.returns-in-Chain
returns-in-Chain t c = rw (c.in-Chain.is, lists.links_hidden c.in-Chain.list, chains.linked_kind (shown.term c.in-Chain.a.value) (shown.links c.in-Chain.list.items)) (grind (arith, common_steps))
