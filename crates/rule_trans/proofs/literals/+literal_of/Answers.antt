use Rattle.std.proofs.Common.{arith}
use Rattle.std.proofs.lemmas.Grind.{common_steps}
use Rattle.qgm_terms.proofs.Lists as lists
use Rattle.qgm_terms.specs.Shown as shown
use Rattle.rule_trans.proofs.Alone.{literal_linked}
use Rattle.rule_trans.proofs.literals.+literal_of.Goals as goal

pub returns-then-is_alone : goal.returns-then-is_alone
returns-then-is_alone t c =
    rw (c.in-Chain.is, lists.links_hidden c.in-Chain.list, literal_linked (shown.term c.in-Chain.a.value) (shown.links c.in-Chain.list.items)) (grind (arith, common_steps))

pub returns-else-is_alone : goal.returns-else-is_alone
returns-else-is_alone t c =
    rw (c.in-Chain.is, lists.links_hidden c.in-Chain.list, literal_linked (shown.term c.in-Chain.a.value) (shown.links c.in-Chain.list.items)) (grind (arith, common_steps))
