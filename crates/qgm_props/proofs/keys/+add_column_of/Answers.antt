use Rattle.std.proofs.Common.{arith}
use Rattle.std.proofs.lemmas.Grind.{common_steps}
use Rattle.qgm_terms.proofs.Lists as lists
use Rattle.qgm_terms.specs.Shown as shown
use Rattle.qgm_props.proofs.FreeLaws.{column_linked}
use Rattle.qgm_props.proofs.keys.+add_column_of.Goals as goal

pub returns-in_ok-add_column_of-in-Chain : goal.returns-in_ok-add_column_of-in-Chain
returns-in_ok-add_column_of-in-Chain t c =
    rw (c.in-Chain.is, lists.links_hidden c.in-Chain.list, column_linked c.args.q (shown.term c.in-Chain.a.value) (shown.links c.in-Chain.list.items)) (grind (arith, common_steps))

pub returns-else-is_alone : goal.returns-else-is_alone
returns-else-is_alone t c =
    rw (c.in-Chain.is, lists.links_hidden c.in-Chain.list, column_linked c.args.q (shown.term c.in-Chain.a.value) (shown.links c.in-Chain.list.items)) (grind (arith, common_steps))
