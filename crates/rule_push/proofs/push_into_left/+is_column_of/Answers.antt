use Rattle.std.proofs.Common.{arith}
use Rattle.std.proofs.lemmas.Grind.{common_steps}
use Rattle.qgm_terms.proofs.Lists as lists
use Rattle.qgm_terms.specs.Shown as shown
use Rattle.rule_push.proofs.PushIntoLeftColumns.{column_linked}
use Rattle.rule_push.proofs.push_into_left.+is_column_of.Goals as goal

pub returns-in-Chain : goal.returns-in-Chain
returns-in-Chain t c =
    rw (c.in-Chain.is, lists.links_hidden c.in-Chain.list, column_linked c.args.s (shown.term c.in-Chain.a.value) (shown.links c.in-Chain.list.items)) (grind (arith, common_steps))
