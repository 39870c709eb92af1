use Rattle.std.proofs.Common.{arith}
use Rattle.std.proofs.lemmas.Grind.{common_steps}
use Rattle.qgm_terms.proofs.Lists as lists
use Rattle.qgm_terms.specs.Shown as shown
use Rattle.qgm_props.specs.Table.{facts_of}
use Rattle.qgm_props.proofs.FreeLaws.{value_linked}
use Rattle.qgm_props.proofs.columns.+has_value.Goals as goal

pub returns-in-Chain : goal.returns-in-Chain
returns-in-Chain t c =
    rw (c.in-Chain.is, lists.links_hidden c.in-Chain.list, value_linked c.args.nodes.now (facts_of c.args.table.now) (shown.term c.in-Chain.a.value) (shown.links c.in-Chain.list.items)) (grind (arith, common_steps))
