use Rattle.std.proofs.Common.{arith}
use Rattle.std.proofs.lemmas.Grind.{common_steps}
use Rattle.qgm_terms.proofs.Lists as lists
use Rattle.qgm_terms.specs.Shown as shown
use Rattle.qgm_props.proofs.FreeLaws.{count_linked}
use Rattle.rule_magic.proofs.absorb_group.counts.+is_count.Goals as goal

pub returns-in-Chain : goal.returns-in-Chain
returns-in-Chain t c =
    rw (c.in-Chain.is, lists.links_hidden c.in-Chain.list, count_linked (shown.term c.in-Chain.a.value) (shown.links c.in-Chain.list.items)) (grind (arith, common_steps))
