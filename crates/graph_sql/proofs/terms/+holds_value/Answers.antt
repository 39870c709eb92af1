use Rattle.std.proofs.Common.{arith}
use Rattle.std.proofs.lemmas.Grind.{common_steps}
use Rattle.qgm_terms.proofs.Lists as lists
use Rattle.qgm_terms.specs.Shown as shown
use Rattle.graph_sql.specs.Scoped.{is_sure}
use Rattle.graph_sql.proofs.Nests as laws
use Rattle.graph_sql.proofs.terms.+holds_value.Goals as goal

pub returns-in-Chain : goal.returns-in-Chain
returns-in-Chain t c =
    rw (c.in-Chain.is, lists.links_hidden c.in-Chain.list, laws.value_linked (is_sure c.args.scope.now.sure.now) (shown.term c.in-Chain.a.value) (shown.links c.in-Chain.list.items)) (grind (arith, common_steps))
