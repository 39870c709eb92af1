use Rattle.std.specs.HashMap.{get}
use Rattle.std.proofs.Common.{nat_eq}
use Rattle.graph_sql.proofs.Under.{sure-same}
use Rattle.graph_sql.proofs.overs.sure_of.Goals as goal

pub returns : goal.returns
returns c = sure-same c.args.facts.now c.args.nodes.now (get nat_eq c.in_ok-overs.overs) c.in_ok-overs.ensures
