use Rattle.graph_sql.proofs.BodyLists.{node_written}
use Rattle.graph_sql.proofs.bodies.put_body.Goals as goal

pub returns : goal.returns
returns c = rw (node_written c.args.tables.now c.args.scope.now c.args.node.now) c.put_parts.ensures
