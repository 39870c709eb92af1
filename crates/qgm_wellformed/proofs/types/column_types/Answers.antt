use Rattle.qgm_wellformed.proofs.Tables.{lookup-is}
use Rattle.qgm_wellformed.proofs.types.column_types.Goals as goal

pub returns : goal.returns
returns c = lookup-is c.args.nodes.now c.in_ok-known.known.places c.in_ok-known.ensures.1 c.in_ok-known.known.table.items c.in_ok-known.ensures.0
