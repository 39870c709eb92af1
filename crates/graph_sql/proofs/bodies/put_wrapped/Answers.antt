use Rattle.std.proofs.Common.{arith}
use Rattle.std.proofs.lemmas.Grind.{common_steps}
use Rattle.graph_sql.specs.Scoped.{names_in}
use Rattle.graph_sql.proofs.bodies.put_wrapped.Goals as goal

pub returns : goal.returns
returns c = grind (arith, common_steps, c.put_overs.ensures (names_in c.args.scope.now))
