use Rattle.std.proofs.Common.{arith}
use Rattle.std.proofs.lemmas.Grind.{common_steps}
use Rattle.graph_sql.specs.Scoped.{names_in}
use Rattle.graph_sql.proofs.bodies.put_group.Goals as goal

pub returns-then-is_any_wrapped : goal.returns-then-is_any_wrapped
returns-then-is_any_wrapped c = grind (arith, common_steps, c.is_any_wrapped.ensures (names_in c.args.scope.now))

pub returns-else-is_any_wrapped : goal.returns-else-is_any_wrapped
returns-else-is_any_wrapped c = grind (arith, common_steps, c.is_any_wrapped.ensures (names_in c.args.scope.now))
