use Rattle.std.proofs.Common.{arith}
use Rattle.std.proofs.lemmas.Grind.{common_steps}
use Rattle.sql_names.proofs.chain.either.Goals as goal

pub returns-else-wants_any : goal.returns-else-wants_any
returns-else-wants_any c = grind (arith, common_steps)

pub returns-then-wants_any : goal.returns-then-wants_any
returns-then-wants_any c = grind (arith, common_steps)

pub longer_either-requires : goal.longer_either-requires
longer_either-requires c = grind (arith, common_steps)

pub first_either-requires : goal.first_either-requires
first_either-requires c = grind (arith, common_steps)
