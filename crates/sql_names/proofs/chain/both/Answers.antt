use Rattle.std.proofs.Common.{arith}
use Rattle.std.proofs.lemmas.Grind.{common_steps}
use Rattle.sql_names.proofs.chain.both.Goals as goal

pub returns-else-wants_all : goal.returns-else-wants_all
returns-else-wants_all c = grind (arith, common_steps)

pub returns-then-wants_all : goal.returns-then-wants_all
returns-then-wants_all c = grind (arith, common_steps)

pub longer_both-requires : goal.longer_both-requires
longer_both-requires c = grind (arith, common_steps)

pub first_both-requires : goal.first_both-requires
first_both-requires c = grind (arith, common_steps)
