use Rattle.std.proofs.Common.{arith}
use Rattle.std.proofs.lemmas.Grind.{common_steps}
use Rattle.sql_names.proofs.names.+push_listed.Goals as goal

pub returns-in-None : goal.returns-in-None
returns-in-None t c = grind (arith, common_steps)

pub returns-in_ok-push-in-None-split_first : goal.returns-in_ok-push-in-None-split_first
returns-in_ok-push-in-None-split_first t c = grind (arith, common_steps)

pub returns-in_ok-push_name-in-Some-split_first : goal.returns-in_ok-push_name-in-Some-split_first
returns-in_ok-push_name-in-Some-split_first t c = grind (arith, common_steps)
