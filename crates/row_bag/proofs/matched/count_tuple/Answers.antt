use Rattle.std.proofs.Common.{arith}
use Rattle.std.proofs.lemmas.Grind.{common_steps}
use Rattle.row_bag.proofs.matched.count_tuple.Goals as goal

pub add_tuple-requires-clause-hash : goal.add_tuple-requires-clause-hash
add_tuple-requires-clause-hash c = grind (arith, common_steps)

pub returns-in_ok-add_tuple-in-None-clause-counts : goal.returns-in_ok-add_tuple-in-None-clause-counts
returns-in_ok-add_tuple-in-None-clause-counts c = grind (arith, common_steps)

pub returns-in-Some-clause-index : goal.returns-in-Some-clause-index
returns-in-Some-clause-index c = grind (arith, common_steps)

pub returns-in_ok-add_tuple-in-None-clause-once : goal.returns-in_ok-add_tuple-in-None-clause-once
returns-in_ok-add_tuple-in-None-clause-once c = grind (arith, common_steps)

pub returns-in-Some-clause-counts : goal.returns-in-Some-clause-counts
returns-in-Some-clause-counts c = grind (arith, common_steps)

pub count_one-requires-clause-room : goal.count_one-requires-clause-room
count_one-requires-clause-room c = grind (arith, common_steps)

pub add_tuple-requires-clause-once : goal.add_tuple-requires-clause-once
add_tuple-requires-clause-once c = grind (arith, common_steps)

pub count_one-requires-clause-once : goal.count_one-requires-clause-once
count_one-requires-clause-once c = grind (arith, common_steps)

pub add_tuple-requires-clause-none : goal.add_tuple-requires-clause-none
add_tuple-requires-clause-none c = grind (arith, common_steps)

pub returns-in-Some-clause-once : goal.returns-in-Some-clause-once
returns-in-Some-clause-once c = grind (arith, common_steps)
