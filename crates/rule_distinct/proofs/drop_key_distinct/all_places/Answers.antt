use Rattle.std.proofs.Common.{arith}
use Rattle.std.proofs.lemmas.Grind.{common_steps}
use Rattle.rule_distinct.proofs.ToldKeys.{places_down}
use Rattle.rule_distinct.proofs.drop_key_distinct.all_places.Goals as goal

pub loop-k-preserved : goal.loop-k-preserved
loop-k-preserved c = grind (arith, common_steps, places_down)
