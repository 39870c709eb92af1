use Rattle.std.proofs.Common.{arith}
use Rattle.std.proofs.lemmas.Grind.{common_steps}
use Rattle.qgm_props.proofs.boxes.is_box_exact.Goals as goal

pub returns-in-Select : goal.returns-in-Select
returns-in-Select c = grind (arith, common_steps)
