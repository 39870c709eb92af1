use Rattle.std.proofs.Common.{arith}
use Rattle.std.proofs.lemmas.Grind.{common_steps}
use Rattle.qgm_props.proofs.boxes.are_exact_under.Goals as goal

pub returns-then-not-has_exactly_one : goal.returns-then-not-has_exactly_one
returns-then-not-has_exactly_one c = grind (arith, common_steps)
