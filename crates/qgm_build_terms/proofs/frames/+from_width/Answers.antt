use Rattle.std.proofs.Common.{arith}
use Rattle.std.proofs.lemmas.Grind.{common_steps}
use Rattle.qgm_build_terms.proofs.frames.+from_width.Goals as goal

pub returns-in_ok-right-in-Crossed : goal.returns-in_ok-right-in-Crossed
returns-in_ok-right-in-Crossed t c = grind (arith, common_steps)

pub returns-in-Derived : goal.returns-in-Derived
returns-in-Derived t c = grind (arith, common_steps)

pub returns-in-Named : goal.returns-in-Named
returns-in-Named t c = grind (arith, common_steps)

pub returns-in_ok-left-in-LeftJoined : goal.returns-in_ok-left-in-LeftJoined
returns-in_ok-left-in-LeftJoined t c = grind (arith, common_steps)
