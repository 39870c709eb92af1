use Rattle.std.proofs.Common.{arith}
use Rattle.std.proofs.lemmas.Grind.{common_steps}
use Rattle.qgm_props.proofs.SettledFacts.{settled_off, settled_on, settled_shorter}
use Rattle.qgm_props.proofs.settling.is_filled_settled.Goals as goal

pub returns-then-old-width_of : goal.returns-then-old-width_of
returns-then-old-width_of c = grind (arith, common_steps, settled_shorter)

pub returns-then-is_filled_anew : goal.returns-then-is_filled_anew
returns-then-is_filled_anew c = grind (arith, common_steps, settled_off)

pub loop-k-preserved : goal.loop-k-preserved
loop-k-preserved c = grind (arith, common_steps, settled_on)
