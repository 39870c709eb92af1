use Rattle.std.proofs.Common.{◌≡◌, ◌<◌}
use Rattle.rule_engine.specs.Control.{x_at}
use Rattle.rule_engine.proofs.choice.draw_from.Given as goal

abbrev pub invariant-loop-k : goal.invariant-loop-k
invariant-loop-k l = (l.x ≡ x_at l.seed l.k) × (l.x < 2147483648)
