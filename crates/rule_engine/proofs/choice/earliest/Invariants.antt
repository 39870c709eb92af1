use Rattle.std.proofs.Common.{◌≡◌, None, drop}
use Rattle.rule_engine.proofs.Earliest.{best}
use Rattle.rule_engine.proofs.choice.earliest.Given as goal

abbrev pub invariant-loop-f : goal.invariant-loop-f
invariant-loop-f l = best l.found (drop l.f-index l.list) ≡ best None l.list
