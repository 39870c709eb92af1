use Rattle.std.proofs.Common.{◌≡◌, ◌++◌, map, take}
use Rattle.rule_engine.specs.Control.{firing}
use Rattle.rule_engine.proofs.control.add_rule.Given as goal

abbrev pub invariant-loop-place : goal.invariant-loop-place
invariant-loop-place g l = l.out.items ≡ l.initial.out.items ++ map (firing l.rule) (take l.place-index l.place-items)
