use Rattle.std.proofs.Common.{◌≡◌, drop}
use Rattle.std.specs.List.{flat_map}
use Rattle.rule_engine.specs.Control.{all_new, enabled}
use Rattle.rule_engine.specs.Control.{rules_of}
use Rattle.rule_engine.proofs.control.enabled_rules.Given as goal

abbrev pub invariant-loop-class : goal.invariant-loop-class
invariant-loop-class l = all_new l.out.items (flat_map rules_of (drop l.class-index l.classes)) ≡ enabled l.classes
