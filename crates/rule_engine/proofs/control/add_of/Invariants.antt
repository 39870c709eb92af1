use Rattle.std.proofs.Common.{◌≡◌, drop, filter}
use Rattle.rule_api.specs.RuleIds.{is_of}
use Rattle.rule_engine.specs.Control.{all_new}
use Rattle.rule_engine.proofs.control.add_of.Given as goal

abbrev pub invariant-loop-rule : goal.invariant-loop-rule
invariant-loop-rule l = all_new l.out.items (filter (is_of l.class) (drop l.rule-index l.rules)) ≡ all_new l.initial.out.items (filter (is_of l.class) l.rules)
