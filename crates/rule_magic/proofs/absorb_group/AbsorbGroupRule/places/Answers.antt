use Rattle.rule_magic.specs.AbsorbGroupExact.{absorb_group_ascending}
use Rattle.rule_magic.proofs.absorb_group.AbsorbGroupRule.places.Goals as goal

pub returns-clause-order : goal.returns-clause-order
returns-clause-order c = absorb_group_ascending c.args.graph.now c.args.b
