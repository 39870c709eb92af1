use Rattle.rule_magic.specs.AbsorbSetOperationExact.{absorb_set_ascending}
use Rattle.rule_magic.proofs.absorb_set.AbsorbSetOperationRule.places.Goals as goal

pub returns-clause-order : goal.returns-clause-order
returns-clause-order c = absorb_set_ascending c.args.graph.now c.args.b
