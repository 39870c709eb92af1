use Rattle.rule_magic.specs.AbsorbOuterExact.{absorb_outer_ascending}
use Rattle.rule_magic.proofs.absorb_outer.AbsorbOuterJoinRule.places.Goals as goal

pub returns-clause-order : goal.returns-clause-order
returns-clause-order c = absorb_outer_ascending c.args.graph.now c.args.b
