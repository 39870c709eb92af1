use Rattle.rule_magic.specs.AbsorbSelectExact.{absorb_select_ascending}
use Rattle.rule_magic.proofs.absorb_select.AbsorbSelectRule.places.Goals as goal

pub returns-clause-order : goal.returns-clause-order
returns-clause-order c = absorb_select_ascending c.args.graph.now c.args.b
