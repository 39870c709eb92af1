use Rattle.rule_magic.specs.AbsorbOuterExact.{absorb_outer_exact}
use Rattle.rule_magic.proofs.absorb_outer.AbsorbOuterJoinRule.apply.Goals as goal

pub absorbed_at-requires-clause-given : goal.absorbed_at-requires-clause-given
absorbed_at-requires-clause-given c = (absorb_outer_exact c.args.graph.now c.args.place.at c.args.place.i c.args.place.j c.each_number_once.ensures c.requires.formed).0 c.requires.given
