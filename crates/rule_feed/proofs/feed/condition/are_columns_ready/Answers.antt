use Rattle.std.proofs.Common.{arith}
use Rattle.std.proofs.lemmas.Grind.{common_steps}
use Rattle.qgm_props.specs.Table.{facts_of}
use Rattle.rule_feed.specs.FeedCode.{column_ready}
use Rattle.rule_feed.proofs.FeedConditionSteps.{places-next}
use Rattle.rule_feed.proofs.feed.condition.are_columns_ready.Goals as goal

pub loop-j-preserved : goal.loop-j-preserved
loop-j-preserved c = grind (arith, common_steps, places-next c.args.w c.loop-j.j (column_ready c.args.marks.now c.args.nodes.now (facts_of c.args.facts.now) c.args.q))
