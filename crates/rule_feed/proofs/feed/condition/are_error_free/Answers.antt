use Rattle.std.proofs.Common.{arith}
use Rattle.std.proofs.lemmas.Grind.{common_steps}
use Rattle.qgm_props.specs.Table.{facts_of}
use Rattle.rule_feed.proofs.FeedConditionSteps.{places-next}
use Rattle.rule_feed.proofs.feed.condition.are_error_free.Goals as goal

pub loop-j-preserved : goal.loop-j-preserved
loop-j-preserved c = grind (arith, common_steps, places-next c.args.w c.loop-j.j ((facts_of c.args.facts.now).error_free c.args.q.over))
