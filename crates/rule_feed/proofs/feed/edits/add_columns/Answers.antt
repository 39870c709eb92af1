use Rattle.std.proofs.Common.{arith}
use Rattle.std.proofs.lemmas.Grind.{common_steps}
use Rattle.rule_feed.proofs.FeedEditSteps.{columns-next}
use Rattle.rule_feed.proofs.feed.edits.add_columns.Goals as goal

pub loop-k-preserved : goal.loop-k-preserved
loop-k-preserved c = grind (arith, common_steps, columns-next)
