use Rattle.std.proofs.Common.{arith}
use Rattle.std.proofs.lemmas.Grind.{common_steps}
use Rattle.rule_feed.proofs.FeedEditSteps.{columns-next}
use Rattle.rule_feed.proofs.feed.edits.columns.Goals as goal

pub loop-k-preserved : goal.loop-k-preserved
loop-k-preserved c = record { so_far = grind (arith, common_steps, columns-next); end = c.loop-k.invariant.end }
