use Rattle.std.proofs.Common.{◌≡◌, ◌++◌, drop}
use Rattle.rule_feed.specs.FeedSteps.{sizes_in}
use Rattle.rule_feed.specs.Split.{heads}
use Rattle.rule_feed.proofs.feed.edits.all_columns.Given as goal

-- what is left completes them
abbrev pub invariant-loop-r : goal.invariant-loop-r
invariant-loop-r l = l.head ++ heads (sizes_in l.nodes (drop l.r-index l.list)) ≡ heads (sizes_in l.nodes l.list)
