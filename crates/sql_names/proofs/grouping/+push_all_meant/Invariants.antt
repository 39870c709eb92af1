use Rattle.std.proofs.Common.{length}
use Rattle.sql_names.proofs.grouping.+push_all_meant.Given as goal

abbrev pub decreases-push_all_meant : goal.decreases-push_all_meant
decreases-push_all_meant l = length l.ranges.now
