use Rattle.std.proofs.Common.{length}
use Rattle.sql_names.proofs.names.+columns_named.Given as goal

abbrev pub decreases-columns_named : goal.decreases-columns_named
decreases-columns_named l = length l.known.now
