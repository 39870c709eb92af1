use Rattle.std.proofs.Common.{length, ◌+◌, ◌*◌}
use Rattle.sql_parser.proofs.ahead.+past.Given as goal

abbrev pub decreases-past_query : goal.decreases-past_query
decreases-past_query l = 2 * length l.ts.now

abbrev pub decreases-past_bracket : goal.decreases-past_bracket
decreases-past_bracket l = 2 * length l.ts.now + 1
