use Rattle.std.proofs.Common.{◌≡◌, ◌++◌, Some, length}
use Rattle.sql_text.specs.Tokens.{token_list}
use Rattle.sql_parser.specs.Words as words
use Rattle.sql_parser.proofs.naming.names.Given as goal

abbrev pub invariant-names : goal.invariant-names
invariant-names l = words.names (token_list l.ts) ≡ Some (l.names ++ (words.more_names (token_list l.rest)).0, (words.more_names (token_list l.rest)).1)

abbrev pub decreases-names : goal.decreases-names
decreases-names l = length l.rest
