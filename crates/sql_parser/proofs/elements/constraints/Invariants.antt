use Rattle.std.proofs.Common.{◌≡◌, ◌++◌, length}
use Rattle.sql_text.specs.Tokens.{token_list}
use Rattle.sql_parser.specs.ReadSchema as read
use Rattle.sql_parser.proofs.elements.constraints.Given as goal

abbrev pub invariant-constraints : goal.invariant-constraints
invariant-constraints l = read.constraints (token_list l.ts) ≡ (l.constraints ++ (read.constraints (token_list l.rest)).0, (read.constraints (token_list l.rest)).1)

abbrev pub decreases-constraints : goal.decreases-constraints
decreases-constraints l = length l.rest
