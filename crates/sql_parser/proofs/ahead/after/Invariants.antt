use Rattle.std.proofs.Common.{◌≡◌, ◌+◌, ◌≤◌, length}
use Rattle.sql_text.specs.Tokens.{token_list}
use Rattle.sql_parser.specs.Ahead as ahead
use Rattle.sql_parser.proofs.ahead.after.Given as goal

abbrev pub invariant-tokens : goal.invariant-tokens
invariant-tokens l = (ahead.after 0 (token_list l.ts) ≡ ahead.after l.open (token_list l.rest)) × (length l.rest + l._turn ≡ length l.ts) × (l.open ≤ l._turn)
