use Rattle.std.proofs.Common.{◌≡◌, ◌+◌, length}
use Rattle.sql_text.specs.Tokens.{tokens_at, widths}
use Rattle.sql_text.proofs.Lexed.{after}
use Rattle.sql_text.proofs.lexer.spans.Given as goal

abbrev pub invariant-text : goal.invariant-text
invariant-text l = (tokens_at 0 0 l.chars ≡ after l.spans.items (tokens_at l.place 0 l.rest)) × (l.place + widths l.rest ≡ widths l.chars)

abbrev pub decreases-text : goal.decreases-text
decreases-text l = length l.rest
