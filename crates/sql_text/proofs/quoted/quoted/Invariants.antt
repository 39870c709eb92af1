use Rattle.std.proofs.Common.{◌≡◌, ◌+◌, length}
use Rattle.sql_text.specs.Tokens as spec
use Rattle.sql_text.proofs.InQuotes.{prefixed}
use Rattle.sql_text.proofs.quoted.quoted.Given as goal

abbrev pub invariant-characters : goal.invariant-characters
invariant-characters l = (spec.quoted l.quote l.chars ≡ prefixed l.text l.size (spec.quoted l.quote l.rest)) × (length l.rest + l.size ≡ length l.chars)

abbrev pub decreases-characters : goal.decreases-characters
decreases-characters l = length l.rest
