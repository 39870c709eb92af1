use Rattle.std.proofs.Common.{◌≡◌, ◌-◌, ◌++◌}
use Rattle.sql_text.specs.Tokens.{token_list}
use Rattle.sql_parser.specs.ReadSchema as read
use Rattle.sql_parser.specs.Words.{mapped}
use Rattle.sql_parser.proofs.elements.elements.Given as goal

abbrev pub invariant-elements : goal.invariant-elements
invariant-elements l = read.elements (token_list l.ts) ≡ mapped (λ more. l.elements ++ more) (read.more_elements (l._turn-end - l._turn) (token_list l.rest))
