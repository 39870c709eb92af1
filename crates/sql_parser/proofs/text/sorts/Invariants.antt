use Rattle.std.proofs.Common.{◌≡◌, ◌-◌, ◌++◌}
use Rattle.sql_text.specs.Tokens.{token_list}
use Rattle.sql_parser.specs.ReadText as text
use Rattle.sql_parser.specs.Words.{mapped}
use Rattle.sql_parser.proofs.text.sorts.Given as goal

abbrev pub invariant-sorts : goal.invariant-sorts
invariant-sorts l =
    text.sorts (token_list l.ts)
    ≡ mapped (λ more. l.sorts ++ more) (text.more_sorts (l._turn-end - l._turn) (token_list l.rest))
