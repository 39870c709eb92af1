use Rattle.std.proofs.Common.{◌≡◌, ◌-◌, ◌++◌}
use Rattle.sql_text.specs.Tokens.{token_list}
use Rattle.sql_parser.specs.Words as words
use Rattle.sql_parser.proofs.naming.columns.Given as goal

abbrev pub invariant-columns : goal.invariant-columns
invariant-columns l =
    words.columns (token_list l.ts)
    ≡ words.mapped (λ more. l.columns ++ more) (words.more_columns (l._turn-end - l._turn) (token_list l.rest))
