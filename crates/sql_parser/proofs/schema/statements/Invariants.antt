use Rattle.std.proofs.Common.{◌≡◌, ◌-◌, ◌++◌, length, map}
use Rattle.std.specs.Option.{option_map}
use Rattle.sql_text.specs.Tokens.{token_list}
use Rattle.sql_ast.specs.Shown as shown
use Rattle.sql_parser.specs.ReadSchema as read
use Rattle.sql_parser.proofs.schema.statements.Given as goal

abbrev pub invariant-statements : goal.invariant-statements
invariant-statements l =
    read.statements (length (token_list l.ts)) (token_list l.ts)
    ≡ option_map (λ more. map shown.statement l.statements ++ more) (read.statements (l._turn-end - l._turn) (token_list l.rest))
