use Rattle.std.proofs.Common.{◌≡◌, ◌-◌}
use Rattle.sql_text.specs.Tokens.{token_list}
use Rattle.sql_parser.specs.Read as read
use Rattle.sql_parser.proofs.Turns.{choices_then}
use Rattle.sql_parser.proofs.grammar.Grammar.choices.Given as goal

abbrev pub invariant-choices : goal.invariant-choices
invariant-choices g l =
    read.choices (read.expr l.self.depth) (read.cond l.self.depth) (read.query l.self.depth) (read.table l.self.depth) (token_list l.ts)
    ≡ choices_then l.choices (read.more_choices (read.expr l.self.depth) (read.cond l.self.depth) (read.query l.self.depth) (read.table l.self.depth) (l._turn-end - l._turn) (token_list l.rest))
