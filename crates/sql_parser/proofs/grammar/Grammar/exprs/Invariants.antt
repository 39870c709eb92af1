use Rattle.std.proofs.Common.{◌≡◌, ◌-◌}
use Rattle.sql_text.specs.Tokens.{token_list}
use Rattle.sql_parser.specs.Read as read
use Rattle.sql_parser.proofs.Turns.{exprs_then}
use Rattle.sql_parser.proofs.grammar.Grammar.exprs.Given as goal

abbrev pub invariant-exprs : goal.invariant-exprs
invariant-exprs g l =
    read.exprs (read.expr l.self.depth) (read.cond l.self.depth) (read.query l.self.depth) (read.table l.self.depth) (token_list l.ts)
    ≡ exprs_then l.exprs (read.more_exprs (read.expr l.self.depth) (read.cond l.self.depth) (read.query l.self.depth) (read.table l.self.depth) (l._turn-end - l._turn) (token_list l.rest))
