use Rattle.std.proofs.Common.{◌≡◌, ◌-◌}
use Rattle.sql_text.specs.Tokens.{token_list}
use Rattle.sql_parser.specs.Read as read
use Rattle.sql_parser.proofs.Turns.{arms_then}
use Rattle.sql_parser.proofs.grammar.Grammar.arms.Given as goal

abbrev pub invariant-arms : goal.invariant-arms
invariant-arms g l =
    read.arms (read.expr l.self.depth) (read.cond l.self.depth) (read.query l.self.depth) (read.table l.self.depth) (token_list l.ts)
    ≡ arms_then l.arms (read.more_arms (read.expr l.self.depth) (read.cond l.self.depth) (read.query l.self.depth) (read.table l.self.depth) (l._turn-end - l._turn) (token_list l.rest))
