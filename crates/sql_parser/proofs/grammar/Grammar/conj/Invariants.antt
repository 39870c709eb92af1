use Rattle.std.proofs.Common.{◌≡◌, ◌-◌}
use Rattle.sql_text.specs.Tokens.{token_list}
use Rattle.sql_ast.specs.Shown as shown
use Rattle.sql_parser.specs.Read as read
use Rattle.sql_parser.proofs.grammar.Grammar.conj.Given as goal

abbrev pub invariant-negs : goal.invariant-negs
invariant-negs g l =
    read.conj (read.expr l.self.depth) (read.cond l.self.depth) (read.query l.self.depth) (read.table l.self.depth) (token_list l.ts)
    ≡ read.more_negs (read.expr l.self.depth) (read.cond l.self.depth) (read.query l.self.depth) (read.table l.self.depth) (l._turn-end - l._turn) (shown.cond l.left.value) (token_list l.rest)
