use Rattle.std.proofs.Common.{◌≡◌, ◌-◌}
use Rattle.sql_text.specs.Tokens.{token_list}
use Rattle.sql_ast.specs.Shown as shown
use Rattle.sql_parser.specs.Read as read
use Rattle.sql_parser.specs.Words.{mapped}
use Rattle.sql_parser.proofs.TurnsTables.{append_items}
use Rattle.sql_parser.proofs.grammar.Grammar.items.Given as goal

abbrev pub invariant-items : goal.invariant-items
invariant-items g l =
    read.items (read.expr l.self.depth) (read.cond l.self.depth) (read.query l.self.depth) (read.table l.self.depth) (token_list l.ts)
    ≡ mapped (append_items (shown.item_list l.items)) (read.more_items (read.expr l.self.depth) (read.cond l.self.depth) (read.query l.self.depth) (read.table l.self.depth) (l._turn-end - l._turn) (token_list l.rest))
