use Rattle.std.proofs.Common.{arith}
use Rattle.std.proofs.lemmas.Grind.{common_steps}
use Rattle.sql_text.specs.Tokens.{token_list}
use Rattle.sql_parser.specs.Read as read
use Rattle.sql_parser.proofs.Turns.{plain_count}
use Rattle.sql_parser.proofs.grammar.Grammar.count.Goals as goal

pub returns-in-None : goal.returns-in-None
returns-in-None g c = rw (plain_count (read.expr c.args.self.now.depth) (read.cond c.args.self.now.depth) (read.query c.args.self.now.depth) (read.table c.args.self.now.depth) (token_list c.args.ts.now) c.in-None.ensures.none) c.aggregate.ensures

pub returns-in-Some : goal.returns-in-Some
returns-in-Some g c = grind (arith, common_steps)
