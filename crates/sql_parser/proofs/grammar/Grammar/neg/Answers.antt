use Rattle.std.proofs.Common.{arith}
use Rattle.sql_text.specs.Tokens.{token_list}
use Rattle.sql_parser.specs.Read as read
use Rattle.sql_parser.proofs.Turns.{plain_neg}
use Rattle.std.proofs.lemmas.Grind.{common_steps}
use Rattle.sql_parser.proofs.grammar.Grammar.neg.Goals as goal

pub returns-in-None : goal.returns-in-None
returns-in-None g c = rw (plain_neg (read.expr c.args.self.now.depth) (read.cond c.args.self.now.depth) (read.query c.args.self.now.depth) (read.table c.args.self.now.depth) (token_list c.args.ts.now) c.in-None.ensures.none) c.test-in-None.ensures

pub returns-in_ok-inner-in-Some : goal.returns-in_ok-inner-in-Some
returns-in_ok-inner-in-Some c = grind (arith, common_steps)
