use Rattle.std.proofs.Common.{subst, arith}
use Rattle.sql_text.specs.Tokens.{token_list}
use Rattle.sql_parser.specs.Read as read
use Rattle.sql_parser.specs.Words.{Gives}
use Rattle.sql_parser.proofs.TurnsTables.{no_star, list_seen}
use Rattle.std.proofs.lemmas.Grind.{common_steps}
use Rattle.sql_parser.proofs.grammar.Grammar.select_list.Goals as goal

pub returns-in-None : goal.returns-in-None
returns-in-None g c =
    subst (λ m. Gives list_seen c.listed.result m)
    (no_star (read.expr c.args.self.now.depth) (read.cond c.args.self.now.depth) (read.query c.args.self.now.depth) (read.table c.args.self.now.depth) (token_list c.args.ts.now) c.in-None.ensures.none)
    c.listed.ensures

pub returns-in-Some : goal.returns-in-Some
returns-in-Some c = grind (arith, common_steps)
