use Rattle.std.proofs.lemmas.Grind.{common_steps}
use Rattle.std.proofs.Common.{◌∙◌, ap, arith}
use Rattle.std.proofs.lemmas.Result.{err_from_is_err_and}
use Rattle.sql_text.specs.Tokens.{token_list}
use Rattle.sql_parser.specs.Read as read
use Rattle.sql_parser.specs.Words.{◌>>=◌}
use Rattle.sql_parser.proofs.Turns.{plain_pred, fails, expr_seen, cond_seen}
use Rattle.sql_parser.proofs.grammar.Grammar.pred.Goals as goal

pub returns-in_err-operand-in-None : goal.returns-in_err-operand-in-None
returns-in_err-operand-in-None g c =
    let p = err_from_is_err_and c.from_residual.result c.from_residual.ensures.1 in
    let e = plain_pred (read.expr c.args.self.now.depth) (read.cond c.args.self.now.depth) (read.query c.args.self.now.depth) (read.table c.args.self.now.depth) (token_list c.args.ts.now) c.in-None.ensures.none in
    rw (p.1, p.2) (fails expr_seen cond_seen _ _ _ (λ none. e ∙ ap (λ found. found >>= read.pred_after (read.expr c.args.self.now.depth) (read.cond c.args.self.now.depth) (read.query c.args.self.now.depth) (read.table c.args.self.now.depth)) none) c.in_err-operand-in-None.ensures)

pub returns-in_ok-operand-in-None : goal.returns-in_ok-operand-in-None
returns-in_ok-operand-in-None g c =
    let e = plain_pred (read.expr c.args.self.now.depth) (read.cond c.args.self.now.depth) (read.query c.args.self.now.depth) (read.table c.args.self.now.depth) (token_list c.args.ts.now) c.in-None.ensures.none in
    rw (e ∙ ap (λ found. found >>= read.pred_after (read.expr c.args.self.now.depth) (read.cond c.args.self.now.depth) (read.query c.args.self.now.depth) (read.table c.args.self.now.depth)) c.in_ok-operand-in-None.ensures) c.pred_after.ensures

pub returns-in-Some : goal.returns-in-Some
returns-in-Some g c = grind (arith, common_steps)
