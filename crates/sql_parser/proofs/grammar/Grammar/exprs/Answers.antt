use Rattle.std.proofs.Common.{◌∷◌, [], ◌∙◌, ap, arith}
use Rattle.sql_text.specs.Tokens.{token_list}
use Rattle.sql_parser.specs.Read as read
use Rattle.sql_parser.proofs.Turns.{no_turn, one_more, no_more, exprs_then, exprs_stop, exprs_first, exprs_more, exprs_whole}
use Rattle.std.proofs.lemmas.Grind.{common_steps}
use Rattle.sql_parser.proofs.grammar.Grammar.exprs.Goals as goal

pub exprs-init : goal.exprs-init
exprs-init g c =
    rw (c.in_ok-first.ensures, c.in_ok-push_boxed.ensures.ok, c.new-exprs.ensures)
    (exprs_first c.in_ok-first.first.value _ ∙ no_turn (λ n. exprs_then (c.in_ok-first.first.value ∷ []) (read.more_exprs (read.expr c.args.self.now.depth) (read.cond c.args.self.now.depth) (read.query c.args.self.now.depth) (read.table c.args.self.now.depth) n (token_list c.in_ok-first.after.now))) c.in_ok-first.after.now)

pub returns-in-None : goal.returns-in-None
returns-in-None g c =
    c.exprs.invariant
    ∙ ap (exprs_then c.exprs.exprs) (exprs_stop (read.expr c.args.self.now.depth) (read.cond c.args.self.now.depth) (read.query c.args.self.now.depth) (read.table c.args.self.now.depth) _ (token_list c.exprs.rest.now) c.in-None.ensures.none)
    ∙ exprs_whole c.exprs.exprs (token_list c.exprs.rest.now)

pub exprs-preserved : goal.exprs-preserved
exprs-preserved g c =
    let e = one_more (λ n. exprs_then c.exprs.exprs (read.more_exprs (read.expr c.args.self.now.depth) (read.cond c.args.self.now.depth) (read.query c.args.self.now.depth) (read.table c.args.self.now.depth) n (token_list c.exprs.rest.now))) _ c.exprs._turn c.exprs-test.true c.exprs.invariant in
    e ∙ rw (c.in-Some.ensures.found, c.in_ok-item-in-Some.ensures, c.in_ok-push_boxed-in-Some.ensures.ok) (exprs_more c.exprs.exprs c.in_ok-item-in-Some.item.value _)

pub returns : goal.returns
returns g c =
    no_more (λ n. exprs_then c.exprs.exprs (read.more_exprs (read.expr c.args.self.now.depth) (read.cond c.args.self.now.depth) (read.query c.args.self.now.depth) (read.table c.args.self.now.depth) n (token_list c.exprs.rest.now))) _ c.exprs._turn c.exprs-test.false c.exprs.invariant
    ∙ exprs_whole c.exprs.exprs (token_list c.exprs.rest.now)

pub returns-in_err-item-in-Some : goal.returns-in_err-item-in-Some
returns-in_err-item-in-Some c = grind (arith, common_steps)
