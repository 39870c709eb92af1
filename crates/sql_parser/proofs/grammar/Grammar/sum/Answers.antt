use Rattle.std.proofs.Common.{◌∙◌, refl, arith}
use Rattle.std.proofs.lemmas.Result.{err_from_is_err_and}
use Rattle.sql_text.specs.Tokens.{token_list}
use Rattle.sql_ast.specs.Shown as shown
use Rattle.sql_parser.specs.Read as read
use Rattle.sql_parser.proofs.Turns.{no_turn, one_more, terms_begin, terms_stop, terms_go, fails, expr_seen}
use Rattle.std.proofs.lemmas.Grind.{common_steps}
use Rattle.sql_parser.proofs.grammar.Grammar.sum.Goals as goal

pub terms-init : goal.terms-init
terms-init g c =
    terms_begin (read.expr c.args.self.now.depth) (read.cond c.args.self.now.depth) (read.query c.args.self.now.depth) (read.table c.args.self.now.depth) (shown.expr c.in_ok-left.left.value) (token_list c.args.ts.now) (token_list c.in_ok-left.rest.now) c.in_ok-left.ensures
    ∙ no_turn (λ n. read.more_terms (read.expr c.args.self.now.depth) (read.cond c.args.self.now.depth) (read.query c.args.self.now.depth) (read.table c.args.self.now.depth) n (shown.expr c.in_ok-left.left.value) (token_list c.in_ok-left.rest.now)) c.args.ts.now

pub returns-in-None : goal.returns-in-None
returns-in-None g c = c.terms.invariant ∙ terms_stop (read.expr c.args.self.now.depth) (read.cond c.args.self.now.depth) (read.query c.args.self.now.depth) (read.table c.args.self.now.depth) _ (shown.expr c.terms.left.value) (token_list c.terms.rest.now) c.in-None.ensures

pub returns-in_err-next-in-Some : goal.returns-in_err-next-in-Some
returns-in_err-next-in-Some g c =
    let p = err_from_is_err_and c.from_residual-in_err-next-in-Some.result c.from_residual-in_err-next-in-Some.ensures.1 in
    let e = one_more (λ n. read.more_terms (read.expr c.args.self.now.depth) (read.cond c.args.self.now.depth) (read.query c.args.self.now.depth) (read.table c.args.self.now.depth) n (shown.expr c.terms.left.value) (token_list c.terms.rest.now)) _ c.terms._turn c.terms-test.true c.terms.invariant in
    rw (p.1, p.2) (fails expr_seen expr_seen _ _ _ (λ none. e ∙ rw (terms_go (read.expr c.args.self.now.depth) (read.cond c.args.self.now.depth) (read.query c.args.self.now.depth) (read.table c.args.self.now.depth) _ (shown.expr c.terms.left.value) c.in-Some.op (token_list c.terms.rest.now) (token_list c.in-Some.after.now) c.in-Some.ensures, none) refl) c.in_err-next-in-Some.ensures)

pub terms-preserved : goal.terms-preserved
terms-preserved g c =
    let e = one_more (λ n. read.more_terms (read.expr c.args.self.now.depth) (read.cond c.args.self.now.depth) (read.query c.args.self.now.depth) (read.table c.args.self.now.depth) n (shown.expr c.terms.left.value) (token_list c.terms.rest.now)) _ c.terms._turn c.terms-test.true c.terms.invariant in
    e ∙ rw (terms_go (read.expr c.args.self.now.depth) (read.cond c.args.self.now.depth) (read.query c.args.self.now.depth) (read.table c.args.self.now.depth) _ (shown.expr c.terms.left.value) c.in-Some.op (token_list c.terms.rest.now) (token_list c.in-Some.after.now) c.in-Some.ensures, c.in_ok-next-in-Some.ensures) refl

pub returns : goal.returns
returns c = grind (arith, common_steps)

pub added-requires : goal.added-requires
added-requires g c = grind (arith, common_steps)
