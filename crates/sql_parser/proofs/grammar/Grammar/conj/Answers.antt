use Rattle.std.proofs.Common.{◌∙◌, refl, arith}
use Rattle.std.proofs.lemmas.Result.{err_from_is_err_and}
use Rattle.sql_text.specs.Tokens.{token_list}
use Rattle.sql_ast.specs.Shown as shown
use Rattle.sql_parser.specs.Read as read
use Rattle.sql_parser.proofs.Turns.{no_turn, one_more, negs_begin, negs_stop, negs_go, fails, cond_seen}
use Rattle.std.proofs.lemmas.Grind.{common_steps}
use Rattle.sql_parser.proofs.grammar.Grammar.conj.Goals as goal

pub negs-init : goal.negs-init
negs-init g c =
    negs_begin (read.expr c.args.self.now.depth) (read.cond c.args.self.now.depth) (read.query c.args.self.now.depth) (read.table c.args.self.now.depth) (shown.cond c.in_ok-left.left.value) (token_list c.args.ts.now) (token_list c.in_ok-left.rest.now) c.in_ok-left.ensures
    ∙ no_turn (λ n. read.more_negs (read.expr c.args.self.now.depth) (read.cond c.args.self.now.depth) (read.query c.args.self.now.depth) (read.table c.args.self.now.depth) n (shown.cond c.in_ok-left.left.value) (token_list c.in_ok-left.rest.now)) c.args.ts.now

pub returns-in-None : goal.returns-in-None
returns-in-None g c = c.negs.invariant ∙ negs_stop (read.expr c.args.self.now.depth) (read.cond c.args.self.now.depth) (read.query c.args.self.now.depth) (read.table c.args.self.now.depth) _ (shown.cond c.negs.left.value) (token_list c.negs.rest.now) c.in-None.ensures.none

pub returns-in_err-next-in-Some : goal.returns-in_err-next-in-Some
returns-in_err-next-in-Some g c =
    let p = err_from_is_err_and c.from_residual-in_err-next-in-Some.result c.from_residual-in_err-next-in-Some.ensures.1 in
    let e = one_more (λ n. read.more_negs (read.expr c.args.self.now.depth) (read.cond c.args.self.now.depth) (read.query c.args.self.now.depth) (read.table c.args.self.now.depth) n (shown.cond c.negs.left.value) (token_list c.negs.rest.now)) _ c.negs._turn c.negs-test.true c.negs.invariant in
    rw (p.1, p.2) (fails cond_seen cond_seen _ _ _ (λ none. e ∙ negs_go (read.expr c.args.self.now.depth) (read.cond c.args.self.now.depth) (read.query c.args.self.now.depth) (read.table c.args.self.now.depth) _ (shown.cond c.negs.left.value) (token_list c.negs.rest.now) (token_list c.in-Some.after.now) c.in-Some.ensures.found ∙ rw (none) refl) c.in_err-next-in-Some.ensures)

pub negs-preserved : goal.negs-preserved
negs-preserved g c =
    let e = one_more (λ n. read.more_negs (read.expr c.args.self.now.depth) (read.cond c.args.self.now.depth) (read.query c.args.self.now.depth) (read.table c.args.self.now.depth) n (shown.cond c.negs.left.value) (token_list c.negs.rest.now)) _ c.negs._turn c.negs-test.true c.negs.invariant in
    e ∙ negs_go (read.expr c.args.self.now.depth) (read.cond c.args.self.now.depth) (read.query c.args.self.now.depth) (read.table c.args.self.now.depth) _ (shown.cond c.negs.left.value) (token_list c.negs.rest.now) (token_list c.in-Some.after.now) c.in-Some.ensures.found ∙ rw (c.in_ok-next-in-Some.ensures) refl

pub returns : goal.returns
returns c = grind (arith, common_steps)

pub joined_and-requires : goal.joined_and-requires
joined_and-requires g c = grind (arith, common_steps)
