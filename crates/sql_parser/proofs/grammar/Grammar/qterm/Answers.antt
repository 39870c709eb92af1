use Rattle.std.proofs.Common.{◌∙◌, refl, arith}
use Rattle.std.proofs.lemmas.Result.{err_from_is_err_and}
use Rattle.sql_text.specs.Tokens.{token_list}
use Rattle.sql_ast.specs.Shown as shown
use Rattle.sql_parser.specs.Read as read
use Rattle.sql_parser.proofs.Turns.{one_more, fails}
use Rattle.sql_parser.proofs.TurnsTables.{qprims_stop, qprims_next, qterm_begin, query_seen}
use Rattle.std.proofs.lemmas.Grind.{common_steps}
use Rattle.sql_parser.proofs.grammar.Grammar.qterm.Goals as goal

pub qprims-init : goal.qprims-init
qprims-init g c =
    qterm_begin (read.expr c.args.self.now.depth) (read.cond c.args.self.now.depth) (read.query c.args.self.now.depth) (read.table c.args.self.now.depth) c.args.ts.now (shown.query c.in_ok-left.left.value) (token_list c.in_ok-left.rest.now) c.in_ok-left.ensures

pub returns-in-None : goal.returns-in-None
returns-in-None g c = c.qprims.invariant ∙ qprims_stop (read.expr c.args.self.now.depth) (read.cond c.args.self.now.depth) (read.query c.args.self.now.depth) (read.table c.args.self.now.depth) _ (shown.query c.qprims.left.value) (token_list c.qprims.rest.now) c.in-None.ensures.none

pub returns-in_err-next-in-Some : goal.returns-in_err-next-in-Some
returns-in_err-next-in-Some g c =
    let p = err_from_is_err_and c.from_residual-in_err-next-in-Some.result c.from_residual-in_err-next-in-Some.ensures.1 in
    let e = one_more (λ n. read.more_qprims (read.expr c.args.self.now.depth) (read.cond c.args.self.now.depth) (read.query c.args.self.now.depth) (read.table c.args.self.now.depth) n (shown.query c.qprims.left.value) (token_list c.qprims.rest.now)) _ c.qprims._turn c.qprims-test.true c.qprims.invariant in
    rw (p.1, p.2) (fails query_seen query_seen _ _ _ (λ none. e ∙ qprims_next (read.expr c.args.self.now.depth) (read.cond c.args.self.now.depth) (read.query c.args.self.now.depth) (read.table c.args.self.now.depth) _ (shown.query c.qprims.left.value) (token_list c.qprims.rest.now) (token_list c.in-Some.after.now) c.in-Some.ensures.found ∙ rw (none) refl) c.in_err-next-in-Some.ensures)

pub qprims-preserved : goal.qprims-preserved
qprims-preserved g c =
    let e = one_more (λ n. read.more_qprims (read.expr c.args.self.now.depth) (read.cond c.args.self.now.depth) (read.query c.args.self.now.depth) (read.table c.args.self.now.depth) n (shown.query c.qprims.left.value) (token_list c.qprims.rest.now)) _ c.qprims._turn c.qprims-test.true c.qprims.invariant in
    e ∙ qprims_next (read.expr c.args.self.now.depth) (read.cond c.args.self.now.depth) (read.query c.args.self.now.depth) (read.table c.args.self.now.depth) _ (shown.query c.qprims.left.value) (token_list c.qprims.rest.now) (token_list c.in-Some.after.now) c.in-Some.ensures.found ∙ rw (c.in_ok-next-in-Some.ensures) refl

pub returns : goal.returns
returns c = grind (arith, common_steps)

pub intersected-requires : goal.intersected-requires
intersected-requires g c = grind (arith, common_steps)
