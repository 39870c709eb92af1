use Rattle.std.proofs.Common.{◌∙◌, sym, refl, arith}
use Rattle.std.proofs.lemmas.Result.{err_from_is_err_and}
use Rattle.sql_text.specs.Tokens.{token_list}
use Rattle.sql_ast.specs.Shown as shown
use Rattle.sql_parser.specs.Read as read
use Rattle.sql_parser.proofs.Turns.{one_more, no_turn, fails}
use Rattle.sql_parser.proofs.TurnsTables.{joins_stop, joins_next, table_seen}
use Rattle.std.proofs.lemmas.Grind.{common_steps}
use Rattle.sql_parser.proofs.grammar.Grammar.tref.Goals as goal

pub joins-init : goal.joins-init
joins-init g c =
    rw c.in_ok-left.ensures (no_turn (λ n. read.more_joins (read.expr c.args.self.now.depth) (read.cond c.args.self.now.depth) (read.query c.args.self.now.depth) (read.table c.args.self.now.depth) n (shown.table c.in_ok-left.left.value) (token_list c.in_ok-left.rest.now)) c.args.ts.now)

pub returns-in-None : goal.returns-in-None
returns-in-None g c = c.joins.invariant ∙ joins_stop (read.expr c.args.self.now.depth) (read.cond c.args.self.now.depth) (read.query c.args.self.now.depth) (read.table c.args.self.now.depth) _ (shown.table c.joins.left.value) (token_list c.joins.rest.now) (sym c.in-None.ensures)

pub returns-in_err-next-in-Some : goal.returns-in_err-next-in-Some
returns-in_err-next-in-Some g c =
    let p = err_from_is_err_and c.from_residual-in_err-next-in-Some.result c.from_residual-in_err-next-in-Some.ensures.1 in
    let e = one_more (λ n. read.more_joins (read.expr c.args.self.now.depth) (read.cond c.args.self.now.depth) (read.query c.args.self.now.depth) (read.table c.args.self.now.depth) n (shown.table c.joins.left.value) (token_list c.joins.rest.now)) _ c.joins._turn c.joins-test.true c.joins.invariant in
    rw (p.1, p.2) (fails table_seen table_seen _ _ _ (λ none. e ∙ joins_next (read.expr c.args.self.now.depth) (read.cond c.args.self.now.depth) (read.query c.args.self.now.depth) (read.table c.args.self.now.depth) _ (shown.table c.joins.left.value) (token_list c.joins.rest.now) (c.in-Some.kind, token_list c.in-Some.after.now) c.in-Some.ensures ∙ rw (none) refl) c.in_err-next-in-Some.ensures)

pub joins-preserved : goal.joins-preserved
joins-preserved g c =
    let e = one_more (λ n. read.more_joins (read.expr c.args.self.now.depth) (read.cond c.args.self.now.depth) (read.query c.args.self.now.depth) (read.table c.args.self.now.depth) n (shown.table c.joins.left.value) (token_list c.joins.rest.now)) _ c.joins._turn c.joins-test.true c.joins.invariant in
    e ∙ joins_next (read.expr c.args.self.now.depth) (read.cond c.args.self.now.depth) (read.query c.args.self.now.depth) (read.table c.args.self.now.depth) _ (shown.table c.joins.left.value) (token_list c.joins.rest.now) (c.in-Some.kind, token_list c.in-Some.after.now) c.in-Some.ensures ∙ rw (c.in_ok-next-in-Some.ensures) refl

pub returns : goal.returns
returns c = grind (arith, common_steps)

pub join_after-requires : goal.join_after-requires
join_after-requires g c = grind (arith, common_steps)
