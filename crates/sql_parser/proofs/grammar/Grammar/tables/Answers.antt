use Rattle.std.proofs.lemmas.Grind.{common_steps}
use Rattle.std.proofs.Common.{◌-◌, ◌∙◌, [], ◌∷◌, ◌++◌, length, ap, sym, refl, arith}
use Rattle.std.proofs.lemmas.Result.{err_from_is_err_and}
use Rattle.sql_text.specs.Tokens.{token_list}
use Rattle.sql_ast.specs.Shown as shown
use Rattle.sql_parser.specs.Read as read
use Rattle.sql_parser.specs.Words.{mapped}
use Rattle.sql_parser.proofs.Turns.{fails, one_more, no_more}
use Rattle.sql_parser.proofs.TurnsTables.{append_tables, tables_stop, no_more_tables, next_table, table_one, tables_begin, table_seen, tables_seen}
use Rattle.sql_parser.proofs.grammar.Grammar.tables.Goals as goal

pub tables-init : goal.tables-init
tables-init g c =
    tables_begin (read.expr c.args.self.now.depth) (read.cond c.args.self.now.depth) (read.query c.args.self.now.depth) (read.table c.args.self.now.depth) (token_list c.args.ts.now) (shown.table c.in_ok-table_first.table_first.value) c.in_ok-table_first.after_first.now c.in_ok-table_first.ensures
    ∙ ap (λ xs. mapped (append_tables (shown.table_list xs)) (read.more_tables (read.expr c.args.self.now.depth) (read.cond c.args.self.now.depth) (read.query c.args.self.now.depth) (read.table c.args.self.now.depth) (length c.in_ok-table_first.after_first.now - 0) (token_list c.in_ok-table_first.after_first.now)))
    (sym (c.in_ok-push_boxed.ensures.ok ∙ ap (λ xs. xs ++ c.in_ok-table_first.table_first.value ∷ []) c.new-tables.ensures))

pub returns-in-None : goal.returns-in-None
returns-in-None g c =
    c.tables.invariant
    ∙ ap (mapped (append_tables (shown.table_list c.tables.tables))) (tables_stop (read.expr c.args.self.now.depth) (read.cond c.args.self.now.depth) (read.query c.args.self.now.depth) (read.table c.args.self.now.depth) _ (token_list c.tables.rest.now) c.in-None.ensures.none)
    ∙ no_more_tables (shown.table_list c.tables.tables) (token_list c.tables.rest.now)

pub returns-in_err-next-in-Some : goal.returns-in_err-next-in-Some
returns-in_err-next-in-Some g c =
    let p = err_from_is_err_and c.from_residual-in_err-next-in-Some.result c.from_residual-in_err-next-in-Some.ensures.1 in
    let e = one_more (λ n. mapped (append_tables (shown.table_list c.tables.tables)) (read.more_tables (read.expr c.args.self.now.depth) (read.cond c.args.self.now.depth) (read.query c.args.self.now.depth) (read.table c.args.self.now.depth) n (token_list c.tables.rest.now))) _ c.tables._turn c.tables-test.true c.tables.invariant in
    rw (p.1, p.2) (fails table_seen tables_seen _ _ _ (λ none. e ∙ rw (c.in-Some.ensures.found, none) refl) c.in_err-next-in-Some.ensures)

pub tables-preserved : goal.tables-preserved
tables-preserved g c =
    let e = one_more (λ n. mapped (append_tables (shown.table_list c.tables.tables)) (read.more_tables (read.expr c.args.self.now.depth) (read.cond c.args.self.now.depth) (read.query c.args.self.now.depth) (read.table c.args.self.now.depth) n (token_list c.tables.rest.now))) _ c.tables._turn c.tables-test.true c.tables.invariant in
    e ∙ rw (c.in-Some.ensures.found, c.in_ok-next-in-Some.ensures, c.in_ok-push_boxed-in-Some.ensures.ok, table_one c.tables.tables c.in_ok-next-in-Some.next.value) (next_table (shown.table_list c.tables.tables) (shown.table c.in_ok-next-in-Some.next.value) _)

pub returns : goal.returns
returns g c =
    no_more (λ n. mapped (append_tables (shown.table_list c.tables.tables)) (read.more_tables (read.expr c.args.self.now.depth) (read.cond c.args.self.now.depth) (read.query c.args.self.now.depth) (read.table c.args.self.now.depth) n (token_list c.tables.rest.now))) _ c.tables._turn c.tables-test.false c.tables.invariant
    ∙ no_more_tables (shown.table_list c.tables.tables) (token_list c.tables.rest.now)

pub tref-requires-in-Some : goal.tref-requires-in-Some
tref-requires-in-Some g c = grind (arith, common_steps)
