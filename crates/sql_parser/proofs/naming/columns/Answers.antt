use Rattle.std.proofs.Common.{◌∷◌, [], ◌++◌, ◌∙◌, ap, arith}
use Rattle.sql_text.specs.Tokens.{token_list}
use Rattle.sql_parser.specs.Words as words
use Rattle.sql_parser.proofs.Turns.{one_more, no_turn, no_more}
use Rattle.sql_parser.proofs.TurnsTables.{first_item, next_item, no_item, columns_stop}
use Rattle.std.proofs.lemmas.Grind.{common_steps}
use Rattle.sql_parser.proofs.naming.columns.Goals as goal

pub columns-init : goal.columns-init
columns-init c =
    rw (c.in_ok-column_first.ensures, c.in_ok-push.ensures.ok, c.new-columns.ensures)
    (first_item c.in_ok-column_first.column_first _ ∙ (no_turn (λ n. words.mapped (λ xs. (c.in_ok-column_first.column_first ∷ []) ++ xs) (words.more_columns n (token_list c.in_ok-column_first.after_first.now))) c.in_ok-column_first.after_first.now))

pub returns-in-None : goal.returns-in-None
returns-in-None c =
    c.columns.invariant
    ∙ ap (words.mapped (λ xs. c.columns.columns ++ xs)) (columns_stop _ (token_list c.columns.rest.now) c.in-None.ensures.none)
    ∙ no_item c.columns.columns (token_list c.columns.rest.now)

pub columns-preserved : goal.columns-preserved
columns-preserved c =
    let e = one_more (λ n. words.mapped (λ xs. c.columns.columns ++ xs) (words.more_columns n (token_list c.columns.rest.now))) _ c.columns._turn c.columns-test.true c.columns.invariant in
    e ∙ rw (c.in-Some.ensures.found, c.in_ok-next-in-Some.ensures, c.in_ok-push-in-Some.ensures.ok) (next_item c.columns.columns c.in_ok-next-in-Some.next _)

pub returns : goal.returns
returns c =
    no_more (λ n. words.mapped (λ xs. c.columns.columns ++ xs) (words.more_columns n (token_list c.columns.rest.now))) _ c.columns._turn c.columns-test.false c.columns.invariant
    ∙ no_item c.columns.columns (token_list c.columns.rest.now)
