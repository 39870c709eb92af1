use Rattle.std.proofs.Common.{◌∷◌, [], ◌++◌, ◌∙◌, ap, refl}
use Rattle.std.proofs.lemmas.Result.{err_from_is_err_and}
use Rattle.sql_text.specs.Tokens.{token_list}
use Rattle.sql_parser.specs.ReadText as text
use Rattle.sql_parser.specs.Words.{mapped}
use Rattle.sql_parser.proofs.Turns.{fails, one_more, no_turn, no_more}
use Rattle.sql_parser.proofs.TurnsTables.{sort_seen, sorts_seen, first_item, next_item, no_item, sorts_stop}
use Rattle.sql_parser.proofs.text.sorts.Goals as goal

pub sorts-init : goal.sorts-init
sorts-init c =
    rw (c.in_ok-sort_first.ensures, c.in_ok-push.ensures.ok, c.new-sorts.ensures)
    (first_item c.in_ok-sort_first.sort_first _ ∙ (no_turn (λ n. mapped (λ xs. (c.in_ok-sort_first.sort_first ∷ []) ++ xs) (text.more_sorts n (token_list c.in_ok-sort_first.after_first.now))) c.in_ok-sort_first.after_first.now))

pub returns-in-None : goal.returns-in-None
returns-in-None c =
    c.sorts.invariant
    ∙ ap (mapped (λ xs. c.sorts.sorts ++ xs)) (sorts_stop _ (token_list c.sorts.rest.now) c.in-None.ensures.none)
    ∙ no_item c.sorts.sorts (token_list c.sorts.rest.now)

pub returns-in_err-next-in-Some : goal.returns-in_err-next-in-Some
returns-in_err-next-in-Some c =
    let p = err_from_is_err_and c.from_residual-in_err-next-in-Some.result c.from_residual-in_err-next-in-Some.ensures.1 in
    let e = one_more (λ n. mapped (λ xs. c.sorts.sorts ++ xs) (text.more_sorts n (token_list c.sorts.rest.now))) _ c.sorts._turn c.sorts-test.true c.sorts.invariant in
    rw (p.1, p.2) (fails sort_seen sorts_seen _ _ _ (λ none. e ∙ rw (c.in-Some.ensures.found, none) refl) c.in_err-next-in-Some.ensures)

pub sorts-preserved : goal.sorts-preserved
sorts-preserved c =
    let e = one_more (λ n. mapped (λ xs. c.sorts.sorts ++ xs) (text.more_sorts n (token_list c.sorts.rest.now))) _ c.sorts._turn c.sorts-test.true c.sorts.invariant in
    e ∙ rw (c.in-Some.ensures.found, c.in_ok-next-in-Some.ensures, c.in_ok-push-in-Some.ensures.ok) (next_item c.sorts.sorts c.in_ok-next-in-Some.next _)

pub returns : goal.returns
returns c =
    no_more (λ n. mapped (λ xs. c.sorts.sorts ++ xs) (text.more_sorts n (token_list c.sorts.rest.now))) _ c.sorts._turn c.sorts-test.false c.sorts.invariant
    ∙ no_item c.sorts.sorts (token_list c.sorts.rest.now)
