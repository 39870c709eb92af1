use Rattle.std.proofs.Common.{◌++◌, ◌∙◌, ap, arith}
use Rattle.sql_text.specs.Tokens.{token_list}
use Rattle.sql_parser.specs.ReadSchema as read
use Rattle.sql_parser.specs.Words.{mapped}
use Rattle.sql_parser.proofs.Turns.{one_more}
use Rattle.sql_parser.proofs.TurnsTables.{next_item, no_item}
use Rattle.sql_parser.proofs.TurnsSchema.{elements_stop}
use Rattle.std.proofs.lemmas.Grind.{common_steps}
use Rattle.sql_parser.proofs.elements.elements.Goals as goal

pub returns-in-None : goal.returns-in-None
returns-in-None c =
    c.elements.invariant
    ∙ ap (mapped (λ xs. c.elements.elements ++ xs)) (elements_stop _ (token_list c.elements.rest.now) c.in-None.ensures.none)
    ∙ no_item c.elements.elements (token_list c.elements.rest.now)

pub elements-preserved : goal.elements-preserved
elements-preserved c =
    let e = one_more (λ n. mapped (λ xs. c.elements.elements ++ xs) (read.more_elements n (token_list c.elements.rest.now))) _ c.elements._turn c.elements-test.true c.elements.invariant in
    e ∙ rw (c.in-Some.ensures.found, c.in_ok-next-in-Some.ensures, c.in_ok-push-in-Some.ensures.ok) (next_item c.elements.elements c.in_ok-next-in-Some.next _)

pub elements-init : goal.elements-init
elements-init c = grind (arith, common_steps)
