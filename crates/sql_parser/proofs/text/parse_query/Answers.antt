use Rattle.std.proofs.Common.{sym, arith}
use Rattle.sql_ast.specs.Grammatical.{SpellsQuery}
use Rattle.sql_ast.specs.Shown as shown
use Rattle.sql_text.proofs.Crowds.{shallow_if_read}
use Rattle.sql_text.specs.Tokens.{token_list}
use Rattle.sql_parser.specs.ReadText.{query_tree}
use Rattle.sql_parser.proofs.Complete.{query_complete, query_unique}
use Rattle.sql_parser.proofs.Outcomes.{found_of, only_of, none_of}
use Rattle.sql_parser.proofs.SoundText.{query_sound}
use Rattle.std.proofs.lemmas.Grind.{common_steps}
use Rattle.sql_parser.proofs.text.parse_query.Goals as goal

pub returns-then-too_deep-clause-unique : goal.returns-then-too_deep-clause-unique
returns-then-too_deep-clause-unique c = λ a b. query_unique a b (token_list c.args.tokens.now)

pub returns-clause-found : goal.returns-clause-found
returns-clause-found c =
    let ts = token_list c.args.tokens.now in
    found_of shown.query_text (λ x. SpellsQuery x ts) (query_tree ts) (query_sound ts) c.query_text.result c.query_text.ensures

pub returns-clause-only : goal.returns-clause-only
returns-clause-only c =
    let ts = token_list c.args.tokens.now in
    let room = shallow_if_read ts (sym c.if-too_deep.ensures) in
    only_of shown.query_text (λ x. SpellsQuery x ts) (query_tree ts) (λ x. λ spells. query_complete x ts spells room) c.query_text.result c.query_text.ensures

pub returns-clause-none : goal.returns-clause-none
returns-clause-none c =
    let ts = token_list c.args.tokens.now in
    let room = shallow_if_read ts (sym c.if-too_deep.ensures) in
    none_of shown.query_text (λ x. SpellsQuery x ts) (query_tree ts) (λ x. λ spells. query_complete x ts spells room) c.query_text.result c.query_text.ensures

pub returns-clause-reading : goal.returns-clause-reading
returns-clause-reading c = λ flat. λ x. let ts = token_list c.args.tokens.now in (query_sound ts x, λ spells. query_complete x ts spells (shallow_if_read ts flat))

pub returns-clause-unique : goal.returns-clause-unique
returns-clause-unique c = λ a b. query_unique a b (token_list c.args.tokens.now)

pub returns-clause-over : goal.returns-clause-over
returns-clause-over c = grind (arith, common_steps)

pub returns-then-too_deep-clause-gives : goal.returns-then-too_deep-clause-gives
returns-then-too_deep-clause-gives c = grind (arith, common_steps)

pub returns-then-too_deep-clause-none : goal.returns-then-too_deep-clause-none
returns-then-too_deep-clause-none c = grind (arith, common_steps)

pub returns-then-too_deep-clause-over : goal.returns-then-too_deep-clause-over
returns-then-too_deep-clause-over c = grind (arith, common_steps)

pub returns-then-too_deep-clause-reading : goal.returns-then-too_deep-clause-reading
returns-then-too_deep-clause-reading c = grind (arith, common_steps)

pub returns-then-too_deep-clause-only : goal.returns-then-too_deep-clause-only
returns-then-too_deep-clause-only c = grind (arith, common_steps)

pub returns-clause-gives : goal.returns-clause-gives
returns-clause-gives c = grind (arith, common_steps)

pub returns-then-too_deep-clause-found : goal.returns-then-too_deep-clause-found
returns-then-too_deep-clause-found c = grind (arith, common_steps)
