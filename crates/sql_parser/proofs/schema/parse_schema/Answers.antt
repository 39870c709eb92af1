use Rattle.std.proofs.lemmas.Grind.{common_steps}
use Rattle.std.proofs.Common.{sym, arith}
use Rattle.sql_ast.specs.Grammatical.{SpellsSchema}
use Rattle.sql_ast.specs.Shown as shown
use Rattle.sql_text.proofs.Crowds.{shallow_if_read}
use Rattle.sql_text.specs.Tokens.{token_list}
use Rattle.sql_parser.specs.ReadSchema.{schema_tree}
use Rattle.sql_parser.proofs.CompleteSchema.{schema_complete, schema_unique}
use Rattle.sql_parser.proofs.Outcomes.{found_of, only_of, none_of}
use Rattle.sql_parser.proofs.SoundSchema.{schema_sound}
use Rattle.sql_parser.proofs.schema.parse_schema.Goals as goal

pub returns-then-too_deep-clause-unique : goal.returns-then-too_deep-clause-unique
returns-then-too_deep-clause-unique c = schema_unique (token_list c.args.tokens.now)

pub returns-clause-found : goal.returns-clause-found
returns-clause-found c =
    let ts = token_list c.args.tokens.now in
    found_of shown.schema (λ x. SpellsSchema x ts) (schema_tree ts) (schema_sound ts) c.schema.result c.schema.ensures

pub returns-clause-only : goal.returns-clause-only
returns-clause-only c =
    let ts = token_list c.args.tokens.now in
    let room = shallow_if_read ts (sym c.if-too_deep.ensures) in
    only_of shown.schema (λ x. SpellsSchema x ts) (schema_tree ts) (λ x. schema_complete ts x room) c.schema.result c.schema.ensures

pub returns-clause-none : goal.returns-clause-none
returns-clause-none c =
    let ts = token_list c.args.tokens.now in
    let room = shallow_if_read ts (sym c.if-too_deep.ensures) in
    none_of shown.schema (λ x. SpellsSchema x ts) (schema_tree ts) (λ x. schema_complete ts x room) c.schema.result c.schema.ensures

pub returns-clause-reading : goal.returns-clause-reading
returns-clause-reading c = λ flat. λ x. let ts = token_list c.args.tokens.now in (schema_sound ts x, schema_complete ts x (shallow_if_read ts flat))

pub returns-clause-unique : goal.returns-clause-unique
returns-clause-unique c = schema_unique (token_list c.args.tokens.now)

pub returns-then-too_deep-clause-over : goal.returns-then-too_deep-clause-over
returns-then-too_deep-clause-over c = grind (arith, common_steps)

pub returns-clause-over : goal.returns-clause-over
returns-clause-over c = grind (arith, common_steps)
