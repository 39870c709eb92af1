use Rattle.std.proofs.Common.{arith}
use Rattle.std.proofs.lemmas.Grind.{common_steps}
use Rattle.sql_text.specs.Tokens.{token_list}
use Rattle.sql_parser.proofs.TurnsSchema.{no_constraint}
use Rattle.sql_parser.proofs.elements.constraint_at.Goals as goal

pub returns-in_default-after_unique-clause-none : goal.returns-in_default-after_unique-clause-none
returns-in_default-after_unique-clause-none c = no_constraint (token_list c.args.ts.now) c.in_default.ensures.none c.in_default-after_primary_key.ensures.none c.in_default-after_unique.ensures.none

pub returns-in-Some-clause-found : goal.returns-in-Some-clause-found
returns-in-Some-clause-found c = grind (arith, common_steps)

pub returns-in-Some-after_unique-clause-found : goal.returns-in-Some-after_unique-clause-found
returns-in-Some-after_unique-clause-found c = grind (arith, common_steps)

pub returns-in-Some-after_unique-clause-shorter : goal.returns-in-Some-after_unique-clause-shorter
returns-in-Some-after_unique-clause-shorter c = grind (arith, common_steps)

pub returns-in-Some-after_primary_key-clause-found : goal.returns-in-Some-after_primary_key-clause-found
returns-in-Some-after_primary_key-clause-found c = grind (arith, common_steps)
