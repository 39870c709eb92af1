use Rattle.std.proofs.lemmas.Grind.{common_steps}
use Rattle.std.proofs.Common.{◌∙◌, ap, sym, arith}
use Rattle.sql_text.specs.Tokens.{token_list}
use Rattle.sql_parser.specs.Ahead as ahead
use Rattle.sql_parser.proofs.Lookahead.{after_two}
use Rattle.sql_parser.proofs.ahead.+past.Goals as goal

pub past_bracket-returns-then-ends_query-clause-rest : goal.past_bracket-returns-then-ends_query-clause-rest
past_bracket-returns-then-ends_query-clause-rest t c = c.after.ensures ∙ ap (ahead.after 0) c.in-Some.ensures.rest ∙ sym (after_two (token_list c.args.ts.now))

pub past_query-past_bracket-requires : goal.past_query-past_bracket-requires
past_query-past_bracket-requires t c = grind (arith, common_steps)
