use Rattle.std.proofs.Common.{◌∷◌, [], ◌∙◌, ap, arith}
use Rattle.sql_text.specs.Tokens.{token_list}
use Rattle.sql_parser.specs.Read as read
use Rattle.sql_parser.proofs.Turns.{no_turn, one_more, no_more, choices_then, choices_stop, choices_first, choices_more, choices_whole}
use Rattle.std.proofs.lemmas.Grind.{common_steps}
use Rattle.sql_parser.proofs.grammar.Grammar.choices.Goals as goal

pub choices-init : goal.choices-init
choices-init g c =
    rw (c.in-Some.ensures.found, c.in_ok-first.ensures, c.in_ok-push_boxed.ensures.ok, c.new-choices.ensures)
    (choices_first c.in_ok-first.first.value _ ∙ no_turn (λ n. choices_then (c.in_ok-first.first.value ∷ []) (read.more_choices (read.expr c.args.self.now.depth) (read.cond c.args.self.now.depth) (read.query c.args.self.now.depth) (read.table c.args.self.now.depth) n (token_list c.in_ok-first.after.now))) c.in_ok-first.after.now)

pub returns-in-None : goal.returns-in-None
returns-in-None g c =
    c.choices.invariant
    ∙ ap (choices_then c.choices.choices) (choices_stop (read.expr c.args.self.now.depth) (read.cond c.args.self.now.depth) (read.query c.args.self.now.depth) (read.table c.args.self.now.depth) _ (token_list c.choices.rest.now) c.in-None.ensures.none)
    ∙ choices_whole c.choices.choices (token_list c.choices.rest.now)

pub choices-preserved : goal.choices-preserved
choices-preserved g c =
    let e = one_more (λ n. choices_then c.choices.choices (read.more_choices (read.expr c.args.self.now.depth) (read.cond c.args.self.now.depth) (read.query c.args.self.now.depth) (read.table c.args.self.now.depth) n (token_list c.choices.rest.now))) _ c.choices._turn c.choices-test.true c.choices.invariant in
    e ∙ rw (c.in-Some-after_when.ensures.found, c.in_ok-item-in-Some-after_when.ensures, c.in_ok-push_boxed-in-Some-after_when.ensures.ok) (choices_more c.choices.choices c.in_ok-item-in-Some-after_when.item.value _)

pub returns : goal.returns
returns g c =
    no_more (λ n. choices_then c.choices.choices (read.more_choices (read.expr c.args.self.now.depth) (read.cond c.args.self.now.depth) (read.query c.args.self.now.depth) (read.table c.args.self.now.depth) n (token_list c.choices.rest.now))) _ c.choices._turn c.choices-test.false c.choices.invariant
    ∙ choices_whole c.choices.choices (token_list c.choices.rest.now)
