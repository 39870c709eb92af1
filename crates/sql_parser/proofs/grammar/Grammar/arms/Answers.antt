use Rattle.std.proofs.Common.{◌∷◌, [], ◌∙◌, ap, arith}
use Rattle.sql_text.specs.Tokens.{token_list}
use Rattle.sql_parser.specs.Read as read
use Rattle.sql_parser.proofs.Turns.{no_turn, one_more, no_more, arms_then, arms_stop, arms_first, arms_more, arms_whole}
use Rattle.std.proofs.lemmas.Grind.{common_steps}
use Rattle.sql_parser.proofs.grammar.Grammar.arms.Goals as goal

pub arms-init : goal.arms-init
arms-init g c =
    rw (c.in-Some.ensures.found, c.in_ok-first.ensures, c.in_ok-push_boxed.ensures.ok, c.new-arms.ensures)
    (arms_first c.in_ok-first.first.value _ ∙ no_turn (λ n. arms_then (c.in_ok-first.first.value ∷ []) (read.more_arms (read.expr c.args.self.now.depth) (read.cond c.args.self.now.depth) (read.query c.args.self.now.depth) (read.table c.args.self.now.depth) n (token_list c.in_ok-first.after.now))) c.in_ok-first.after.now)

pub returns-in-None : goal.returns-in-None
returns-in-None g c =
    c.arms.invariant
    ∙ ap (arms_then c.arms.arms) (arms_stop (read.expr c.args.self.now.depth) (read.cond c.args.self.now.depth) (read.query c.args.self.now.depth) (read.table c.args.self.now.depth) _ (token_list c.arms.rest.now) c.in-None.ensures.none)
    ∙ arms_whole c.arms.arms (token_list c.arms.rest.now)

pub arms-preserved : goal.arms-preserved
arms-preserved g c =
    let e = one_more (λ n. arms_then c.arms.arms (read.more_arms (read.expr c.args.self.now.depth) (read.cond c.args.self.now.depth) (read.query c.args.self.now.depth) (read.table c.args.self.now.depth) n (token_list c.arms.rest.now))) _ c.arms._turn c.arms-test.true c.arms.invariant in
    e ∙ rw (c.in-Some-after_when.ensures.found, c.in_ok-item-in-Some-after_when.ensures, c.in_ok-push_boxed-in-Some-after_when.ensures.ok) (arms_more c.arms.arms c.in_ok-item-in-Some-after_when.item.value _)

pub returns : goal.returns
returns g c =
    no_more (λ n. arms_then c.arms.arms (read.more_arms (read.expr c.args.self.now.depth) (read.cond c.args.self.now.depth) (read.query c.args.self.now.depth) (read.table c.args.self.now.depth) n (token_list c.arms.rest.now))) _ c.arms._turn c.arms-test.false c.arms.invariant
    ∙ arms_whole c.arms.arms (token_list c.arms.rest.now)

pub arm-requires-in-Some-after_when : goal.arm-requires-in-Some-after_when
arm-requires-in-Some-after_when g c = grind (arith, common_steps)
