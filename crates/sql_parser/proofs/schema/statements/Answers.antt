use Rattle.std.proofs.Common.{◌++◌, ◌∙◌, map, ap, arith}
use Rattle.std.specs.Option.{option_map}
use Rattle.sql_ast.specs.Shown as shown
use Rattle.sql_text.specs.Tokens.{token_list}
use Rattle.sql_parser.specs.ReadSchema as read
use Rattle.sql_parser.proofs.Turns.{one_more, no_turn}
use Rattle.sql_parser.proofs.TurnsSchema.{before_none, before_one, statements_next}
use Rattle.std.proofs.lemmas.Grind.{common_steps}
use Rattle.sql_parser.proofs.schema.statements.Goals as goal

pub statements-init : goal.statements-init
statements-init c =
    rw c.new-statements.ensures
    (before_none _ ∙ (no_turn (λ n. option_map (λ more. more) (read.statements n (token_list c.args.ts.now))) c.args.ts.now))

pub statements-preserved : goal.statements-preserved
statements-preserved c =
    let e = one_more (λ n. option_map (λ more. map shown.statement c.statements.statements ++ more) (read.statements n (token_list c.statements.rest.now))) _ c.statements._turn c.statements-test.true c.statements.invariant in
    let next = statements_next _ (token_list c.statements.rest.now) (shown.statement c.in_ok-next.next) (token_list c.in_ok-next.after.now) c.in_ok-next.ensures in
    e ∙ rw c.in_ok-push.ensures.ok (ap (option_map (λ more. map shown.statement c.statements.statements ++ more)) next ∙ before_one shown.statement c.statements.statements c.in_ok-next.next _)

pub returns-else-is_empty-2 : goal.returns-else-is_empty-2
returns-else-is_empty-2 c = grind (arith, common_steps)

pub returns-in_err-next : goal.returns-in_err-next
returns-in_err-next c = grind (arith, common_steps)

pub returns-then-is_empty : goal.returns-then-is_empty
returns-then-is_empty c = grind (arith, common_steps)

pub returns-then-is_empty-2 : goal.returns-then-is_empty-2
returns-then-is_empty-2 c = grind (arith, common_steps)
